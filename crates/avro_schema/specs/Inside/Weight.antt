-- The bytes that the full names and aliases of all definitions take (Avro 1.11 specification, Names; Aliases): in nodes, and in a JSON
-- value before its nodes exist.
use Rattle.std.specs.Prelude.{ℕ, zero, suc, ◌+◌, List, [], ◌∷◌, length, if◌then◌else◌, Option, Some, None, option_and_then, unwrap_or, codes}
use Rattle.serde_json.specs.Data.{Data, string, Items, no_items, item, Members}
use Rattle.serde_json.specs.Data as json
use Rattle.serde_json.specs.Find.{get_member, as_str, as_object}
use Rattle.avro_nodes.specs.Names.{has_dot, namespace_of}
use Rattle.avro_nodes.specs.Nodes.{NamedView, NodeView, primitive, array, mapping, union, enumeration, fixed, rec}
use Rattle.avro_schema.specs.declared.keywords.TypeKind.{TypeKind}
use Rattle.avro_schema.specs.declared.keywords.TypeKind.TheVariants as type_kind
use Rattle.avro_schema.specs.Names.{qualified}
use Rattle.avro_schema.specs.Keywords.{type_kind_of}
use Rattle.avro_schema.specs.Attributes.{text_in, array_in}

abbrev pub texts_size : List (List ℕ) → ℕ
texts_size [] = 0
texts_size (t ∷ ts) = length t + texts_size ts

abbrev pub named_size : NamedView → ℕ
named_size named = length named.name + texts_size named.aliases

-- the bytes of the full name and the aliases that the node defines; 0 for a type without a name
abbrev pub node_names_size : NodeView → ℕ
node_names_size (primitive kind extra) = 0
node_names_size (array place extra) = 0
node_names_size (mapping place extra) = 0
node_names_size (union branches) = 0
node_names_size (enumeration named symbols fallback extra) = named_size named
node_names_size (fixed named size extra) = named_size named
node_names_size (rec named fields extra) = named_size named

-- the names and aliases in the nodes
abbrev pub names_size : List NodeView → ℕ
names_size [] = 0
names_size (node ∷ nodes) = node_names_size node + names_size nodes

-- ---- the same for a JSON value; the number has no meaning if the value denotes no nodes

abbrev pub map_or_zero : {A : Type 0} → (A → ℕ) → Option A → ℕ
map_or_zero one None = 0
map_or_zero one (Some x) = one x

abbrev pub items_size : (Data → ℕ) → Items → ℕ
items_size one no_items = 0
items_size one (item d ds) = one d + items_size one ds

-- the full name of a name in a namespace; a name with a dot is a full name already
unfoldable pub full_name_in : List ℕ → List ℕ → List ℕ
full_name_in space name = if has_dot name then name else qualified space name

abbrev pub alias_size : List ℕ → Data → ℕ
alias_size space d = map_or_zero (λ alias. length (full_name_in space alias)) (as_str d)

-- The namespace of a definition, by the enclosing namespace, its name and its attributes. For a name with a dot, it is the part before the last dot.
-- For any other, it is the string of the attribute `namespace`, even if that is no valid namespace. Without such a string, it is the enclosing one.
unfoldable pub namespace_in : List ℕ → List ℕ → Members → List ℕ
namespace_in enclosing name ms = if has_dot name then namespace_of name else unwrap_or (text_in (codes "namespace") ms) enclosing

-- the bytes of the full name and the aliases of a definition in the namespace
unfoldable pub definition_names_size : List ℕ → List ℕ → Members → ℕ
definition_names_size space name ms = length (full_name_in space name) + map_or_zero (items_size (alias_size space)) (array_in (codes "aliases") ms)

-- the same of an enum or a fixed, given the enclosing namespace; 0 without a string `name`
unfoldable pub enum_or_fixed_size : List ℕ → Members → ℕ
enum_or_fixed_size enclosing ms = map_or_zero (λ name. definition_names_size (namespace_in enclosing name ms) name ms) (text_in (codes "name") ms)

-- the bytes of the full names and aliases of all definitions in a type, given the enclosing namespace
abbrev pub NamesSize : Type 0
NamesSize = List ℕ → Data → ℕ

abbrev pub field_size : (Data → ℕ) → Data → ℕ
field_size one d = map_or_zero one (option_and_then (get_member (codes "type")) (as_object d))

unfoldable pub record_size : NamesSize → List ℕ → Members → ℕ
record_size types space ms =
    map_or_zero (λ name. definition_names_size (namespace_in space name ms) name ms + map_or_zero (items_size (field_size (types (namespace_in space name ms)))) (array_in (codes "fields") ms))
    (text_in (codes "name") ms)

-- the same of an object, by what its `type` declares
abbrev pub by_type_kind : TypeKind → NamesSize → List ℕ → Members → ℕ
by_type_kind (type_kind.Primitive kind) types space ms = 0
by_type_kind type_kind.Array types space ms = map_or_zero (types space) (get_member (codes "items") ms)
by_type_kind type_kind.Map types space ms = map_or_zero (types space) (get_member (codes "values") ms)
by_type_kind type_kind.Fixed types space ms = enum_or_fixed_size space ms
by_type_kind type_kind.Enum types space ms = enum_or_fixed_size space ms
by_type_kind type_kind.Record types space ms = record_size types space ms
by_type_kind type_kind.Reference types space ms = 0

unfoldable pub object_size : NamesSize → List ℕ → Members → ℕ
object_size types space ms = map_or_zero (λ name. by_type_kind (type_kind_of name) types space ms) (text_in (codes "type") ms)

abbrev pub form_size : NamesSize → NamesSize
form_size types space (json.array ds) = items_size (types space) ds
form_size types space (json.object ms) = object_size types space ms
form_size types space (string s) = 0
form_size types space json.null = 0
form_size types space (json.boolean b) = 0
form_size types space (json.number n) = 0

-- the same of a type, of which at most n levels count
unfoldable pub weight : ℕ → NamesSize
weight zero space d = 0
weight (suc n) space d = form_size (weight n) space d
