-- The type that a JSON value declares, computed: its place, the nodes that it adds, and the names known afterwards. There is one function
-- for each rule of `Denotes`, and the results agree.
use Rattle.std.specs.Prelude.{ℕ, zero, suc, ◌+◌, List, [], ◌∷◌, map, ◌==◌, if◌then◌else◌, Option, Some, None, option_map, codes}
use Rattle.std.specs.Str.{bytes_eq}
use Rattle.serde_json.specs.Data.{Data, string, Items, Members, no_members}
use Rattle.serde_json.specs.Data as json
use Rattle.serde_json.specs.Find.{get_member, as_object}
use Rattle.avro_nodes.specs.declared.node.PrimitiveKind.{PrimitiveKind}
use Rattle.avro_nodes.specs.Nodes.{FieldView, NodeView, primitive, array, mapping, union, rec}
use Rattle.avro_schema.specs.declared.keywords.TypeKind.{TypeKind}
use Rattle.avro_schema.specs.declared.keywords.TypeKind.TheVariants as type_kind
use Rattle.avro_schema.specs.declared.keywords.Container.{Container}
use Rattle.avro_schema.specs.declared.keywords.Container.TheVariants.{Items as of_items, Values as of_values}
use Rattle.avro_schema.specs.Inside.KindNumbers.{branch_kind_number}
use Rattle.avro_schema.specs.Names.{Known, resolved, defined}
use Rattle.avro_nodes.specs.Names.{namespace_of}
use Rattle.avro_schema.specs.Keywords.{kind_of, type_kind_of}
use Rattle.avro_schema.specs.Attributes.{◌>>=◌, without_all, text_in, array_in}
use Rattle.avro_schema.specs.Inside.Distinct.{all_distinct}
use Rattle.avro_schema.specs.Inside.Declarations.{name_keys, named_in, enum_at, fixed_at, FieldAttributesView, field_attributes_in, field_attribute_keys, bounded}
use Rattle.avro_schema.specs.Inside.ValueReaders.{Part, PartReader, TypeReader, parts_of, next_place}

-- a reference, which adds no node
unfoldable pub reference_to : List ℕ → List ℕ → Known → Option (Part ℕ)
reference_to space name known = option_map (λ p. record { it = p; nodes = []; known = known }) (resolved known space name)

unfoldable pub primitive_at : PrimitiveKind → Members → Known → ℕ → Option (Part ℕ)
primitive_at kind ms known first = do
  place ← next_place first
  extra ← bounded ms
  Some (record { it = place; nodes = primitive kind extra ∷ []; known = known })

abbrev pub kind_or_reference : Option PrimitiveKind → List ℕ → List ℕ → Known → ℕ → Option (Part ℕ)
kind_or_reference (Some kind) space name known first = primitive_at kind no_members known first
kind_or_reference None space name known first = reference_to space name known

-- a string: the name of a primitive type, else a reference
unfoldable pub name_at : List ℕ → List ℕ → Known → ℕ → Option (Part ℕ)
name_at space name known first = kind_or_reference (kind_of name) space name known first

-- ---- arrays and maps

abbrev pub member_name : Container → List ℕ
member_name of_items = codes "items"
member_name of_values = codes "values"

abbrev pub container_node : Container → ℕ → Members → NodeView
container_node of_items place extra = array place extra
container_node of_values place extra = mapping place extra

unfoldable pub container_at : Container → PartReader ℕ → Members → Known → ℕ → Option (Part ℕ)
container_at container one ms known first = do
  place ← next_place first
  inner ← get_member (member_name container) ms
  extra ← bounded (without_all (member_name container ∷ []) ms)
  p ← one inner known (first + 1)
  Some (record { it = place; nodes = container_node container p.it extra ∷ p.nodes; known = p.known })

-- ---- unions

-- a branch of a union: its place and the number of its kind
unfoldable pub branch_of : PartReader ℕ → PartReader (ℕ × ℕ)
branch_of one d known first = do
  p ← one d known first
  number ← branch_kind_number p.it p.nodes
  Some (record { it = (p.it, number); nodes = p.nodes; known = p.known })

unfoldable pub union_at : PartReader ℕ → Items → Known → ℕ → Option (Part ℕ)
union_at one ds known first = do
  place ← next_place first
  ps ← parts_of (branch_of one) ds known (first + 1)
  if all_distinct (λ a b. a == b) (map (λ b. b.1) ps.it) then Some (record { it = place; nodes = union (map (λ b. b.0) ps.it) ∷ ps.nodes; known = ps.known }) else None

-- ---- records

-- the field with these attributes, this place of its type, and these other attributes
abbrev pub field_at : FieldAttributesView → ℕ → Members → FieldView
field_at label place extra = record { name = label.name; place = place; aliases = label.aliases; order = label.order; value = label.value; extra = extra }

unfoldable pub field_of : PartReader ℕ → PartReader FieldView
field_of one d known first = do
  ms ← as_object d
  label ← field_attributes_in ms
  inner ← get_member (codes "type") (without_all field_attribute_keys ms)
  extra ← bounded (without_all (codes "type" ∷ []) (without_all field_attribute_keys ms))
  p ← one inner known first
  Some (record { it = field_at label p.it extra; nodes = p.nodes; known = p.known })

unfoldable pub record_at : TypeReader → List ℕ → Members → Known → ℕ → Option (Part ℕ)
record_at types space ms known first = do
  place ← next_place first
  named ← named_in space ms known
  items ← array_in (codes "fields") (without_all name_keys ms)
  extra ← bounded (without_all (codes "fields" ∷ []) (without_all name_keys ms))
  ps ← parts_of (field_of (types (namespace_of named.name))) items (defined known named.name place) (first + 1)
  if all_distinct bytes_eq (map (λ f. f.name) ps.it) then Some (record { it = place; nodes = rec named ps.it extra ∷ ps.nodes; known = ps.known }) else None

-- ---- types

-- an object, by what its `type` declares; `ms` are its other members
abbrev pub by_type_kind : TypeKind → List ℕ → TypeReader → List ℕ → Members → Known → ℕ → Option (Part ℕ)
by_type_kind (type_kind.Primitive kind) name types space ms known first = primitive_at kind ms known first
by_type_kind type_kind.Array name types space ms known first = container_at of_items (types space) ms known first
by_type_kind type_kind.Map name types space ms known first = container_at of_values (types space) ms known first
by_type_kind type_kind.Fixed name types space ms known first = fixed_at space ms known first
by_type_kind type_kind.Enum name types space ms known first = enum_at space ms known first
by_type_kind type_kind.Record name types space ms known first = record_at types space ms known first
by_type_kind type_kind.Reference name types space ms known first = bounded ms >>= λ _. reference_to space name known

unfoldable pub object_at : TypeReader → List ℕ → Members → Known → ℕ → Option (Part ℕ)
object_at types space ms known first = do
  name ← text_in (codes "type") ms
  by_type_kind (type_kind_of name) name types space (without_all (codes "type" ∷ []) ms) known first

-- a value, by its JSON form; `types` reads the types inside it
abbrev pub form_at : TypeReader → List ℕ → PartReader ℕ
form_at types space (string s) known first = name_at space s known first
form_at types space (json.array ds) known first = union_at (types space) ds known first
form_at types space (json.object ms) known first = object_at types space ms known first
form_at types space json.null known first = None
form_at types space (json.boolean b) known first = None
form_at types space (json.number n) known first = None

-- a type that nests at most n levels deep
unfoldable pub type_at : ℕ → TypeReader
type_at zero space d known first = None
type_at (suc n) space d known first = form_at (type_at n) space d known first
