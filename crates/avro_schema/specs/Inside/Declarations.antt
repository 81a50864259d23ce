-- The parts of a declaration other than the types inside it, computed.
use Rattle.std.specs.Prelude.{ℕ, List, [], ◌∷◌, ◌||◌, nat_le, if◌then◌else◌, Option, Some, None, option_map, is_some, codes, string_bytes}
use Rattle.std.specs.Str.{bytes_eq}
use Rattle.serde_json.specs.Data.{Data, Members, depth, members_depth}
use Rattle.serde_json.specs.Find.{get_member}
use Rattle.serde_json.specs.View.{view}
use Rattle.avro_nodes.specs.declared.node.Order.{Order}
use Rattle.avro_nodes.specs.Limits.{max_nesting}
use Rattle.avro_nodes.specs.Nodes.{NamedView, texts_view, enumeration, fixed}
use Rattle.avro_schema.specs.declared.field_attributes.FieldAttributes.{FieldAttributes}
use Rattle.avro_schema.specs.Names.{Known, is_simple, allowed, full_name, alias_in, defined}
use Rattle.avro_nodes.specs.Names.{namespace_of, last_part}
use Rattle.avro_schema.specs.Keywords.{kind_of}
use Rattle.avro_schema.specs.Attributes.{◌>>=◌, without_all, text_in, array_in, text_if_any, texts_in, texts_if_any, size_of, fallback_in, order_in}
use Rattle.avro_schema.specs.Inside.Distinct.{all_distinct}
use Rattle.avro_schema.specs.Inside.ValueReaders.{Part, next_place}

-- these attributes, if they nest within the limit
unfoldable pub bounded : Members → Option Members
bounded ms = if nat_le (members_depth ms) max_nesting then Some ms else None

-- an optional default, if it nests within the limit
abbrev pub bounded_value : Option Data → Option (Option Data)
bounded_value None = Some None
bounded_value (Some d) = if nat_le (depth d) max_nesting then Some (Some d) else None

-- ---- names

-- the name in an item of a list: with a namespace, which may be empty, the full name of an alias; with `None`, a simple name, as of a symbol
abbrev pub listed_name : Option (List ℕ) → List ℕ → Option (List ℕ)
listed_name None text = allowed is_simple text
listed_name (Some space) text = alias_in space text

-- the full name, if it is not defined yet and its last part is not the name of a primitive type
abbrev pub if_new : Known → List ℕ → Option (List ℕ)
if_new known full = if is_some (known full) || is_some (kind_of (last_part full)) then None else Some full

-- the full name of a new definition
unfoldable pub new_name : List ℕ → Members → Known → Option (List ℕ)
new_name space ms known = do
  name ← text_in (codes "name") ms
  attribute ← text_if_any (codes "namespace") (without_all (codes "name" ∷ []) ms)
  full ← full_name name attribute space
  if_new known full

-- the keys of the attributes that name a definition
abbrev pub name_keys : List (List ℕ)
name_keys = codes "name" ∷ codes "namespace" ∷ codes "aliases" ∷ []

unfoldable pub named_in : List ℕ → Members → Known → Option NamedView
named_in space ms known = do
  full ← new_name space ms known
  aliases ← texts_if_any (alias_in (namespace_of full)) (get_member (codes "aliases") (without_all (codes "name" ∷ codes "namespace" ∷ []) ms))
  Some (record { name = full; aliases = aliases })

-- the symbols of an enum, which must be distinct simple names
unfoldable pub symbols_in : Members → Option (List (List ℕ))
symbols_in ms = do
  items ← array_in (codes "symbols") ms
  symbols ← texts_in (allowed is_simple) items
  if all_distinct bytes_eq symbols then Some symbols else None

-- The enum that an object's members other than `type` declare, as the node at the next place. `space` is the enclosing namespace. `None` if `name` or
-- `symbols` is missing, or if one of these, the aliases or the default is invalid. `None` also if `namespace` isn't a string, or is malformed and
-- the name has no dot. `None` also if the full name is taken, or its last part is the name of a primitive type. `None` also if another attribute
-- nests too deep, or the schema has the maximum number of nodes.
unfoldable pub enum_at : List ℕ → Members → Known → ℕ → Option (Part ℕ)
enum_at space ms known first = do
  place ← next_place first
  named ← named_in space ms known
  symbols ← symbols_in (without_all name_keys ms)
  fallback ← fallback_in symbols (get_member (codes "default") (without_all (codes "symbols" ∷ []) (without_all name_keys ms)))
  extra ← bounded (without_all (codes "symbols" ∷ codes "default" ∷ []) (without_all name_keys ms))
  Some (record { it = place; nodes = enumeration named symbols fallback extra ∷ []; known = defined known named.name place })

-- The `fixed` that an object's members other than `type` declare, as the node at the next place. `None` as for `enum_at`, with `size` in place of
-- `symbols`, and without the default.
unfoldable pub fixed_at : List ℕ → Members → Known → ℕ → Option (Part ℕ)
fixed_at space ms known first = do
  place ← next_place first
  named ← named_in space ms known
  size ← size_of (get_member (codes "size") (without_all name_keys ms))
  extra ← bounded (without_all (codes "size" ∷ []) (without_all name_keys ms))
  Some (record { it = place; nodes = fixed named size extra ∷ []; known = defined known named.name place })

-- the attributes of a field other than its type
pub record FieldAttributesView : Type 0 where
  pub name : List ℕ
  pub aliases : List (List ℕ)
  pub order : Order
  pub value : Option Data

abbrev pub field_attributes_view : FieldAttributes → FieldAttributesView
field_attributes_view l = record { name = string_bytes l.name; aliases = texts_view l.aliases.items; order = l.order; value = option_map view l.value }

-- the name, aliases, order and default that these members declare, if they are valid
unfoldable pub field_attributes_in : Members → Option FieldAttributesView
field_attributes_in ms = do
  text ← text_in (codes "name") ms
  name ← allowed is_simple text
  aliases ← texts_if_any (allowed is_simple) (get_member (codes "aliases") (without_all (codes "name" ∷ []) ms))
  order ← order_in (get_member (codes "order") (without_all (codes "name" ∷ codes "aliases" ∷ []) ms))
  value ← bounded_value (get_member (codes "default") (without_all (codes "name" ∷ codes "aliases" ∷ codes "order" ∷ []) ms))
  Some (record { name = name; aliases = aliases; order = order; value = value })

-- the keys of the attributes in `FieldAttributesView`
abbrev pub field_attribute_keys : List (List ℕ)
field_attribute_keys = codes "name" ∷ codes "aliases" ∷ codes "order" ∷ codes "default" ∷ []
