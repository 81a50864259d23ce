-- What contracts see of a node: texts as bytes, and JSON as the data that it denotes.
use Rattle.std.specs.Prelude.{ℕ, List, map, Option, option_map, String, string_bytes}
use Rattle.std.specs.declared.alloc.Global.{Global}
use Rattle.serde_json.specs.Data.{Data, Members}
use Rattle.serde_json.specs.View.{view, members_view}
use Rattle.avro_nodes.specs.declared.node.PrimitiveKind.{PrimitiveKind}
use Rattle.avro_nodes.specs.declared.node.Order.{Order}
use Rattle.avro_nodes.specs.declared.node.Named.{Named}
use Rattle.avro_nodes.specs.declared.node.Field.{Field}
use Rattle.avro_nodes.specs.declared.node.Node.{Node}
use Rattle.avro_nodes.specs.declared.node.Node.TheVariants.{Primitive, Array, Map, Union, Enum, Fixed, Rec}

-- the name and the aliases of a definition, as full names (Avro 1.11 specification, Names; Aliases)
pub record NamedView : Type 0 where
  pub name : List ℕ
  pub aliases : List (List ℕ)

-- a field of a record, with the place of its type; `value` is its default, or `None` (Avro 1.11 specification, Complex Types, Records)
pub record FieldView : Type 0 where
  pub name : List ℕ
  pub place : ℕ
  pub aliases : List (List ℕ)
  pub order : Order
  pub value : Option Data
  pub extra : Members

-- A schema is a list of these. A place is an index into the list; the root has place 0. Arrays, maps and unions have the places of the
-- types inside them. An enum has its symbols and its default, a fixed its size, a record its fields; these three have a name and aliases. The last
-- `Members` of a node are its other attributes, such as `doc`; a union has none (Avro 1.11 specification, Schema Declaration, Primitive Types,
-- Complex Types).
pub data NodeView : Type 0 where
  primitive : PrimitiveKind → Members → NodeView
  array : ℕ → Members → NodeView
  mapping : ℕ → Members → NodeView
  union : List ℕ → NodeView
  enumeration : NamedView → List (List ℕ) → Option (List ℕ) → Members → NodeView
  fixed : NamedView → ℕ → Members → NodeView
  rec : NamedView → List FieldView → Members → NodeView

abbrev pub texts_view : List (String Global) → List (List ℕ)
texts_view texts = map string_bytes texts

abbrev pub named_view : Named → NamedView
named_view n = record { name = string_bytes n.name; aliases = texts_view n.aliases.items }

abbrev pub field_view : Field → FieldView
field_view f = record { name = string_bytes f.name; place = f.place; aliases = texts_view f.aliases.items; order = f.order; value = option_map view f.value; extra = members_view f.extra.entries }

abbrev pub node_view : Node → NodeView
node_view (Primitive kind extra) = primitive kind (members_view extra.entries)
node_view (Array items extra) = array items (members_view extra.entries)
node_view (Map values extra) = mapping values (members_view extra.entries)
node_view (Union branches) = union branches.items
node_view (Enum named symbols fallback extra) = enumeration (named_view named) (texts_view symbols.items) (option_map string_bytes fallback) (members_view extra.entries)
node_view (Fixed named size extra) = fixed (named_view named) size (members_view extra.entries)
node_view (Rec named fields extra) = rec (named_view named) (map field_view fields.items) (members_view extra.entries)

abbrev pub nodes_view : List Node → List NodeView
nodes_view nodes = map node_view nodes
