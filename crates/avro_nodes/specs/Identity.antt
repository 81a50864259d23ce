-- The identity text of a schema: one JSON text for its nodes (this project's choice of form; Avro 1.11 specification, Schema
-- Declaration; RFC 8259).
use Rattle.std.specs.Prelude.{ℕ, zero, suc, ◌+◌, ◌==◌, ◌&&◌, Bool, true, List, [], ◌∷◌, if◌then◌else◌, Option, Some, None, option_map, codes, slice_get}
use Rattle.std.specs.List.{list_all}
use Rattle.serde_json.specs.Data.{Data, null, string, number, unsigned, object, Items, no_items, item, Members, no_members, member, put}
use Rattle.serde_json.specs.Data as json
use Rattle.serde_json.specs.Written.{compact_text}
use Rattle.avro_nodes.specs.declared.node.PrimitiveKind.{PrimitiveKind}
use Rattle.avro_nodes.specs.declared.node.PrimitiveKind.TheVariants.{Null, Boolean, Int, Long, Float, Double, Bytes, Text}
use Rattle.avro_nodes.specs.declared.node.Order.{Order}
use Rattle.avro_nodes.specs.declared.node.Order.TheVariants.{Ascending, Descending, Ignore}
use Rattle.avro_nodes.specs.Limits.{max_nesting}
use Rattle.avro_nodes.specs.Names.{has_dot, namespace_of}
use Rattle.avro_nodes.specs.Nodes.{NamedView, FieldView, NodeView, primitive, array, mapping, union, enumeration, fixed, rec}

-- Avro 1.11 specification, Primitive Types
abbrev pub kind_text : PrimitiveKind → List ℕ
kind_text Null = codes "null"
kind_text Boolean = codes "boolean"
kind_text Int = codes "int"
kind_text Long = codes "long"
kind_text Float = codes "float"
kind_text Double = codes "double"
kind_text Bytes = codes "bytes"
kind_text Text = codes "string"

-- ---- attributes, each inserted in byte order of the members' names

abbrev pub texts : List (List ℕ) → Items
texts [] = no_items
texts (t ∷ ts) = item (string t) (texts ts)

abbrev pub with_text : List ℕ → List ℕ → Members → Members
with_text key text others = put key (string text) others

-- an empty list means the same as none, and isn't written
abbrev pub with_aliases : List (List ℕ) → Members → Members
with_aliases [] others = others
with_aliases (t ∷ ts) others = put (codes "aliases") (json.array (texts (t ∷ ts))) others

abbrev pub with_default : Option Data → Members → Members
with_default None others = others
with_default (Some d) others = put (codes "default") d others

-- ascending is the default, and isn't written
abbrev pub with_order : Order → Members → Members
with_order Ascending others = others
with_order Descending others = with_text (codes "order") (codes "descending") others
with_order Ignore others = with_text (codes "order") (codes "ignore") others

-- a definition in the null namespace has an empty `namespace` inside another namespace (Avro 1.11 specification, Names)
abbrev pub with_namespace : List ℕ → List ℕ → Members → Members
with_namespace [] name others = others
with_namespace (c ∷ enclosing) name others = if has_dot name then others else with_text (codes "namespace") [] others

-- ---- types (Avro 1.11 specification, Primitive Types, Complex Types)

-- the identity value of a primitive type: only its name, or an object if it has other attributes
abbrev pub primitive_value : PrimitiveKind → Members → Data
primitive_value kind no_members = string (kind_text kind)
primitive_value kind (member k d ms) = object (with_text (codes "type") (kind_text kind) (member k d ms))

-- the identity value of an array, given that of its items
abbrev pub array_value : Data → Members → Data
array_value items extra = object (put (codes "items") items (with_text (codes "type") (codes "array") extra))

-- the identity value of a map, given that of its values
abbrev pub map_value : Data → Members → Data
map_value values extra = object (with_text (codes "type") (codes "map") (put (codes "values") values extra))

-- the identity value of an enum in the enclosing namespace
abbrev pub enum_value : List ℕ → NamedView → List (List ℕ) → Option (List ℕ) → Members → Data
enum_value enclosing named symbols fallback extra =
    object (with_aliases named.aliases (with_default (option_map string fallback) (with_text (codes "name") named.name (with_namespace enclosing named.name
    (put (codes "symbols") (json.array (texts symbols)) (with_text (codes "type") (codes "enum") extra))))))

-- the identity value of a fixed type in the enclosing namespace
abbrev pub fixed_value : List ℕ → NamedView → ℕ → Members → Data
fixed_value enclosing named size extra =
    object (with_aliases named.aliases (with_text (codes "name") named.name (with_namespace enclosing named.name
    (put (codes "size") (number (unsigned size)) (with_text (codes "type") (codes "fixed") extra)))))

-- the identity value of a record in the enclosing namespace, given those of its fields
abbrev pub record_value : List ℕ → NamedView → Items → Members → Data
record_value enclosing named fields extra =
    object (with_aliases named.aliases (put (codes "fields") (json.array fields) (with_text (codes "name") named.name (with_namespace enclosing named.name
    (with_text (codes "type") (codes "record") extra)))))

-- the identity value of a field, given that of its type
abbrev pub field_value : FieldView → Data → Data
field_value f type =
    object (with_aliases f.aliases (with_default f.value (with_text (codes "name") f.name (with_order f.order (put (codes "type") type f.extra)))))

-- ---- places

-- a value, and the number of places that are written up to its end
abbrev pub Counted : Type 0 → Type 0
Counted A = A × ℕ

-- given a place and the number of places written before: the value of the place's type
abbrev pub ValueAt : Type 0
ValueAt = ℕ → ℕ → Counted Data

abbrev pub then_items : Data → Counted Items → Counted Items
then_items d more = (item d more.0, more.1)

-- the branches in order
unfoldable pub branch_items : ValueAt → List ℕ → ℕ → Counted Items
branch_items one [] written = (no_items, written)
branch_items one (p ∷ ps) written = then_items (one p written).0 (branch_items one ps (one p written).1)

-- the fields in order
unfoldable pub field_items : ValueAt → List FieldView → ℕ → Counted Items
field_items one [] written = (no_items, written)
field_items one (f ∷ fs) written = then_items (field_value f (one f.place written).0) (field_items one fs (one f.place written).1)

-- the full name of a definition; empty for a type without a name, or without a node
abbrev pub name_of : Option NodeView → List ℕ
name_of None = []
name_of (Some (primitive kind extra)) = []
name_of (Some (array items extra)) = []
name_of (Some (mapping values extra)) = []
name_of (Some (union branches)) = []
name_of (Some (enumeration named symbols fallback extra)) = named.name
name_of (Some (fixed named size extra)) = named.name
name_of (Some (rec named fields extra)) = named.name

-- a type that is written for the first time, in the enclosing namespace; `null` without a node
abbrev pub node_value : (List ℕ → ValueAt) → List ℕ → ℕ → Option NodeView → Counted Data
node_value types enclosing written None = (null, written)
node_value types enclosing written (Some (primitive kind extra)) = (primitive_value kind extra, written + 1)
node_value types enclosing written (Some (array items extra)) = let i = types enclosing items (written + 1) in (array_value i.0 extra, i.1)
node_value types enclosing written (Some (mapping values extra)) = let v = types enclosing values (written + 1) in (map_value v.0 extra, v.1)
node_value types enclosing written (Some (union branches)) = let bs = branch_items (types enclosing) branches (written + 1) in (json.array bs.0, bs.1)
node_value types enclosing written (Some (enumeration named symbols fallback extra)) = (enum_value enclosing named symbols fallback extra, written + 1)
node_value types enclosing written (Some (fixed named size extra)) = (fixed_value enclosing named size extra, written + 1)
node_value types enclosing written (Some (rec named fields extra)) = let fs = field_items (types (namespace_of named.name)) fields (written + 1) in (record_value enclosing named fs.0 extra, fs.1)

-- The type at a place, to this depth. `written` counts the places that are written before. A schema's places are numbered in the order
-- of their first occurrence, and each is written then. So a place occurs for the first time exactly if `place == written`. Its type is
-- written in full then, and by its full name later. At depth 0 it is `null`.
unfoldable pub identity_at : ℕ → List NodeView → List ℕ → ValueAt
identity_at zero nodes enclosing place written = (null, written)
identity_at (suc n) nodes enclosing place written =
    if place == written then node_value (identity_at n nodes) enclosing written (slice_get nodes place) else (string (name_of (slice_get nodes place)), written)

abbrev pub identity_value : List NodeView → Data
identity_value nodes = (identity_at max_nesting nodes [] 0 0).0

-- the compact JSON text of the identity value
abbrev pub identity : List NodeView → List ℕ
identity nodes = compact_text (identity_value nodes)

-- ---- whether each field's default, each other attribute and each size passes a test, as JSON

abbrev pub members_pass : (Data → Bool) → Members → Bool
members_pass test no_members = true
members_pass test (member k d ms) = test d && members_pass test ms

abbrev pub value_passes : (Data → Bool) → Option Data → Bool
value_passes test None = true
value_passes test (Some d) = test d

abbrev pub field_passes : (Data → Bool) → FieldView → Bool
field_passes test f = value_passes test f.value && members_pass test f.extra

abbrev pub node_passes : (Data → Bool) → NodeView → Bool
node_passes test (primitive kind extra) = members_pass test extra
node_passes test (array items extra) = members_pass test extra
node_passes test (mapping values extra) = members_pass test extra
node_passes test (union branches) = true
node_passes test (enumeration named symbols fallback extra) = members_pass test extra
node_passes test (fixed named size extra) = test (number (unsigned size)) && members_pass test extra
node_passes test (rec named fields extra) = list_all (field_passes test) fields && members_pass test extra

unfoldable pub nodes_pass : (Data → Bool) → List NodeView → Bool
nodes_pass test nodes = list_all (node_passes test) nodes
