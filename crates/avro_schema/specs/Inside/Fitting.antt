-- Which defaults fit, computed. The result agrees with `FitsDefault` and `DefaultsFit`.
use Rattle.std.specs.Prelude.{ℕ, zero, suc, List, [], ◌∷◌, length, Bool, true, false, ◌&&◌, ◌==◌, ℤ, Option, Some, None, is_some, slice_get}
use Rattle.std.specs.Str.{chars}
use Rattle.serde_json.specs.Data.{Data, null, boolean, number, string, Items, no_items, item, Members, no_members, member}
use Rattle.serde_json.specs.Data as json
use Rattle.serde_json.specs.Find.{get_member, as_i64}
use Rattle.avro_nodes.specs.Limits.{max_nesting}
use Rattle.avro_nodes.specs.declared.node.PrimitiveKind.{PrimitiveKind}
use Rattle.avro_nodes.specs.declared.node.PrimitiveKind.TheVariants.{Null, Boolean, Int, Long, Float, Double, Bytes, Text}
use Rattle.avro_nodes.specs.Nodes.{FieldView, NodeView, primitive, array, mapping, union, enumeration, fixed, rec}
use Rattle.avro_schema.specs.Defaults.{is_int, is_bytes}

abbrev pub integer_fits : (ℤ → Bool) → Option ℤ → Bool
integer_fits test None = false
integer_fits test (Some z) = test z

-- whether a number fits the primitive type, given its value as a signed 64-bit integer, or `None` if it is none
abbrev pub number_fits : PrimitiveKind → Option ℤ → Bool
number_fits Null o = false
number_fits Boolean o = false
number_fits Int o = integer_fits is_int o
number_fits Long o = is_some o
number_fits Float o = is_some o
number_fits Double o = is_some o
number_fits Bytes o = false
number_fits Text o = false

abbrev pub string_fits : PrimitiveKind → List ℕ → Bool
string_fits Null s = false
string_fits Boolean s = false
string_fits Int s = false
string_fits Long s = false
string_fits Float s = false
string_fits Double s = false
string_fits Bytes s = is_bytes s
string_fits Text s = true

abbrev pub is_null : PrimitiveKind → Bool
is_null Null = true
is_null Boolean = false
is_null Int = false
is_null Long = false
is_null Float = false
is_null Double = false
is_null Bytes = false
is_null Text = false

abbrev pub is_boolean : PrimitiveKind → Bool
is_boolean Null = false
is_boolean Boolean = true
is_boolean Int = false
is_boolean Long = false
is_boolean Float = false
is_boolean Double = false
is_boolean Bytes = false
is_boolean Text = false

abbrev pub primitive_fits : Data → PrimitiveKind → Bool
primitive_fits null kind = is_null kind
primitive_fits (boolean b) kind = is_boolean kind
primitive_fits (number n) kind = number_fits kind (as_i64 n)
primitive_fits (string s) kind = string_fits kind s
primitive_fits (json.array ds) kind = false
primitive_fits (json.object ms) kind = false

-- a function that returns whether a value fits the type at a place
abbrev pub Fitting : Type 0
Fitting = Data → ℕ → Bool

abbrev pub items_fit : Fitting → Items → ℕ → Bool
items_fit one no_items place = true
items_fit one (item d ds) place = one d place && items_fit one ds place

abbrev pub members_fit : Fitting → Members → ℕ → Bool
members_fit one no_members place = true
members_fit one (member k d ms) place = one d place && members_fit one ms place

-- whether the member with the field's name fits the field; if it is missing, whether the field has a default
abbrev pub field_fits_by : Fitting → FieldView → Option Data → Bool
field_fits_by one f None = is_some f.value
field_fits_by one f (Some d) = one d f.place

abbrev pub fields_fit : Fitting → Members → List FieldView → Bool
fields_fit one ms [] = true
fields_fit one ms (f ∷ fields) = field_fits_by one f (get_member f.name ms) && fields_fit one ms fields

abbrev pub is_string : Data → Bool
is_string null = false
is_string (boolean b) = false
is_string (number n) = false
is_string (string s) = true
is_string (json.array ds) = false
is_string (json.object ms) = false

abbrev pub fixed_fits : Data → ℕ → Bool
fixed_fits null size = false
fixed_fits (boolean b) size = false
fixed_fits (number n) size = false
fixed_fits (string s) size = is_bytes s && (length (chars s) == size)
fixed_fits (json.array ds) size = false
fixed_fits (json.object ms) size = false

abbrev pub array_fits : Fitting → Data → ℕ → Bool
array_fits one null place = false
array_fits one (boolean b) place = false
array_fits one (number n) place = false
array_fits one (string s) place = false
array_fits one (json.array ds) place = items_fit one ds place
array_fits one (json.object ms) place = false

abbrev pub map_fits : Fitting → Data → ℕ → Bool
map_fits one null place = false
map_fits one (boolean b) place = false
map_fits one (number n) place = false
map_fits one (string s) place = false
map_fits one (json.array ds) place = false
map_fits one (json.object ms) place = members_fit one ms place

abbrev pub record_fits : Fitting → Data → List FieldView → Bool
record_fits one null fields = false
record_fits one (boolean b) fields = false
record_fits one (number n) fields = false
record_fits one (string s) fields = false
record_fits one (json.array ds) fields = false
record_fits one (json.object ms) fields = fields_fit one ms fields

-- whether the value fits the node; nothing fits a union itself, or `None`
abbrev pub node_fits : Fitting → Data → Option NodeView → Bool
node_fits one v None = false
node_fits one v (Some (primitive kind extra)) = primitive_fits v kind
node_fits one v (Some (array place extra)) = array_fits one v place
node_fits one v (Some (mapping place extra)) = map_fits one v place
node_fits one v (Some (union branches)) = false
node_fits one v (Some (enumeration named symbols fallback extra)) = is_string v
node_fits one v (Some (fixed named size extra)) = fixed_fits v size
node_fits one v (Some (rec named fields extra)) = record_fits one v fields

-- the type that a default must fit: for a union its first branch, else the node itself
abbrev pub default_type : List NodeView → Option NodeView → Option NodeView
default_type nodes None = None
default_type nodes (Some (primitive kind extra)) = Some (primitive kind extra)
default_type nodes (Some (array place extra)) = Some (array place extra)
default_type nodes (Some (mapping place extra)) = Some (mapping place extra)
default_type nodes (Some (union [])) = None
default_type nodes (Some (union (first ∷ others))) = slice_get nodes first
default_type nodes (Some (enumeration named symbols fallback extra)) = Some (enumeration named symbols fallback extra)
default_type nodes (Some (fixed named size extra)) = Some (fixed named size extra)
default_type nodes (Some (rec named fields extra)) = Some (rec named fields extra)

-- whether a value that nests less than n levels deep fits the type at a place
unfoldable pub fits : ℕ → List NodeView → Fitting
fits zero nodes v place = false
fits (suc n) nodes v place = node_fits (fits n nodes) v (default_type nodes (slice_get nodes place))

-- Whether a field's optional default fits the type at the place, by the rules of `FitsDefault`; `None` fits any. For a union, here or inside, only the
-- first branch counts. A missing member fits if its field has a default, and members that name no field are ignored. A value that is checked must
-- not lie more than `max_nesting` levels inside the default.
abbrev pub value_fits : List NodeView → Option Data → ℕ → Bool
value_fits nodes None place = true
value_fits nodes (Some v) place = fits (suc max_nesting) nodes v place

abbrev pub field_defaults_fit : List NodeView → List FieldView → Bool
field_defaults_fit nodes [] = true
field_defaults_fit nodes (f ∷ fields) = value_fits nodes f.value f.place && field_defaults_fit nodes fields

abbrev pub node_default_fits : List NodeView → NodeView → Bool
node_default_fits nodes (primitive kind extra) = true
node_default_fits nodes (array place extra) = true
node_default_fits nodes (mapping place extra) = true
node_default_fits nodes (union branches) = true
node_default_fits nodes (enumeration named symbols fallback extra) = true
node_default_fits nodes (fixed named size extra) = true
node_default_fits nodes (rec named fields extra) = field_defaults_fit nodes fields

abbrev pub node_defaults_fit : List NodeView → List NodeView → Bool
node_defaults_fit nodes [] = true
node_defaults_fit nodes (node ∷ more) = node_default_fits nodes node && node_defaults_fit nodes more
