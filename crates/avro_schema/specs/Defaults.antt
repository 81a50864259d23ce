-- Which JSON values fit a type as a default value (Avro 1.11 specification, Complex Types, Records).
use Rattle.std.specs.Prelude.{◌≡◌, ℕ, List, [], ◌∷◌, length, Bool, true, ◌&&◌, nat_lt, ℤ, pos, negsuc, int_le, Option, Some, None, slice_get}
use Rattle.std.specs.List.{list_all}
use Rattle.std.specs.Str.{chars}
use Rattle.serde_json.specs.Data.{Data, null, boolean, number, string, Items, no_items, item, Members, no_members, member}
use Rattle.serde_json.specs.Data as json
use Rattle.serde_json.specs.Find.{get_member, as_i64}
use Rattle.avro_nodes.specs.declared.node.PrimitiveKind.TheVariants.{Null, Boolean, Int, Long, Float, Double, Bytes, Text}
use Rattle.avro_nodes.specs.Nodes.{NamedView, FieldView, NodeView, primitive, array, mapping, union, enumeration, fixed, rec}

-- a signed 32-bit integer
abbrev pub is_int : ℤ → Bool
is_int z = int_le (negsuc 2147483647) z && int_le z (pos 2147483647)

-- every code point of the text is at most 255 and so denotes a byte
abbrev pub is_bytes : List ℕ → Bool
is_bytes text = list_all (λ c. nat_lt c 256) (chars text)

module _ (nodes : List NodeView) where
  -- The least relation in which a value fits the type at a place. A value fits a union if it fits the union's first branch, which is no
  -- union itself. No value fits an empty union.
  mutual
    pub data FitsDefault : Data → ℕ → Type 0 where
      fits_type : {v : Data} {place : ℕ} {node : NodeView} → slice_get nodes place ≡ Some node → FitsNode v node → FitsDefault v place
      fits_union : {v : Data} {place first : ℕ} {others : List ℕ} {node : NodeView} → slice_get nodes place ≡ Some (union (first ∷ others)) → slice_get nodes first ≡ Some node → FitsNode v node → FitsDefault v place

    -- the value fits a node that is no union
    pub data FitsNode : Data → NodeView → Type 0 where
      fits_null : {extra : Members} → FitsNode null (primitive Null extra)
      fits_boolean : {b : Bool} {extra : Members} → FitsNode (boolean b) (primitive Boolean extra)
      fits_int : {n : json.Num} {z : ℤ} {extra : Members} → as_i64 n ≡ Some z → is_int z ≡ true → FitsNode (number n) (primitive Int extra)
      -- a signed 64-bit integer, for `float` and `double` too (this project's choice)
      fits_long : {n : json.Num} {z : ℤ} {extra : Members} → as_i64 n ≡ Some z → FitsNode (number n) (primitive Long extra)
      fits_float : {n : json.Num} {z : ℤ} {extra : Members} → as_i64 n ≡ Some z → FitsNode (number n) (primitive Float extra)
      fits_double : {n : json.Num} {z : ℤ} {extra : Members} → as_i64 n ≡ Some z → FitsNode (number n) (primitive Double extra)
      fits_bytes : {s : List ℕ} {extra : Members} → is_bytes s ≡ true → FitsNode (string s) (primitive Bytes extra)
      fits_string : {s : List ℕ} {extra : Members} → FitsNode (string s) (primitive Text extra)
      -- any string fits an enum, even one that is no symbol (this project's choice)
      fits_enum : {s : List ℕ} {named : NamedView} {symbols : List (List ℕ)} {fallback : Option (List ℕ)} {extra : Members} → FitsNode (string s) (enumeration named symbols fallback extra)
      -- the number of code points equals the size (this project's choice)
      fits_fixed : {s : List ℕ} {named : NamedView} {extra : Members} → is_bytes s ≡ true → FitsNode (string s) (fixed named (length (chars s)) extra)
      fits_array : {ds : Items} {place : ℕ} {extra : Members} → ItemsFit ds place → FitsNode (json.array ds) (array place extra)
      fits_map : {ms : Members} {place : ℕ} {extra : Members} → MembersFit ms place → FitsNode (json.object ms) (mapping place extra)
      fits_record : {ms : Members} {named : NamedView} {fields : List FieldView} {extra : Members} → FieldsFit ms fields → FitsNode (json.object ms) (rec named fields extra)

    -- every item fits the type at the place
    pub data ItemsFit : Items → ℕ → Type 0 where
      no_item_left : {place : ℕ} → ItemsFit no_items place
      item_fits : {d : Data} {ds : Items} {place : ℕ} → FitsDefault d place → ItemsFit ds place → ItemsFit (item d ds) place

    -- every member's value fits the type at the place
    pub data MembersFit : Members → ℕ → Type 0 where
      no_member_left : {place : ℕ} → MembersFit no_members place
      member_fits : {k : List ℕ} {d : Data} {ms : Members} {place : ℕ} → FitsDefault d place → MembersFit ms place → MembersFit (member k d ms) place

    -- Each field's member fits the field's type. A member may be missing if the field has a default, and further members are ignored (this
    -- project's choice).
    pub data FieldsFit : Members → List FieldView → Type 0 where
      no_field_left : {ms : Members} → FieldsFit ms []
      field_fits : {ms : Members} {f : FieldView} {fields : List FieldView} {d : Data} → get_member f.name ms ≡ Some d → FitsDefault d f.place → FieldsFit ms fields → FieldsFit ms (f ∷ fields)
      field_missing : {ms : Members} {f : FieldView} {fields : List FieldView} {d : Data} → get_member f.name ms ≡ None → f.value ≡ Some d → FieldsFit ms fields → FieldsFit ms (f ∷ fields)

  abbrev pub ValueFits : Option Data → ℕ → Type 0
  ValueFits None place = Unit {0}
  ValueFits (Some v) place = FitsDefault v place

  -- the default of every field fits the field's type
  abbrev pub FieldDefaultsFit : List FieldView → Type 0
  FieldDefaultsFit [] = Unit {0}
  FieldDefaultsFit (f ∷ fields) = ValueFits f.value f.place × FieldDefaultsFit fields

  -- every default in these nodes fits its field's type
  abbrev pub NodeDefaultsFit : List NodeView → Type 0
  NodeDefaultsFit [] = Unit {0}
  NodeDefaultsFit (primitive kind extra ∷ more) = NodeDefaultsFit more
  NodeDefaultsFit (array place extra ∷ more) = NodeDefaultsFit more
  NodeDefaultsFit (mapping place extra ∷ more) = NodeDefaultsFit more
  NodeDefaultsFit (union branches ∷ more) = NodeDefaultsFit more
  NodeDefaultsFit (enumeration named symbols fallback extra ∷ more) = NodeDefaultsFit more
  NodeDefaultsFit (fixed named size extra ∷ more) = NodeDefaultsFit more
  NodeDefaultsFit (rec named fields extra ∷ more) = FieldDefaultsFit fields × NodeDefaultsFit more

-- every default of a schema fits its field's type in the complete list of nodes
abbrev pub DefaultsFit : List NodeView → Type 0
DefaultsFit nodes = NodeDefaultsFit nodes nodes
