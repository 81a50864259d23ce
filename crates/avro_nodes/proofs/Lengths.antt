-- The strings of a value have no more bytes than the text of the value.
use Rattle.std.proofs.Common.{◌≡◌, ℕ, suc, ◌+◌, ◌/◌, ◌%◌, ◌≤◌, List, [], ◌∷◌, ◌++◌, length, Bool, true, false, nat_lt, cond, ap, length-append, arith}
use Rattle.std.specs.Char.{digit_char}
use Rattle.std.specs.List.{flat_map}
use Rattle.serde_json.specs.Data.{Data, null, boolean, number, string, array, object, Items, no_items, item, Members, no_members, member}
use Rattle.serde_json.specs.Written.{comma_if, compact_text, items_text, members_text}
use Rattle.avro_nodes.proofs.Unchanged.{letter_of, escaped, quoted, quoted_is}

abbrev mutual
  pub data_size : Data → ℕ
  data_size null = 0
  data_size (boolean b) = 0
  data_size (number n) = 0
  data_size (string s) = length s
  data_size (array ds) = items_size ds
  data_size (object ms) = members_size ms

  pub items_size : Items → ℕ
  items_size no_items = 0
  items_size (item d ds) = data_size d + items_size ds

  -- without the keys
  pub members_size : Members → ℕ
  members_size no_members = 0
  members_size (member k d ms) = data_size d + members_size ms

byte_long : (x : ℕ) (short low : Bool) → 1 ≤ length (cond short (92 ∷ letter_of x ∷ []) (cond low (92 ∷ 117 ∷ 48 ∷ 48 ∷ digit_char (x / 16) ∷ digit_char (x % 16) ∷ []) (x ∷ [])))
byte_long x true low = omega arith
byte_long x false true = omega arith
byte_long x false false = omega arith

escaped_long : (s : List ℕ) → length s ≤ length (flat_map escaped s)
escaped_long [] = omega arith
escaped_long (x ∷ xs) = omega (arith, byte_long x (nat_lt 0 (letter_of x)) (nat_lt x 32), escaped_long xs, length-append (escaped x) (flat_map escaped xs))

quoted_long : (s : List ℕ) → length s ≤ length (quoted s)
quoted_long s =
    let is : length (quoted s) ≡ suc (length (flat_map escaped s ++ 34 ∷ [])) = ap length (quoted_is s) in
    omega (arith, is, escaped_long s, length-append (flat_map escaped s) (34 ∷ []))

mutual
  pub text_long : (d : Data) → data_size d ≤ length (compact_text d)
  text_long null = omega arith
  text_long (boolean b) = omega arith
  text_long (number n) = omega arith
  text_long (string s) = quoted_long s
  text_long (array ds) = omega (arith, items_long false ds)
  text_long (object ms) = omega (arith, members_long false ms)

  items_long : (later : Bool) (ds : Items) → items_size ds ≤ length (items_text later ds)
  items_long later no_items = omega arith
  items_long later (item d ds) = omega (arith, text_long d, items_long true ds, length-append (comma_if later) (compact_text d ++ items_text true ds), length-append (compact_text d) (items_text true ds))

  members_long : (later : Bool) (ms : Members) → members_size ms ≤ length (members_text later ms)
  members_long later no_members = omega arith
  members_long later (member k d ms) =
      let rest = compact_text d ++ members_text true ms in
      omega (arith, text_long d, members_long true ms, length-append (comma_if later) (quoted k ++ 58 ∷ rest), length-append (quoted k) (58 ∷ rest), length-append (compact_text d) (members_text true ms))
