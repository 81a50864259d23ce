-- JSON whose numbers are integers of 64 bits, as the rule for numbers requires (this project's choice).
use Rattle.std.specs.Prelude.{◌^◌, nat_lt, pos, negsuc, Bool, true, false, ◌&&◌}
use Rattle.serde_json.specs.Data.{Num, unsigned, negative, float, Data, null, boolean, number, string, array, object, Items, no_items, item, Members, no_members, member}

-- an integer from -2^63 to 2^64 - 1, never a float; a `negative` number must be below 0
abbrev pub is_whole_number : Num → Bool
is_whole_number (unsigned n) = nat_lt n (2 ^ 64)
is_whole_number (negative (pos n)) = false
is_whole_number (negative (negsuc n)) = nat_lt n (2 ^ 63)
is_whole_number (float x) = false

abbrev mutual
  pub has_whole_numbers : Data → Bool
  has_whole_numbers null = true
  has_whole_numbers (boolean b) = true
  has_whole_numbers (number n) = is_whole_number n
  has_whole_numbers (string s) = true
  has_whole_numbers (array ds) = items_have_whole_numbers ds
  has_whole_numbers (object ms) = members_have_whole_numbers ms

  pub items_have_whole_numbers : Items → Bool
  items_have_whole_numbers no_items = true
  items_have_whole_numbers (item d ds) = has_whole_numbers d && items_have_whole_numbers ds

  pub members_have_whole_numbers : Members → Bool
  members_have_whole_numbers no_members = true
  members_have_whole_numbers (member k d ms) = has_whole_numbers d && members_have_whole_numbers ms
