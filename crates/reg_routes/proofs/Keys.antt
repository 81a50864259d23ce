-- The test of a retry key decides the definition.
use Rattle.std.proofs.Common.{◌≡◌, ℕ, ◌<◌, ◌≤◌, Bool, true, false, ◌&&◌, List, refl, arith, get_or}
use Rattle.std.specs.Prelude.{length, nat_lt, nat_le}
use Rattle.std.specs.List.{list_all}
use Rattle.std.specs.Str.{IsUtf8, IsAscii}
use Rattle.std.proofs.lemmas.Bool.{and_from, and_parts, ltb-false}
use Rattle.std.proofs.lemmas.Bool.Decides.{nat_tests}
use Rattle.std.proofs.lemmas.List.{get_or_past}
use Rattle.std.proofs.lemmas.List.Sums.{AllPass-from_list_all, list_all-from_AllPass}
use Rattle.std.proofs.lemmas.Str.{IsUtf8-from_ascii}
use Rattle.reg_core.specs.Keys.{is_key_byte, max_key_length, IsKey}
use Rattle.reg_routes.specs.Keys.{is_key}

at_least_one : (n : ℕ) → nat_lt 0 n ≡ true → 0 < n
at_least_one n e = grind (arith, nat_tests)

at_most : (n m : ℕ) → nat_le n m ≡ true → n ≤ m
at_most n m e = grind (arith, nat_tests)

from_one : (n : ℕ) → 0 < n → nat_lt 0 n ≡ true
from_one n h = grind (arith, nat_tests)

from_most : (n m : ℕ) → n ≤ m → nat_le n m ≡ true
from_most n m h = grind (arith, nat_tests)

below : (i n : ℕ) → nat_lt i n ≡ true → i < n
below i n e = grind (arith, nat_tests)

pub is_key-true : (text : List ℕ) → is_key text ≡ true → IsKey text
is_key-true text e =
    let some = nat_lt 0 (length text) in
    let few = nat_le (length text) max_key_length in
    let bytes = and_parts (some && few) (list_all is_key_byte text) e in
    let sizes = and_parts some few bytes.0 in
    (at_least_one (length text) sizes.0, at_most (length text) max_key_length sizes.1, AllPass-from_list_all is_key_byte text bytes.1)

pub is_key-from : (text : List ℕ) → IsKey text → is_key text ≡ true
is_key-from text k =
    let some = nat_lt 0 (length text) in
    let few = nat_le (length text) max_key_length in
    and_from (some && few) (list_all is_key_byte text)
    (and_from some few (from_one (length text) k.0) (from_most (length text) max_key_length k.1))
    (list_all-from_AllPass is_key_byte text k.2)

key_byte_ascii : (c : ℕ) → is_key_byte c ≡ true → c < 128
key_byte_ascii c e = grind (arith, nat_tests)

pub IsKey-utf8 : (text : List ℕ) → IsKey text → IsUtf8 text
IsKey-utf8 text k = IsUtf8-from_ascii text ascii
  where
    ascii : IsAscii text
    ascii i = by (nat_lt i (length text)) refl
      where
        by : (b : Bool) → nat_lt i (length text) ≡ b → get_or text i 0 < 128
        by true e = key_byte_ascii (get_or text i 0) (k.2 i 0 (below i (length text) e))
        by false e = let past : get_or text i 0 ≡ 0 = get_or_past text i 0 (ltb-false i (length text) e) in omega arith
