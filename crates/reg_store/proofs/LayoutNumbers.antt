-- A layout's number is at least 1.
use Rattle.std.proofs.Common.{◌≡◌, ◌<◌, ℕ, List, [], ◌∷◌, Bool, true, false, Option, Some, None, codes, refl, subst, arith}
use Rattle.std.specs.Prelude.{◌&&◌, ◌==◌, not, nat_le, nat_lt, length, option_and_then, if◌then◌else◌}
use Rattle.std.specs.Char.{is_ascii_digit, digit_value}
use Rattle.std.specs.Int.{IsInRange}
use Rattle.std.proofs.lemmas.Str.{digit_value_digit}
use Rattle.std.specs.List.{list_all}
use Rattle.std.specs.Str.Parse.{digits_value}
use Rattle.std.proofs.lemmas.Bool.{and_parts}
use Rattle.std.proofs.lemmas.Bool.Decides.{nat_tests}
use Rattle.std.proofs.lemmas.Str.Parse.{digits_value-take-le}
use Rattle.reg_core.specs.Numbers.{is_number}
use Rattle.reg_rows.specs.Meta.{MetaPair, value_of, value_equals, number_in, layout_of}

digit_above : (c : ℕ) → not (c == 48) ≡ true → is_ascii_digit c ≡ true → 0 < digit_value c
digit_above c other digit = let is = digit_value_digit c (in_range c digit) in let more = above c other (in_range c digit) in omega (arith, is, more)
  where
    in_range : (c : ℕ) → is_ascii_digit c ≡ true → IsInRange 48 57 c
    in_range c digit = grind (arith, nat_tests)

    above : (c : ℕ) → not (c == 48) ≡ true → IsInRange 48 57 c → 48 < c
    above c other range = let low = range.0 in grind (arith, nat_tests)

value_above : (text : List ℕ) → is_number text ≡ true → 0 < digits_value 10 text
value_above [] h = absurd (cc)
value_above (c ∷ cs) h =
    let parts = and_parts (nat_lt 0 (length (c ∷ cs)) && not (c == 48)) (list_all is_ascii_digit (c ∷ cs)) h in
    let other = (and_parts (nat_lt 0 (length (c ∷ cs))) (not (c == 48)) parts.0).1 in
    let digit = (and_parts (is_ascii_digit c) (list_all is_ascii_digit cs) parts.1).0 in
    let more = digit_above c other digit in
    let first = digits_value-take-le 10 (c ∷ cs) 1 (omega arith) in
    omega (arith, more, first)

number_above : (text : List ℕ) (number : ℕ) → number_in text ≡ Some number → 0 < number
number_above text number h = go (is_number text) (nat_le (digits_value 10 text) 999999999) refl h
  where
    go : (a b : Bool) → is_number text ≡ a → (if a && b then Some (digits_value 10 text) else None) ≡ Some number → 0 < number
    go true true is h = let same : digits_value 10 text ≡ number = cc in subst (λ n. 0 < n) same (value_above text is)
    go true false is h = absurd (cc)
    go false b is h = absurd (cc)

pub above_zero : (pairs : List MetaPair) (number : ℕ) → layout_of pairs ≡ Some number → 0 < number
above_zero pairs number h = go (value_equals (codes "avroreg") (value_of (codes "format") pairs)) (value_of (codes "layout") pairs) h
  where
    go : (format : Bool) (o : Option (List ℕ)) → (if format then option_and_then number_in o else None) ≡ Some number → 0 < number
    go true None h = absurd (cc)
    go true (Some text) h = number_above text number h
    go false o h = absurd (cc)
