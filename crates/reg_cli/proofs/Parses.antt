-- Parsing a number agrees with the definition.
use Rattle.std.proofs.Common.{◌≡◌, ℕ, ◌^◌, Bool, true, false, List, [], ◌∷◌, length, nat_lt, Option, Some, None, Result, Ok, Err, refl, ap, lt-ltb, ltb-true}
use Rattle.std.specs.List.{list_all}
use Rattle.std.specs.Char.{digit_value}
use Rattle.std.specs.Str.Parse.{AllDigits, ParsesUnsigned, digits_value, without_leading_plus}
use Rattle.clap.proofs.WalkLemmas.{both}
use Rattle.clap.specs.Words.{Text}
use Rattle.reg_cli.specs.Numbers.{fits_in_bits, unsigned_in}

-- digits pass the test
digits_pass : (digits : List ℕ) → AllDigits 10 digits → list_all (λ digit. nat_lt (digit_value digit) 10) digits ≡ true
digits_pass [] all = refl
digits_pass (digit ∷ digits) all = rw (lt-ltb (digit_value digit) 10 all.0) (digits_pass digits all.1)

-- only digits pass the test
digits_from : (digits : List ℕ) → list_all (λ digit. nat_lt (digit_value digit) 10) digits ≡ true → AllDigits 10 digits
digits_from [] pass = tt
digits_from (digit ∷ digits) pass =
    let parts = both _ _ pass in
    (ltb-true _ _ parts.0, digits_from digits parts.1)

abbrev kept : {E : Type 0} → Result ℕ E → Option ℕ
kept (Ok n) = Some n
kept (Err e) = None

-- a parse returns the number that the text denotes; it fails if the text denotes none, or one of more than `bits` bits
pub number_read : {E : Type 0} (bits : ℕ) (text : Text) (r : Result ℕ E) → ParsesUnsigned bits 10 text r → kept r ≡ unsigned_in bits text
number_read bits text (Ok n) parses =
    let digits = without_leading_plus text in
    rw (lt-ltb 0 (length digits) parses.0.0.0, digits_pass digits parses.0.0.1, lt-ltb (digits_value 10 digits) (2 ^ bits) parses.0.1)
    (ap (λ n. Some n) parses.1)
number_read bits text (Err e) fails = go (fits_in_bits bits (without_leading_plus text)) refl
  where
    go : (b : Bool) → fits_in_bits bits (without_leading_plus text) ≡ b → None ≡ unsigned_in bits text
    go false test = rw test refl
    go true test =
        let outer = both _ _ test in
        let inner = both _ _ outer.0 in
        absurd (fails ((ltb-true _ _ inner.0, digits_from (without_leading_plus text) inner.1), ltb-true _ _ outer.1))
