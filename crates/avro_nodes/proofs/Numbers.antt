-- The number of a run, as the code reads it.
use Rattle.std.proofs.Common.{◌≡◌, ◌≢◌, ℕ, zero, suc, ◌<◌, ◌≤◌, ◌⊎◌, ◌^◌, ◌==◌, List, [], ◌∷◌, length, Bool, true, false, not, ◌&&◌, ◌||◌, nat_lt, nat_le, cond, Option, Some, None, Result, Ok, Err, option_map, refl, sym, ap, ◌∙◌, inl, inr, arith, rules, tests}
use Rattle.std.specs.Prelude.{pos, neg_ℤ, decimal, slice_index, unwrap_or, is_some}
use Rattle.std.specs.Char.{is_ascii_digit}
use Rattle.std.specs.Fmt.{signed_decimal}
use Rattle.std.specs.List.{list_all}
use Rattle.std.specs.Result.{result_ok, OkIff}
use Rattle.std.specs.Str.Parse.{digits_value, ParsesUnsigned}
use Rattle.std.proofs.lemmas.Bool.{false≢true, and_parts, lt-ltb, ltb-true}
use Rattle.std.proofs.lemmas.Bool.Decides.{eqb_tells}
use Rattle.std.proofs.lemmas.Fmt.{decimal-digits_value}
use Rattle.std.proofs.lemmas.Str.Parse.{IsDigitsTest, IsNumeralModel, numerals_by_value, parse_digits}
use Rattle.avro_nodes.specs.Plain.{is_canonical_decimal, signed, respelt_digits, respelt_whole, is_minus}

abbrev pub AllAreDigits : List ℕ → Type 0
AllAreDigits ds = list_all is_ascii_digit ds ≡ true

tells : IsDigitsTest AllAreDigits
tells = search (rules, tests)

pub own : IsNumeralModel AllAreDigits (digits_value 10)
own = numerals_by_value AllAreDigits tells

some_digits : (ds : List ℕ) → not (length ds == 0) ≡ true → 0 < length ds
some_digits [] e = absurd (false≢true e)
some_digits (d ∷ ds) e = omega arith

first_zero : (c n : ℕ) → (not (c == 48) || (n == 1)) ≡ true → c ≡ 48 → n ≡ 1
first_zero c n h e = grind (arith, tests)

-- digits are the decimal text of their value
pub spells : (ds : List ℕ) → is_canonical_decimal ds ≡ true → digits_value 10 ds < 2 ^ 64 → decimal (digits_value 10 ds) ≡ ds
spells ds e small =
    let parts = and_parts (not (length ds == 0) && list_all is_ascii_digit ds) (not (slice_index ds 0 == 48) || (length ds == 1)) e in
    let front = and_parts (not (length ds == 0)) (list_all is_ascii_digit ds) parts.0 in
    decimal-digits_value own ds front.1 (some_digits ds front.0) (first_zero (slice_index ds 0) (length ds) parts.1) small

pub digits_of_digits : (ds : List ℕ) → is_canonical_decimal ds ≡ true → AllAreDigits ds
digits_of_digits ds e =
    let parts = and_parts (not (length ds == 0) && list_all is_ascii_digit ds) (not (slice_index ds 0 == 48) || (length ds == 1)) e in
    (and_parts (not (length ds == 0)) (list_all is_ascii_digit ds) parts.0).1

pub some_of_digits : (ds : List ℕ) → is_canonical_decimal ds ≡ true → 0 < length ds
some_of_digits ds e =
    let parts = and_parts (not (length ds == 0) && list_all is_ascii_digit ds) (not (slice_index ds 0 == 48) || (length ds == 1)) e in
    some_digits ds (and_parts (not (length ds == 0)) (list_all is_ascii_digit ds) parts.0).0

lt-false : (m n : ℕ) → (m < n → ⊥) → nat_lt m n ≡ false
lt-false m n h = search (rules, tests)

le-is : (m n : ℕ) → nat_le m n ≡ true → m ≤ n
le-is m n h = search (rules, tests)

abbrev pub Magnitude : List ℕ → Option ℕ
Magnitude ds = cond (is_canonical_decimal ds && nat_lt (digits_value 10 ds) (2 ^ 64)) (Some (digits_value 10 ds)) None

parsed_is : {E : Type 0} (some : Bool) (n : ℕ) (r : Result ℕ E) → some ≡ true → OkIff r (n < 2 ^ 64) n → result_ok r ≡ cond (some && nat_lt n (2 ^ 64)) (Some n) None
parsed_is some n (Ok x) e h = rw (e, lt-ltb n (2 ^ 64) h.0, h.1) refl
parsed_is some n (Err x) e h = rw (e, lt-false n (2 ^ 64) h) refl

narrowed : {E : Type 0} (n : ℕ) (A : Type 0) (r : Result ℕ E) → A → OkIff r (A × (n < 2 ^ 64)) n → OkIff r (n < 2 ^ 64) n
narrowed n A (Ok x) a h = (h.0.1, h.1)
narrowed n A (Err x) a h = λ small. h (a, small)

pub magnitude_is : {E : Type 0} (ds : List ℕ) (r : Result ℕ E) → ParsesUnsigned 64 10 ds r → is_canonical_decimal ds ≡ true → result_ok r ≡ Magnitude ds
magnitude_is ds r h e =
    parsed_is (is_canonical_decimal ds) (digits_value 10 ds) r e (narrowed (digits_value 10 ds) (0 < length ds) r (some_of_digits ds e) (parse_digits own 64 ds r h (digits_of_digits ds e)))

pub no_minus : (w : List ℕ) → ((rest : List ℕ) → w ≢ 45 ∷ rest) → is_minus (slice_index w 0) ≡ false
no_minus [] h = refl
no_minus (c ∷ cs) h = elim (eqb_tells c 45) [ inl p ↦ absurd (h cs (ap (λ d. d ∷ cs) p.1)) | inr p ↦ p.0 ]

at_unsigned : (ds : List ℕ) (some small : Bool) → is_canonical_decimal ds ≡ some → nat_lt (digits_value 10 ds) (2 ^ 64) ≡ small
    → respelt_digits false ds ≡ option_map (λ _. ds) (cond (some && small) (Some (digits_value 10 ds)) None)
at_unsigned ds true true e f = rw (e, f) (ap (λ s. Some s) (spells ds e (ltb-true (digits_value 10 ds) (2 ^ 64) f)))
at_unsigned ds true false e f = rw (e, f) refl
at_unsigned ds false small e f = rw e refl

pub respelt_unsigned : (w : List ℕ) (m : Option ℕ) → ((rest : List ℕ) → w ≢ 45 ∷ rest) → m ≡ Magnitude w → respelt_whole w ≡ option_map (λ _. w) m
respelt_unsigned w m h e = rw (no_minus w h, e) (at_unsigned w (is_canonical_decimal w) (nat_lt (digits_value 10 w) (2 ^ 64)) refl refl)

-- ---- after a minus

spelt_zero : (ds : List ℕ) → is_canonical_decimal ds ≡ true → digits_value 10 ds ≡ 0 → signed_decimal (signed true (digits_value 10 ds)) ≡ ds
spelt_zero ds e z = rw z (rw z at (spells ds e (omega (arith, z))))

spelt_below : (n : ℕ) (ds : List ℕ) → (n ≡ 0 → ⊥) → decimal n ≡ ds → signed_decimal (neg_ℤ (pos n)) ≡ 45 ∷ ds
spelt_below zero ds h e = absurd (h refl)
spelt_below (suc n) ds h e = ap (λ s. 45 ∷ s) e

le-true : (m n : ℕ) → m ≤ n → nat_le m n ≡ true
le-true m n h = search (rules, tests)

le-false : (m n : ℕ) → n < m → nat_le m n ≡ false
le-false m n h = search (rules, tests)

known : (some small : Bool) (v n : ℕ) → cond (some && small) (Some v) None ≡ Some n → (some ≡ true) × (small ≡ true) × (v ≡ n)
known true true v n e = (refl, refl, ap (λ o. unwrap_or o 0) e)
known true false v n e = absurd (false≢true (ap is_some e))
known false small v n e = absurd (false≢true (ap is_some e))

unknown : (some small : Bool) (v : ℕ) → cond (some && small) (Some v) None ≡ None → (some ≡ false) ⊎ (small ≡ false)
unknown true true v e = absurd (false≢true (sym (ap is_some e)))
unknown true false v e = inr refl
unknown false small v e = inl refl

below_not : (v : ℕ) → nat_lt v (2 ^ 64) ≡ false → nat_le v (2 ^ 63) ≡ false
below_not v h = search (rules, tests)

module _ (ds : List ℕ) (m : Option ℕ) (is : m ≡ Magnitude ds) where
  abbrev v : ℕ
  v = digits_value 10 ds

  pub respelt_zero : m ≡ Some 0 → respelt_digits true ds ≡ Some ds
  respelt_zero e =
      let k = known (is_canonical_decimal ds) (nat_lt v (2 ^ 64)) v 0 (sym is ∙ e) in
      rw (k.0, le-true v (2 ^ 63) (omega (arith, k.2))) (ap (λ s. Some s) (spelt_zero ds k.0 k.2))

  pub respelt_negative : (n : ℕ) → m ≡ Some n → (n ≡ 0 → ⊥) → n ≤ 2 ^ 63 → respelt_digits true ds ≡ Some (45 ∷ ds)
  respelt_negative n e some small =
      let k = known (is_canonical_decimal ds) (nat_lt v (2 ^ 64)) v n (sym is ∙ e) in
      rw (k.0, le-true v (2 ^ 63) (omega (arith, k.2))) (ap (λ s. Some s) (spelt_below v ds (λ z. some (sym k.2 ∙ z)) (spells ds k.0 (ltb-true v (2 ^ 64) k.1))))

  pub respelt_past : (n : ℕ) → m ≡ Some n → 2 ^ 63 < n → respelt_digits true ds ≡ None
  respelt_past n e big =
      let k = known (is_canonical_decimal ds) (nat_lt v (2 ^ 64)) v n (sym is ∙ e) in
      rw (k.0, le-false v (2 ^ 63) (omega (arith, k.2))) refl

  pub respelt_none : m ≡ None → respelt_digits true ds ≡ None
  respelt_none e =
      elim (unknown (is_canonical_decimal ds) (nat_lt v (2 ^ 64)) v (sym is ∙ e)) [
        | inl bad ↦ rw bad refl
        | inr far ↦ at_far (is_canonical_decimal ds) far
      ] where
        at_far : (b : Bool) → nat_lt v (2 ^ 64) ≡ false → cond (b && nat_le v (2 ^ 63)) (Some (signed_decimal (signed true v))) None ≡ None
        at_far true far = rw (below_not v far) refl
        at_far false far = refl
