-- The text of a number reads back as the number.
use Rattle.std.proofs.Common.{◌≡◌, ℕ, ℤ, pos, negsuc, ◌^◌, ◌<◌, List, Float, true, Some, int_lt, decimal, SFits, w64, refl, sym, ap, ◌∙◌, arith}
use Rattle.std.specs.Float.{float_is_finite}
use Rattle.std.specs.Fmt.{signed_decimal}
use Rattle.serde_json.specs.Data.{Num, unsigned, negative, float}
use Rattle.serde_json.specs.Find.{as_u64, as_i64, to_float}
use Rattle.serde_json.specs.Number.{num_of, is_valid}
use Rattle.serde_json.specs.Read.{number_of}
use Rattle.serde_json.specs.Written.{number_text, unless_float}
use Rattle.serde_json.specs.declared.number.N.{N}
use Rattle.serde_json.specs.declared.number.N.TheVariants.{PosInt, NegInt, Float as Real}
use Rattle.serde_json.proofs.Numbers.{number_of-decimal, number_of-negative}
use Rattle.serde_json.proofs.Texts.{unless_float-number_of}

-- the text is read as the number, and is the number's text unless it is a float
abbrev pub Spells : List ℕ → Num → Type 0
Spells s x = (number_of s ≡ Some x) × (unless_float s ≡ number_text x)

pub unsigned_text : (x : Num) (n : ℕ) → as_u64 x ≡ Some n → n < 2 ^ 64 → Spells (decimal n) x
unsigned_text (unsigned m) n e h =
    let same : m ≡ n = cc in
    let read = number_of-decimal n h in
    (read ∙ ap (λ (k : ℕ). Some (unsigned k)) (sym same), unless_float-number_of (decimal n) (unsigned n) read ∙ ap decimal (sym same))
unsigned_text (negative z) n e h = absurd (cc)
unsigned_text (float x) n e h = absurd (cc)

below_zero : (z : ℤ) → int_lt z (pos 0) ≡ true → SFits w64 z → Spells (signed_decimal z) (negative z)
below_zero (pos n) e fits = absurd (grind arith)
below_zero (negsuc n) e fits = let read = number_of-negative n (grind arith) in (read, unless_float-number_of (signed_decimal (negsuc n)) (negative (negsuc n)) read)

pub signed_text : (m : N) (z : ℤ) → ((n : ℕ) → as_u64 (num_of m) ≡ Some n → ⊥) → as_i64 (num_of m) ≡ Some z → is_valid m ≡ true → SFits w64 z → Spells (signed_decimal z) (num_of m)
signed_text (PosInt n) z other e valid fits = absurd (other n refl)
signed_text (NegInt y) z other e valid fits = let same : y ≡ z = cc in rw same (below_zero z (rw same at valid) fits)
signed_text (Real x) z other e valid fits = absurd (cc)

pub unSome : {A : Type 0} {x y : A} → Some x ≡ Some y → x ≡ y
unSome e = cc

pub float_text : (m : N) (x : Float) (s : List ℕ) → ((n : ℕ) → as_u64 (num_of m) ≡ Some n → ⊥) → ((z : ℤ) → as_i64 (num_of m) ≡ Some z → ⊥) → to_float (num_of m) ≡ x → is_valid m ≡ true
    → ((y : Float) → y ≡ x → float_is_finite y ≡ true → number_of s ≡ Some (float y)) → Spells s (num_of m)
float_text (PosInt n) x s other integer e valid read = absurd (other n refl)
float_text (NegInt z) x s other integer e valid read = absurd (integer z refl)
float_text (Real y) x s other integer e valid read = let is = read y e valid in (is, unless_float-number_of s (float y) is)
