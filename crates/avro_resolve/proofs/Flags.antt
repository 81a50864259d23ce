-- Flags by row and column.
use Rattle.std.proofs.Common.{◌≡◌, ◌≢◌, ℕ, ◌+◌, ◌*◌, ◌<◌, ◌≤◌, List, Bool, true, false, ◌&&◌, length, get_or, refl, sym, ap, subst, ◌∙◌, arith, true≢false, mul-le-mul_right, get_or-set_other, get_or-set_same, replicate, inl, inr}
use Rattle.std.proofs.Math.ListN.{set}
use Rattle.std.specs.Prelude.{◌==◌, if◌then◌else◌, sum_by, ◌⊎◌}
use Rattle.std.proofs.lemmas.List.Sums.{sum_by-set}
use Rattle.std.proofs.lemmas.List.Folds.{sum_by-replicate}
use Rattle.std.proofs.lemmas.List.{get_or-replicate, get_or_past}
use Rattle.std.proofs.lemmas.Nat.{same_from_place, mul-add-lt}
use Rattle.std.proofs.lemmas.Bool.{cases_lt}
use Rattle.std.proofs.lemmas.Bool.Decides.{nat_tests}
use Rattle.avro_resolve.specs.declared.table.Table.{Table}
use Rattle.avro_resolve.specs.Inside.Remaining.{flag, remains, one_if, count_flags}
use Rattle.avro_resolve.proofs.ListLemmas.{get_or_any}

pub flag_at : (fs : List Bool) (m i j : ℕ) → j < m → flag fs m i j ≡ get_or fs (i * m + j) false
unfolding flag
flag_at fs m i j l = grind (arith, nat_tests)

-- the flag at the index of a pair is the pair's
pub flag_is : (t : Table) (i at : ℕ) (b : Bool) → i < t.writers → at < t.readers → b ≡ get_or t.flags.items (i * t.readers + at) b → remains t i at ≡ b
flag_is t i at b li la e =
    let m = mul-add-lt i t.readers at t.writers li la in
    let l : i * t.readers + at < length t.flags.items = omega (arith, t.sized, t.flags.ok.0) in
    flag_at t.flags.items t.readers i at la ∙ get_or_any t.flags.items (i * t.readers + at) false b l ∙ sym e

pub flag_past : (fs : List Bool) (m i j : ℕ) → m ≤ j → flag fs m i j ≡ false
unfolding flag
flag_past fs m i j l = grind (arith, nat_tests)

pub flag_column : (fs : List Bool) (m i j : ℕ) → flag fs m i j ≡ true → j < m
unfolding flag
flag_column fs m i j l = grind (arith, nat_tests)

pub clear_count : (fs : List Bool) (k : ℕ) → k < length fs → get_or fs k false ≡ true → count_flags (set fs k false) + 1 ≡ count_flags fs
clear_count fs k l e =
    let h : sum_by one_if (set fs k false) + one_if (get_or fs k false) ≡ sum_by one_if fs + one_if false = sum_by-set one_if fs k false false l in
    let h' : sum_by one_if (set fs k false) + one_if true ≡ sum_by one_if fs + one_if false = subst (λ (x : Bool). sum_by one_if (set fs k false) + one_if x ≡ sum_by one_if fs + one_if false) e h in
    omega arith

place_cases : (fs : List Bool) (m i j a b : ℕ) → j < m → i * m + j < length fs → b < m → (x y : Bool) → (a == i) ≡ x → (b == j) ≡ y → get_or (set fs (i * m + j) false) (a * m + b) false ≡ if x && y then false else get_or fs (a * m + b) false
place_cases fs m i j a b l k c true true e f =
    let p : a ≡ i = grind (arith, nat_tests) in
    let q : b ≡ j = grind (arith, nat_tests) in
    rw (p, q) (rw get_or-set_same)
place_cases fs m i j a b l k c false y e f =
    let p : a ≢ i = grind (arith, nat_tests) in
    let ne : a * m + b ≢ i * m + j = λ s. p (same_from_place a b i j m c l s).0 in
    rw get_or-set_other
place_cases fs m i j a b l k c true false e f =
    let p : b ≢ j = grind (arith, nat_tests) in
    let ne : a * m + b ≢ i * m + j = λ s. p (same_from_place a b i j m c l s).1 in
    rw get_or-set_other

past_cases : (x : Bool) (t : Bool) → t ≡ false → false ≡ if x then false else t
past_cases true t e = refl
past_cases false t e = sym e

at_cases : (fs : List Bool) (m i j a b : ℕ) → j < m → i * m + j < length fs → (b < m) ⊎ (m ≤ b) → flag (set fs (i * m + j) false) m a b ≡ if a == i && b == j then false else flag fs m a b
at_cases fs m i j a b l k c = elim c [
  | inl c' ↦ flag_at (set fs (i * m + j) false) m a b c' ∙ place_cases fs m i j a b l k c' (a == i) (b == j) refl refl ∙ ap (λ t. if a == i && b == j then false else t) (sym (flag_at fs m a b c'))
  | inr c' ↦ flag_past (set fs (i * m + j) false) m a b c' ∙ past_cases (a == i && b == j) (flag fs m a b) (flag_past fs m a b c')
]

pub flag_set : (fs : List Bool) (m i j : ℕ) → j < m → i * m + j < length fs → (a b : ℕ) → flag (set fs (i * m + j) false) m a b ≡ if a == i && b == j then false else flag fs m a b
flag_set fs m i j l k a b = at_cases fs m i j a b l k (cases_lt b m)

row_lemma : (fs : List Bool) (n m i j : ℕ) → length fs ≡ n * m → (n ≤ i) → flag fs m i j ≡ true → i < n
row_lemma fs n m i j e l h =
    let c : j < m = flag_column fs m i j h in
    let p : n * m ≤ i * m = mul-le-mul_right m l in
    let past : length fs ≤ i * m + j = omega (arith, e, p) in
    let g : get_or fs (i * m + j) false ≡ false = get_or_past fs (i * m + j) false past in
    absurd (true≢false (sym h ∙ flag_at fs m i j c ∙ g))

pub flag_row : (fs : List Bool) (n m i j : ℕ) → length fs ≡ n * m → flag fs m i j ≡ true → i < n
flag_row fs n m i j e h = elim (cases_lt i n) [ inl l ↦ l | inr l ↦ row_lemma fs n m i j e l h ]

pub flag_all : (fs : List Bool) (n m i j : ℕ) → fs ≡ replicate (n * m) true → i < n → j < m → flag fs m i j ≡ true
flag_all fs n m i j e li lj =
    let l : i * m + j < n * m = omega (arith, mul-add-lt i m j n li lj) in
    flag_at fs m i j lj ∙ ap (λ (x : List Bool). get_or x (i * m + j) false) e ∙ get_or-replicate (n * m) (i * m + j) true false l

pub ups_all : (n : ℕ) → count_flags (replicate n true) ≡ n
ups_all n = let h = sum_by-replicate one_if n true in omega arith
