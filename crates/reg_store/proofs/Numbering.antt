-- Consecutive numbers.
use Rattle.std.proofs.Common.{◌≡◌, ◌≢◌, inl, inr, ℕ, ℤ, pos, suc, ◌+◌, ◌<◌, ◌≤◌, List, [], ◌∷◌, map, length, get_or, false, refl, sym, ◌∙◌, arith}
use Rattle.std.specs.Ordering.{nat_cmp, int_cmp, eq_by_cmp}
use Rattle.std.specs.List.{AllByRecursion, IsDistinct}
use Rattle.std.specs.List.Sorted.{IsNonDecreasingBy}
use Rattle.std.specs.FinMap.{int_cmp-IsAntisymmetric}
use Rattle.std.proofs.lemmas.Bool.{both_ways}
use Rattle.std.proofs.lemmas.Cmp.{int_cmp_total}
use Rattle.sqlite_rules.specs.Lists.{Has}
use Rattle.sqlite_rules.proofs.ListLemmas.{all_has, all_from}
use Rattle.reg_tables.proofs.MapLemmas.{tied_key, other_key}
use Rattle.reg_tables.proofs.KeyedTables.{number_order}
use Rattle.reg_tables.specs.declared.raw_texts.RawText.{RawText}
use Rattle.reg_rows.specs.Spelling.{AreConsecutive, Text}
use Rattle.reg_store.specs.Opening.{text_columns}

-- no number is greater than a later one
abbrev pub Rises : List ℕ → Type 0
Rises [] = Unit {0}
Rises (n ∷ ns) = AllByRecursion (λ m. n ≤ m) ns × Rises ns

at_most : {X : Type 0} (number : X → ℕ) (x : X) (xs : List X) → ((j : ℕ) → j < length xs → number x ≤ number (get_or xs j x)) → AllByRecursion (λ m. number x ≤ m) (map number xs)
at_most number x [] f = tt
at_most number x (y ∷ ys) f = (f 0 (omega arith), at_most number x ys (λ j l. f (suc j) (omega arith)))

pub rises : {X : Type 0} (number : X → ℕ) (xs : List X) → IsNonDecreasingBy number xs → Rises (map number xs)
rises number [] s = tt
rises number (x ∷ xs) s = (at_most number x xs (λ j l. s 0 (suc j) x (omega arith) (omega arith)), rises number xs (λ i j d a b. s (suc i) (suc j) d (omega arith) (omega arith)))

-- distinct non-decreasing numbers without a gap are consecutive
pub numbered : (first : ℕ) (ns : List ℕ) → Rises ns → IsDistinct (eq_by_cmp nat_cmp) ns → ((n : ℕ) → Has ns n → first ≤ n) → ((n m : ℕ) → Has ns n → first ≤ m → m ≤ n → Has ns m) → AreConsecutive first ns
unfolding IsDistinct
numbered first [] r d low whole = tt
numbered first (n ∷ ns) r d low whole = (
  is,
  numbered (first + 1) ns r.1 d.1 (λ m there. let a = low m (inr there) in let b = apart m there in let c = is in omega (arith, a, b, c)) (λ m k there a b. next k a (whole m k (inr there) (omega arith) b)),
)
  where
    is : n ≡ first
    is = elim (whole n first (inl refl) (omega arith) (low n (inl refl))) [
      | inl e ↦ sym e
      | inr later ↦ let a = low n (inl refl) in let b = all_has (λ m. n ≤ m) ns first r.0 later in omega (arith, a, b)
    ]

    apart : (m : ℕ) → Has ns m → n ≢ m
    apart m there e = both_ways _ (all_has (λ k. eq_by_cmp nat_cmp n k ≡ false) ns m d.0 there) (tied_key nat_cmp number_order n m e)

    next : (k : ℕ) → first + 1 ≤ k → Has (n ∷ ns) k → Has ns k
    next k a (inl e) = absurd (let b = is in omega (arith, a, e, b))
    next k a (inr later) = later

-- their count is at most the count of the numbers from `first` to `most`
pub few_numbered : (first most : ℕ) (ns : List ℕ) → AreConsecutive first ns → ((n : ℕ) → Has ns n → n ≤ most) → first ≤ most + 1 → first + length ns ≤ most + 1
few_numbered first most [] h high l = omega arith
few_numbered first most (n ∷ ns) h high l =
    let a = high n (inl refl) in
    let e = h.0 in
    let rest = few_numbered (first + 1) most ns h.1 (λ m there. high m (inr there)) (omega (arith, a, e)) in
    omega (arith, rest)

abbrev ids : List RawText → List ℕ
ids lines = map (λ (row : ℕ × Text). row.0) (map text_columns lines)

pub ids_apart : (lines : List RawText) → AreConsecutive 1 (ids lines) → IsDistinct (eq_by_cmp int_cmp) (map (λ (line : RawText). pos line.id) lines)
unfolding IsDistinct
ids_apart lines n = from 1 lines n
  where
    later : (first : ℕ) (ls : List RawText) → AreConsecutive first (ids ls) → (i : ℤ) → Has (map (λ (line : RawText). pos line.id) ls) i → (m : ℕ) × (i ≡ pos m) × (first ≤ m)
    later first [] h i there = absurd there
    later first (l ∷ ls) h i (inl e) = (l.id, e, (let a = h.0 in omega (arith, a)))
    later first (l ∷ ls) h i (inr rest) = let it = later (first + 1) ls h.1 i rest in (it.0, it.1, (let a = it.2 in omega (arith, a)))

    from : (first : ℕ) (ls : List RawText) → AreConsecutive first (ids ls) → IsDistinct (eq_by_cmp int_cmp) (map (λ (line : RawText). pos line.id) ls)
    from first [] h = tt
    from first (l ∷ ls) h = (
      all_from (λ i. eq_by_cmp int_cmp (pos l.id) i ≡ false) (map (λ (line : RawText). pos line.id) ls) (λ i there.
          let it = later (first + 1) ls h.1 i there in
          other_key int_cmp (record { total = int_cmp_total; antisymmetric = int_cmp-IsAntisymmetric }) (pos l.id) i (λ e.
          let same : pos l.id ≡ pos it.0 = e ∙ it.1 in
          let number : l.id ≡ it.0 = cc in
          let a = h.0 in
          let b = it.2 in
          omega (arith, a, b, number))),
      from (first + 1) ls h.1,
    )
