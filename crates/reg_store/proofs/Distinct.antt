-- Sorted numbers, compared with their neighbours to find duplicates.
use Rattle.std.proofs.Common.{◌≡◌, ◌≢◌, ℕ, ℤ, pos, ◌+◌, ◌<◌, List, length, get_or, false, Ordering, Less, Equal, Greater, refl, sym, ap, ◌∙◌, arith}
use Rattle.std.specs.Ordering.{is_eq, is_lt, int_cmp, eq_by_cmp, ordering_reverse}
use Rattle.std.specs.List.{IsDistinct}
use Rattle.std.specs.List.Sorted.{IsPermutation, IsSorted}
use Rattle.std.specs.FinMap.{int_cmp-IsAntisymmetric}
use Rattle.std.proofs.lemmas.Bool.{both_ways}
use Rattle.std.proofs.lemmas.Cmp.{int_cmp_total, tied_itself}
use Rattle.std.proofs.lemmas.List.Sorted.{IsPermutation-sym}
use Rattle.std.proofs.lemmas.Map.Keys.{IsDistinct-IsPermutation, IsDistinct-from_sorted, sorted_from_all_adjacent, apart_from_distinct}

swaps : (a b : ℤ) → eq_by_cmp int_cmp a b ≡ eq_by_cmp int_cmp b a
swaps a b = sym (ap is_eq (int_cmp_total.antisymm b a) ∙ turned (int_cmp a b))
  where
    turned : (o : Ordering) → is_eq (ordering_reverse o) ≡ is_eq o
    turned Less = refl
    turned Equal = refl
    turned Greater = refl

rises : (a b : ℤ) → is_lt (int_cmp b a) ≡ false → a ≢ b → int_cmp a b ≡ Less
rises a b not_less apart = go (int_cmp a b) refl
  where
    go : (o : Ordering) → int_cmp a b ≡ o → int_cmp a b ≡ Less
    go Less e = e
    go Equal e = absurd (apart (int_cmp-IsAntisymmetric a b e))
    go Greater e = absurd (both_ways _ not_less (ap is_lt (int_cmp_total.antisymm b a ∙ ap ordering_reverse e)))

module _ (xs ys : List ℤ) (same : IsPermutation xs ys) where
  pub distinct_if_sorted : IsSorted int_cmp ys → ((k : ℕ) → k + 1 < length ys → get_or ys k (pos 0) ≢ get_or ys (k + 1) (pos 0)) → IsDistinct (eq_by_cmp int_cmp) xs
  distinct_if_sorted sorted apart =
      IsDistinct-IsPermutation (eq_by_cmp int_cmp) swaps ys xs (IsPermutation-sym xs ys same)
      (IsDistinct-from_sorted int_cmp ys (sorted_from_all_adjacent int_cmp_total ys (pos 0) (λ k lt. rises (get_or ys k (pos 0)) (get_or ys (k + 1) (pos 0)) (sorted k (pos 0) (omega arith) lt) (apart k lt))))

  pub twins_if_same : (i j : ℕ) → i < j → j < length ys → get_or ys i (pos 0) ≡ get_or ys j (pos 0) → IsDistinct (eq_by_cmp int_cmp) xs → ⊥
  twins_if_same i j before within twins distinct =
      both_ways _ (apart_from_distinct (eq_by_cmp int_cmp) ys i j (pos 0) (IsDistinct-IsPermutation (eq_by_cmp int_cmp) swaps xs ys same distinct) before within)
      (ap (λ x. is_eq (int_cmp x (get_or ys j (pos 0)))) twins ∙ ap is_eq (tied_itself int_cmp_total (get_or ys j (pos 0))))
