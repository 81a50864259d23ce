-- Searching a sorted list, and walking it along with another one.
use Rattle.std.proofs.Common.{◌≡◌, ℕ, ◌+◌, ◌<◌, ◌≤◌, List, get_or, length, refl, ap, inl, inr, ◌∙◌, arith}
use Rattle.std.specs.Prelude.{Contains, IsTrue, Result, Ok, Err, ◌↔◌}
use Rattle.std.specs.List.Sorted.{IsBinarySearchResult, IsStrictlyIncreasing}
use Rattle.std.specs.Ordering.{nat_cmp}
use Rattle.std.specs.Result.{is_ok}
use Rattle.std.proofs.lemmas.Bool.{cases_lt}
use Rattle.std.proofs.lemmas.List.{get_or_default}
use Rattle.std.proofs.lemmas.List.Kept.{AllPairs-from_increasing}
use Rattle.std.proofs.lemmas.List.Sorted.{searched}

pub rises : (xs : List ℕ) → IsStrictlyIncreasing xs → (i j : ℕ) → i ≤ j → j < length xs → get_or xs i 0 ≤ get_or xs j 0
rises xs rise i j l within = elim (cases_lt i j) [
  | inl g ↦ (let b = AllPairs-from_increasing xs rise i j 0 g within in omega arith)
  | inr g ↦ (let one : i ≡ j = omega arith in omega (arith, ap (λ (k : ℕ). get_or xs k 0) one))
]

-- the binary search succeeds exactly if the number is in the list
pub told_by_search : (xs : List ℕ) (n : ℕ) (r : Result ℕ ℕ) → IsStrictlyIncreasing xs → IsBinarySearchResult (λ y. nat_cmp y n) xs r → IsTrue (is_ok r) ↔ Contains xs n
told_by_search xs n (Ok i) rise h = let at = searched xs n (Ok i) h (rises xs rise) in ((λ _. (i, at.0, get_or_default xs i n 0 at.0 ∙ at.1)), (λ _. refl))
told_by_search xs n (Err i) rise h =
    let gap = searched xs n (Err i) h (rises xs rise) in (
      (λ yes. absurd cc),
      (λ (k, l, e).
          let here : get_or xs k 0 ≡ n = get_or_default xs k 0 n l ∙ e in
          elim (cases_lt k i) [ inl g ↦ (let low = gap.1 k g in absurd (omega arith)) | inr g ↦ (let high = gap.2 k (omega arith) l in absurd (omega arith)) ]),
    )

module _ (list numbers : List ℕ) (i matched_count : ℕ) (before : (k m : ℕ) → k < i → matched_count ≤ m → m < length numbers → get_or list k 0 < get_or numbers m 0) where
  -- a number that is less than the next element isn't in the list
  pub not_there : IsStrictlyIncreasing list → matched_count < length numbers → (i < length list → get_or numbers matched_count 0 < get_or list i 0) → Contains list (get_or numbers matched_count 0) → ⊥
  not_there rise within below (k, l, e) =
      let here : get_or list k 0 ≡ get_or numbers matched_count 0 = get_or_default list k 0 (get_or numbers matched_count 0) l ∙ e in
      elim (cases_lt k i) [
        | inl g ↦ (let a = before k matched_count g (omega arith) within in absurd (omega arith))
        | inr g ↦ (let a = below (omega arith) in let b = rises list rise i k (omega arith) l in absurd (omega arith))
      ]

  -- elements below all remaining numbers are passed
  pub passed : (next : ℕ) → matched_count ≤ next → ((m : ℕ) → next ≤ m → m < length numbers → get_or list i 0 < get_or numbers m 0) → (k m : ℕ) → k < i + 1 → next ≤ m → m < length numbers → get_or list k 0 < get_or numbers m 0
  passed next on below k m l later lm = elim (cases_lt k i) [
    | inl g ↦ before k m g (omega arith) lm
    | inr g ↦ (
        let one : k ≡ i = omega arith in
        let low = below m later lm in
        let same : get_or list k 0 ≡ get_or list i 0 = ap (λ (x : ℕ). get_or list x 0) one in
        omega arith)
  ]
