-- Symbols that are numbered in the slots of their ranks.
use Rattle.std.proofs.Common.{◌≡◌, ◌≢◌, ℕ, zero, suc, ◌+◌, ◌<◌, ◌≤◌, List, [], get_or, length, replicate, subst, sym, ap, ◌∙◌, inl, inr, arith, get_or-set_other, get_or-set_same}
use Rattle.std.proofs.Math.ListN.{set}
use Rattle.std.specs.List.Sorted.{IsStrictlyIncreasing}
use Rattle.std.proofs.lemmas.Bool.{cases_lt}
use Rattle.std.proofs.lemmas.List.Kept.{AllPairs-from_increasing}
use Rattle.std.specs.Prelude.{All, MatchOption, None, Option, Some, Vec}
use Rattle.std.specs.declared.alloc.Global.{Global}
use Rattle.std.proofs.lemmas.Option.{slice_get_within}
use Rattle.avro_schema.specs.Index.{AreSortedRanks}
use Rattle.avro_resolve.specs.Inside.Agreeing.{AreCleared, AreNumbered, AreSymbolsMapped}
use Rattle.avro_resolve.proofs.ListLemmas.{same_place}

-- before the first symbol is numbered
pub none_numbered : (slots symbols : List ℕ) → AreCleared slots → AreNumbered slots symbols 0 0
none_numbered slots symbols h = record { only = λ rank k e. absurd (h rank k e); each = λ k lo hi. absurd (omega arith) }

-- after the last symbol is cleared
pub all_blank : (slots symbols : List ℕ) (low high : ℕ) → high ≤ low → AreNumbered slots symbols low high → AreCleared slots
all_blank slots symbols low high l h rank k e = (let at = h.only rank k e in let lo = at.0 in let hi = at.1 in omega arith)

differ : (symbols : List ℕ) → IsStrictlyIncreasing symbols → (j k : ℕ) → j < k → k < length symbols → get_or symbols j 0 ≢ get_or symbols k 0
differ symbols rise j k l m e = (let b = AllPairs-from_increasing symbols rise j k 0 l m in omega arith)

-- one more symbol is numbered
pub number_more : (slots symbols : List ℕ) (n : ℕ) → IsStrictlyIncreasing symbols → n < length symbols → get_or symbols n 0 < length slots → AreNumbered slots symbols 0 n → AreNumbered (set slots (get_or symbols n 0) (n + 1)) symbols 0 (n + 1)
number_more slots symbols n rise within room h =
    let s = get_or symbols n 0 in
    record {
      only = λ rank k e. elim (same_place rank s) [
        | inl same ↦ (
            let now : get_or (set slots s (n + 1)) s 0 ≡ n + 1 = get_or-set_same slots s (n + 1) 0 room in
            let f : get_or (set slots s (n + 1)) s 0 ≡ k + 1 = ap (λ (x : ℕ). get_or (set slots s (n + 1)) x 0) (sym same) ∙ e in
            let is : k ≡ n = omega arith in
            (omega arith, omega arith, ap (λ (x : ℕ). get_or symbols x 0) is ∙ sym same))
        | inr other ↦ (
            let old : get_or slots rank 0 ≡ k + 1 = sym (get_or-set_other slots s rank (n + 1) 0 other) ∙ e in
            let at = h.only rank k old in (at.0, (let l = at.1 in omega arith), at.2))
      ];
      each = λ k lo hi. elim (cases_lt k n) [
        | inl g ↦ get_or-set_other slots s (get_or symbols k 0) (n + 1) 0 (differ symbols rise k n g within) ∙ h.each k lo g
        | inr g ↦ (let is : k ≡ n = omega arith in ap (λ (x : ℕ). get_or (set slots s (n + 1)) (get_or symbols x 0) 0) is ∙ get_or-set_same slots s (n + 1) 0 room ∙ ap (λ (x : ℕ). x + 1) (sym is))
      ];
    }

-- one more symbol is cleared
pub number_less : (slots symbols : List ℕ) (n high : ℕ) → IsStrictlyIncreasing symbols → high ≤ length symbols → n < high → get_or symbols n 0 < length slots → AreNumbered slots symbols n high → AreNumbered (set slots (get_or symbols n 0) 0) symbols (n + 1) high
number_less slots symbols n high rise ends within room h =
    let s = get_or symbols n 0 in
    record {
      only = λ rank k e. elim (same_place rank s) [
        | inl same ↦ (
            let now : get_or (set slots s 0) s 0 ≡ 0 = get_or-set_same slots s 0 0 room in
            let f : get_or (set slots s 0) s 0 ≡ k + 1 = ap (λ (x : ℕ). get_or (set slots s 0) x 0) (sym same) ∙ e in absurd (omega arith))
        | inr other ↦ (
            let old : get_or slots rank 0 ≡ k + 1 = sym (get_or-set_other slots s rank 0 0 other) ∙ e in
            let at = h.only rank k old in
            elim (same_place k n) [
              | inl is ↦ absurd (other (sym at.2 ∙ ap (λ (x : ℕ). get_or symbols x 0) is))
              | inr ne ↦ ((let lo = at.0 in omega arith), at.1, at.2)
            ])
      ];
      each = λ k lo hi. get_or-set_other slots s (get_or symbols k 0) 0 0 (λ f. differ symbols rise n k (omega arith) (omega arith) (sym f)) ∙ h.each k (omega arith) hi;
    }

-- the ranks of texts are below the number of names
pub rising_below : (names texts : List (List ℕ)) (ranks : List ℕ) → AreSortedRanks names texts ranks → All (λ rank. rank < length names) ranks
rising_below names texts ranks h = λ k d l. let at = h.only k d l in slice_get_within names (get_or ranks k d) at.0 at.2

-- the list of mapped ranks: strictly increasing, and each below the number of names
pub listed_ranked : (names texts : List (List ℕ)) (o : Option (Vec ℕ Global)) (xs : List ℕ) → MatchOption o (xs ≡ []) (λ v. xs ≡ v.items) → AreSymbolsMapped names texts o → IsStrictlyIncreasing xs × All (λ rank. rank < length names) xs
listed_ranked names texts None xs e h = (subst IsStrictlyIncreasing (sym e) (λ k l. absurd (omega arith)), subst (All (λ rank. rank < length names)) (sym e) (λ k d l. absurd (omega arith)))
listed_ranked names texts (Some v) xs e h = (subst IsStrictlyIncreasing (sym e) h.rise, subst (All (λ rank. rank < length names)) (sym e) (rising_below names texts v.items h))

pub listed_numbered : (o : Option (Vec ℕ Global)) (xs slots : List ℕ) → MatchOption o (xs ≡ []) (λ v. xs ≡ v.items) → AreNumbered slots xs 0 (length xs) → MatchOption o (Unit {0}) (λ v. AreNumbered slots v.items 0 (length v.items))
listed_numbered None xs slots e h = tt
listed_numbered (Some v) xs slots e h = subst (λ (ys : List ℕ). AreNumbered slots ys 0 (length ys)) e h

pub cleared_slots : (n : ℕ) → AreCleared (replicate n 0)
cleared_slots zero rank k e = (let z : 0 ≡ k + 1 = e in absurd (omega arith))
cleared_slots (suc n) zero k e = (let z : 0 ≡ k + 1 = e in absurd (omega arith))
cleared_slots (suc n) (suc rank) k e = cleared_slots n rank k e
