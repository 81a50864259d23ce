-- Ranks in ascending order, without duplicates.
use Rattle.std.proofs.Common.{◌≡◌, ℕ, ◌<◌, List, [], length, get_or, Some, nat_cmp, sym, ap, ◌∙◌, subst, arith}
use Rattle.std.specs.Prelude.{slice_get}
use Rattle.std.specs.List.{dedup}
use Rattle.std.specs.List.Sorted.{IsSorted, IsPermutation}
use Rattle.std.proofs.lemmas.List.{get_or-map, get_or_default, length-map}
use Rattle.std.proofs.lemmas.List.Elements.{Contains-get_or}
use Rattle.std.proofs.lemmas.List.Kept.{Contains-dedup_nat, Contains-from_dedup}
use Rattle.std.proofs.lemmas.List.Sorted.{Contains-permutation, IsPermutation-sym}
use Rattle.std.proofs.lemmas.Map.Keys.{IsStrictlyIncreasing-dedup}
use Rattle.std.specs.Prelude.{eqb}
use Rattle.avro_schema.specs.Index.{IsRank, AreRanks, AreSortedRanks}

module _ (names : List (List ℕ)) where
  long : (texts : List (List ℕ)) (ranks : List ℕ) → AreRanks names texts ranks → length ranks ≡ length texts
  long texts ranks are = sym (length-map ranks (λ rank. slice_get names rank)) ∙ ap length are ∙ length-map texts (λ text. Some text)

  -- the rank of the text at an index
  rank_at : (texts : List (List ℕ)) (ranks : List ℕ) (k : ℕ) (d : List ℕ) → AreRanks names texts ranks → k < length texts → IsRank names (get_or texts k d) (get_or ranks k 0)
  rank_at texts ranks k d are l =
      let l2 : k < length ranks = omega (arith, long texts ranks are) in
      sym (get_or-map (λ rank. slice_get names rank) ranks k 0 (Some d) l2) ∙ ap (λ os. get_or os k (Some d)) are ∙ get_or-map (λ text. Some text) texts k d (Some d) l

  pub rising : (texts : List (List ℕ)) (ranks sorted : List ℕ) → AreRanks names texts ranks → IsPermutation ranks sorted → IsSorted nat_cmp sorted → AreSortedRanks names texts (dedup eqb sorted)
  rising texts ranks sorted are moved up = record {
    rise = IsStrictlyIncreasing-dedup sorted up;
    each = λ k d l. (
        let l2 : k < length ranks = omega (arith, long texts ranks are) in
        (get_or ranks k 0, Contains-dedup_nat sorted (get_or ranks k 0) (Contains-permutation ranks sorted (get_or ranks k 0) moved (Contains-get_or ranks k 0 l2)), rank_at texts ranks k d are l));
    only = λ k d l. (
        let rank = get_or (dedup eqb sorted) k d in
        let there = Contains-permutation sorted ranks rank (IsPermutation-sym ranks sorted moved) (Contains-from_dedup eqb sorted rank (Contains-get_or (dedup eqb sorted) k d l)) in
        let within : there.0 < length texts = omega (arith, long texts ranks are, there.1) in
        let at : get_or ranks there.0 0 ≡ rank = get_or_default ranks there.0 0 rank there.1 ∙ there.2 in
        (get_or texts there.0 [], Contains-get_or texts there.0 [] within, subst (λ (n : ℕ). IsRank names (get_or texts there.0 []) n) at (rank_at texts ranks there.0 [] are within)));
  }
