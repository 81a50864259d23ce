use Rattle.std.proofs.Common.{◌≡◌, ℕ, List, map, subst, rules, sym}
use Rattle.std.specs.Borrow.{Bor}
use Rattle.std.specs.List.Sorted.{IsPermutation, IsSorted}
use Rattle.std.specs.Ordering.{on}
use Rattle.std.proofs.lemmas.List.Filters.{dedup_is}
use Rattle.std.proofs.lemmas.List.Sorted.{IsPermutation-map}
use Rattle.avro_schema.proofs.Rising.{Placed, text, order, same, rise_once, all_once, sorted_by_text}
use Rattle.avro_schema.proofs.ranking.sorted_unique.Goals as goal

pub returns-clause-rise : goal.returns-clause-rise
returns-clause-rise c =
    let sorted = c.sort_unstable_by_key.new.self.items in
    let names = c.in_ok-names.names.items in
    let are : names ≡ map (λ (p : Placed). p.0) sorted = search rules in
    let up : IsSorted (on text order) names = subst (λ (ts : List (Bor (List ℕ))). IsSorted (on text order) ts) (sym are) (sorted_by_text sorted c.sort_unstable_by_key.ensures.sorted (λ a r f' q. search rules)) in
    rw (dedup_is same names c.dedup.new.self.items c.dedup.ensures.filtered) (rise_once names up)

pub returns-clause-all : goal.returns-clause-all
returns-clause-all c =
    let with_indices = c.in_ok-sorted.sorted.items in
    let sorted = c.sort_unstable_by_key.new.self.items in
    let names = c.in_ok-names.names.items in
    let are : names ≡ map (λ (p : Placed). p.0) sorted = search rules in
    let were : map (λ (p : Placed). p.0) with_indices ≡ c.args.texts.items = search rules in
    let moved : IsPermutation c.args.texts.items names =
    subst (λ (ts : List (Bor (List ℕ))). IsPermutation ts names) were (subst (λ (us : List (Bor (List ℕ))). IsPermutation (map (λ (p : Placed). p.0) with_indices) us) (sym are) (IsPermutation-map (λ (p : Placed). p.0) with_indices sorted c.sort_unstable_by_key.ensures.permutation)) in
    rw (dedup_is same names c.dedup.new.self.items c.dedup.ensures.filtered) (all_once c.args.texts.items names moved)
