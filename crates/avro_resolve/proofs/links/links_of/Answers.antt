use Rattle.std.proofs.Common.{◌≡◌, ◌<◌, ◌≤◌, ℕ, Some, length, sym, subst, ◌∙◌, inl, inr, arith, rules, List, ap}
use Rattle.std.specs.Prelude.{slice_get, Contains, Vec}
use Rattle.std.proofs.lemmas.Bool.{cases_lt}
use Rattle.std.proofs.lemmas.List.{length-map, length-set}
use Rattle.std.proofs.lemmas.Option.{slice_get_within}
use Rattle.std.proofs.Math.ListN.{set}
use Rattle.std.specs.List.Sorted.{IsNonDecreasingBy}
use Rattle.std.specs.declared.alloc.Global.{Global}
use Rattle.std.proofs.lemmas.List.Sorted.{Contains-permutation, IsPermutation-sym, IsNonDecreasingBy-from_sort_by_key}
use Rattle.avro_nodes.specs.Nodes.{node_view}
use Rattle.avro_resolve.specs.declared.links.Link.{Link}
use Rattle.avro_resolve.specs.declared.readable.Aliased.{Aliased}
use Rattle.avro_resolve.specs.Inside.Referrers.{HasUnions, IsPlaceLinked, ranks_of}
use Rattle.avro_resolve.specs.Inside.Schemas.{names_of, nodes_of}
use Rattle.avro_resolve.specs.Inside.Lists.{list_at}
use Rattle.avro_resolve.proofs.LinkLemmas.{of_node_on, place_on}
use Rattle.avro_resolve.proofs.ListLemmas.{keeps, onlys, list_in, list_past, list_set, list_set_other}
use Rattle.avro_resolve.proofs.links.links_of.Goals as goal

pub loop-i-init : goal.loop-i-init
loop-i-init c = record {
  unions = c.in_ok-unions_of.ensures;
  long = c.in_ok-empty_lists.ensures.long ∙ c.places.ensures.places;
  within = λ x p h. absurd (c.in_ok-empty_lists.ensures.empty x p h);
  named = λ i a l e. absurd (omega arith);
  meant = λ x p h. absurd (c.in_ok-empty_lists.ensures.empty x p h);
}

pub loop-i-preserved : goal.loop-i-preserved
loop-i-preserved c =
    let inv = c.loop-i.invariant in let at = c.loop-i.i in let indexed = c.args.indexed.now in let nodes = indexed.schema.now in
    let xs = c.loop-i.links in let ys = c.add_node_links.new.links in let more = c.in_ok-add_node_links.ensures.only_adds in
    let names = names_of indexed in let rank_map = ranks_of c.args.rank_map in
    let view : length (nodes_of indexed) ≡ length nodes = length-map nodes node_view in
    let below : at < length nodes = omega (arith, c.loop-i-test.true, c.places-i-end.ensures.places) in
    record {
      unions = subst (λ (v : Vec (Vec ℕ Global) Global). HasUnions (nodes_of indexed) v.items) (sym more.unions) inv.unions;
      long = more.adds.long ∙ inv.long;
      within = λ x p l. elim (more.adds.only x p l) [ inl m ↦ inv.within x p m | inr h ↦ subst (λ (i : ℕ). i < length nodes) (sym h.0) below ];
      named = λ i a l e. elim (cases_lt i at) [
        | inl g ↦ place_on xs ys more.adds.kept more.kept names rank_map i a (inv.named i a g e)
        | inr g ↦ (let s : i ≡ at = omega arith in
            subst (λ (x : ℕ). IsPlaceLinked names rank_map ys x a) (sym s) (c.in_ok-add_node_links.ensures.there a (subst (λ (x : ℕ). slice_get (nodes_of indexed) x ≡ Some a) s e)))
      ];
      meant = λ x p l a e. elim (more.adds.only x p l) [
        | inl m ↦ of_node_on xs.aliased.items ys.aliased.items more.kept rank_map x names a p (inv.meant x p m a e)
        | inr h ↦ h.1 a (subst (λ (i : ℕ). slice_get (nodes_of indexed) i ≡ Some a) h.0 e)
      ];
    }

pub loop-place-preserved : goal.loop-place-preserved
loop-place-preserved c =
    let inv = c.loop-place.invariant in let xs = c.loop-place.links.lists.items in let k = c.loop-place.place in let d = c.index_mut.result.now in let v = c.sort_unstable_by_key.new.self in
    let l : k < length xs = omega (arith, inv.long, c.loop-place-test.true) in
    let here : list_at xs k ≡ d.items = list_in xs k d l ∙ ap (λ (u : Vec Link Global). u.items) (sym c.index_mut.ensures.value) in
    let moved = c.sort_unstable_by_key.ensures.permutation in
    let rising : IsNonDecreasingBy (λ (x : Link). x.label) v.items = IsNonDecreasingBy-from_sort_by_key (λ (x : Link). x.label) _ c.sort_unstable_by_key.ensures.sorted (λ a r q e. search rules) in
    record {
      long = length-set xs k v ∙ inv.long;
      same = record {
        there = λ x p h. keeps xs k v l (λ y g. Contains-permutation d.items v.items y moved (subst (λ (ys : List Link). Contains ys y) here g)) x p (inv.same.there x p h);
        back = λ x p h. inv.same.back x p (elim (onlys xs k v l (λ _ _. ⊥) (λ y g. inl (subst (λ (ys : List Link). Contains ys y) (sym here) (Contains-permutation v.items d.items y (IsPermutation-sym d.items v.items moved) g))) x p h) [ inl m ↦ m | inr n ↦ absurd n ]);
      };
      aliased = inv.aliased;
      unions = inv.unions;
      sorted = λ p below. elim (cases_lt p k) [
        | inl g ↦ subst (λ (ys : List Link). IsNonDecreasingBy (λ (x : Link). x.label) ys) (sym (list_set_other xs k p v (λ (e : p ≡ k). absurd (omega (arith, e, g))))) (inv.sorted p g)
        | inr g ↦ (let e : k ≡ p = omega arith in subst (λ (q : ℕ). IsNonDecreasingBy (λ (x : Link). x.label) (list_at (set xs k v) q)) e (subst (λ (ys : List Link). IsNonDecreasingBy (λ (x : Link). x.label) ys) (sym (list_set xs k v l)) rising))
      ];
    }

pub returns : goal.returns
returns c =
    let inv = c.loop-i.invariant in let indexed = c.args.indexed.now in let nodes = indexed.schema.now in let same = c.loop-place.invariant.same in
    let xs = c.loop-i.links in let ys = c.loop-place.links in
    let view : length (nodes_of indexed) ≡ length nodes = length-map nodes node_view in
    let past : length nodes ≤ c.loop-i.i = omega (arith, c.loop-i-test.false, c.places-i-end.ensures.places) in
    let kept : (number : ℕ) (field : Aliased) → slice_get xs.aliased.items number ≡ Some field → slice_get ys.aliased.items number ≡ Some field =
    λ number field e. subst (λ (fs : List Aliased). slice_get fs number ≡ Some field) (sym c.loop-place.invariant.aliased) e in
    record {
      unions = subst (λ (v : Vec (Vec ℕ Global) Global). HasUnions (nodes_of indexed) v.items) (sym c.loop-place.invariant.unions) inv.unions;
      links = record {
        within = λ x p h. subst (λ (n : ℕ). x.referrer < n) (sym view) (inv.within x p (same.back x p h));
        sorted = λ place. elim (cases_lt place (length ys.lists.items)) [
          | inl g ↦ c.loop-place.invariant.sorted place (omega (arith, c.loop-place.invariant.long, c.loop-place-test.false))
          | inr g ↦ subst (λ (ls : List Link). IsNonDecreasingBy (λ (x : Link). x.label) ls) (sym (list_past ys.lists.items place g)) (λ i j d le l. absurd (omega arith))
        ];
        named = λ i a e. (
            let l : i < length (nodes_of indexed) = slice_get_within (nodes_of indexed) i a e in
            place_on xs ys same.there kept (names_of indexed) (ranks_of c.args.rank_map) i a (inv.named i a (omega arith) e)
            );
        meant = λ x p h a e. of_node_on xs.aliased.items ys.aliased.items kept (ranks_of c.args.rank_map) x (names_of indexed) a p (inv.meant x p (same.back x p h) a e);
      };
    }
