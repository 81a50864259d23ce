use Rattle.std.proofs.Common.{◌≡◌, ◌<◌, ◌≤◌, ℕ, List, get_or, length, refl, sym, ap, subst, ◌∙◌, inl, inr, arith, Some}
use Rattle.std.specs.Prelude.{All, Contains, slice_get, Vec}
use Rattle.std.specs.declared.alloc.Global.{Global}
use Rattle.std.proofs.lemmas.Bool.{cases_lt}
use Rattle.std.proofs.lemmas.List.{length-map}
use Rattle.std.proofs.lemmas.List.Elements.{Contains-get_or}
use Rattle.std.proofs.lemmas.Option.{same_Some, slice_get_within}
use Rattle.avro_nodes.specs.Nodes.{NodeView, union, node_view, nodes_view}
use Rattle.avro_nodes.specs.declared.node.Node.{Node}
use Rattle.avro_nodes.specs.declared.node.Node.TheVariants.{Primitive, Array, Map, Union, Enum, Fixed, Rec}
use Rattle.avro_resolve.specs.Inside.Lists.{IsListedAt}
use Rattle.avro_resolve.specs.Inside.Places.{RefersBelow}
use Rattle.avro_resolve.specs.Inside.Referrers.{HasBranch, IsUnionListed}
use Rattle.avro_resolve.proofs.Monotone.{at_place}
use Rattle.avro_resolve.proofs.LinkLemmas.{union_listed_on}
use Rattle.avro_resolve.proofs.ListLemmas.{adds_none, adds_then, get_or_any}
use Rattle.avro_resolve.proofs.ViewLemmas.{view_got}
use Rattle.avro_resolve.proofs.lists.unions_of.Goals as goal

pub loop-i-init : goal.loop-i-init
loop-i-init c = record {
  long = c.in_ok-lists.ensures.long ∙ c.places.ensures.places;
  within = λ i p h. absurd (c.in_ok-lists.ensures.empty i p h);
  named = λ i a l e. absurd (omega arith);
  meant = λ i p h. absurd (c.in_ok-lists.ensures.empty i p h);
}

-- a node other than a union has no branches
not_listed : (lists : List (Vec ℕ Global)) (i : ℕ) (n : Node) → ((x : _) → n ≡ Union x → ⊥) → IsUnionListed lists i (node_view n)
not_listed lists i (Union ps) f = absurd (f ps refl)
not_listed lists i (Primitive k x) f = tt
not_listed lists i (Array p x) f = tt
not_listed lists i (Map p x) f = tt
not_listed lists i (Enum k s o x) f = tt
not_listed lists i (Fixed k s x) f = tt
not_listed lists i (Rec k fs x) f = tt

pub loop-i-preserved-in_default : goal.loop-i-preserved-in_default
loop-i-preserved-in_default c =
    let inv = c.loop-i.invariant in let at = c.loop-i.i in let nodes = c.args.schema.now in let node = node_view c.node.result.now in let xs = c.loop-i.lists.items in
    record {
      long = inv.long;
      within = inv.within;
      named = λ i a l e. elim (cases_lt i at) [
        | inl g ↦ inv.named i a g e
        | inr g ↦ (let s : at ≡ i = omega arith in
            let same : node ≡ a = same_Some node a (sym (view_got node_view nodes at c.node.result.now c.node.ensures) ∙ ap (slice_get (nodes_view nodes)) s ∙ e) in
            subst (λ (b : NodeView). IsUnionListed xs i b) same (not_listed xs i c.node.result.now c.in_default.not-Union))
      ];
      meant = inv.meant;
    }

pub loop-branch-init : goal.loop-branch-init
loop-branch-init c = record { adds = adds_none _ c.loop-i.lists.items; there = λ k d l. absurd (omega arith) }

pub add_at-requires : goal.add_at-requires
add_at-requires c =
    let nodes = nodes_view c.args.schema.now in let n = length nodes in let at = c.loop-i.i in let ps = c.deref-branch-items.result.now in let k = c.loop-branch.branch-index in
    let here : slice_get nodes at ≡ Some (union c.in-Union.branches.items) = view_got node_view c.args.schema.now at c.node.result.now c.node.ensures ∙ ap (λ (x : Node). Some (node_view x)) c.in-Union.is in
    let all : All (λ p. p < n) ps = subst (λ (ls : List ℕ). All (λ p. p < n) ls) (sym c.deref-branch-items.ensures.value) (at_place nodes (RefersBelow n) at (union c.in-Union.branches.items) c.requires here) in
    let l = all k 0 c.loop-branch-test.true in let view = length-map c.args.schema.now node_view in
    omega (arith, l, view, c.loop-i.invariant.long, c.loop-branch.invariant.adds.long)

pub loop-branch-preserved : goal.loop-branch-preserved
loop-branch-preserved c =
    let inv = c.loop-branch.invariant in let more = c.in_ok-add_at.ensures.adds in let ps = c.deref-branch-items.result.now in let at = c.loop-branch.branch-index in
    let xs = c.add_at.new.lists.items in let a = c.loop-i.i in
    let within : at < length ps = c.loop-branch-test.true in
    record {
      adds = adds_then _ _ _ (λ i p h. h) (λ i p h. (h.0, subst (λ (x : ℕ). Contains ps x) (sym h.1) (Contains-get_or ps at 0 within))) c.loop-i.lists.items c.loop-branch.lists.items xs inv.adds more;
      there = λ k d l. elim (cases_lt k at) [
        | inl g ↦ more.kept a (get_or ps k d) (inv.there k d g)
        | inr g ↦ (let e : at ≡ k = omega arith in subst (λ (x : ℕ). IsListedAt xs a (get_or ps x d)) e (subst (λ (x : ℕ). IsListedAt xs a x) (get_or_any ps at 0 d within) c.in_ok-add_at.ensures.there))
      ];
    }

pub loop-i-preserved : goal.loop-i-preserved
loop-i-preserved c =
    let inv = c.loop-i.invariant in let at = c.loop-i.i in let nodes = c.args.schema.now in let branches = c.in-Union.branches.items in
    let ps = c.deref-branch-items.result.now in let value : ps ≡ branches = c.deref-branch-items.ensures.value in
    let xs = c.loop-i.lists.items in let ys = c.loop-branch.lists.items in let more = c.loop-branch.invariant.adds in
    let below : at < length nodes = omega (arith, c.loop-i-test.true, c.places-i-end.ensures.places) in
    let past : length ps ≤ c.loop-branch.branch-index = c.loop-branch-test.false in
    let here : slice_get (nodes_view nodes) at ≡ Some (union branches) = view_got node_view nodes at c.node.result.now c.node.ensures ∙ ap (λ (x : Node). Some (node_view x)) c.in-Union.is in
    let each : All (IsListedAt ys at) ps = λ k d l. c.loop-branch.invariant.there k d (omega arith) in
    let listed : IsUnionListed ys at (union branches) = subst (λ (ls : List ℕ). All (IsListedAt ys at) ls) value each in
    record {
      long = more.long ∙ inv.long;
      within = λ i p l. elim (more.only i p l) [ inl m ↦ inv.within i p m | inr h ↦ subst (λ (x : ℕ). x < length nodes) (sym h.0) below ];
      named = λ i a l e. elim (cases_lt i at) [
        | inl g ↦ union_listed_on xs ys i more.kept a (inv.named i a g e)
        | inr g ↦ (let s : at ≡ i = omega arith in
            let same : union branches ≡ a = same_Some (union branches) a (sym here ∙ ap (slice_get (nodes_view nodes)) s ∙ e) in
            subst (λ (b : NodeView). IsUnionListed ys i b) same (subst (λ (x : ℕ). IsUnionListed ys x (union branches)) s listed))
      ];
      meant = λ i p l a e. elim (more.only i p l) [
        | inl m ↦ inv.meant i p m a e
        | inr h ↦ (let same : union branches ≡ a = same_Some (union branches) a (sym here ∙ ap (slice_get (nodes_view nodes)) (sym h.0) ∙ e) in
            subst (λ (b : NodeView). HasBranch b p) same (subst (λ (ls : List ℕ). Contains ls p) value h.1))
      ];
    }

pub returns : goal.returns
returns c =
    let inv = c.loop-i.invariant in let nodes = c.args.schema.now in
    let long : length (nodes_view nodes) ≡ length nodes = length-map nodes node_view in
    let past : length nodes ≤ c.loop-i.i = omega (arith, c.loop-i-test.false, c.places-i-end.ensures.places) in
    record {
      long = inv.long ∙ sym long;
      within = λ i p h. subst (λ (n : ℕ). i < n) (sym long) (inv.within i p h);
      meant = inv.meant;
      named = λ i a e. (let l : i < length (nodes_view nodes) = slice_get_within (nodes_view nodes) i a e in inv.named i a (omega (arith, long)) e);
    }
