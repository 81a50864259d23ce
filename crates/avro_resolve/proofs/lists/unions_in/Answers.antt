use Rattle.std.proofs.Common.{◌≡◌, ℕ, ◌+◌, ◌<◌, ◌≤◌, List, [], ◌∷◌, ◌++◌, Some, ap, length, refl, subst, sym, ◌∙◌, inl, inr, arith}
use Rattle.std.specs.Prelude.{◌⊎◌, All, Contains, slice_get, Vec}
use Rattle.std.specs.declared.alloc.Global.{Global}
use Rattle.std.proofs.lemmas.Bool.{cases_lt}
use Rattle.std.proofs.lemmas.List.{length-map}
use Rattle.std.proofs.lemmas.List.Elements.{All-append, All-cons, All-nil, Contains-append_left, Contains-append_right}
use Rattle.std.proofs.lemmas.Option.{same_Some, slice_get_within}
use Rattle.avro_nodes.specs.Nodes.{node_view, nodes_view, union}
use Rattle.avro_nodes.specs.declared.node.Node.{Node}
use Rattle.avro_resolve.proofs.ViewLemmas.{no_union, view_got}
use Rattle.avro_resolve.proofs.lists.unions_in.Goals.{in-Union+in_ok-push, in_default}
use Rattle.avro_resolve.proofs.lists.unions_in.Goals as goal

-- one more place, which is listed if it is a union
noted : (nodes : List Node) (n : ℕ) (xs ys : List ℕ) (a : Node) → slice_get nodes n ≡ Some a → All (λ i. i < n) xs → ((i : ℕ) (bs : List ℕ) → i < n → slice_get (nodes_view nodes) i ≡ Some (union bs) → Contains xs i)
    → (ys ≡ xs ++ n ∷ []) ⊎ ((ys ≡ xs) × ((bs : List ℕ) → node_view a ≡ union bs → ⊥)) → All (λ i. i < n + 1) ys × ((i : ℕ) (bs : List ℕ) → i < n + 1 → slice_get (nodes_view nodes) i ≡ Some (union bs) → Contains ys i)
noted nodes n xs ys a ea within all (inl e) =
    let more : All (λ i. i < n + 1) xs = λ k d l. (let m = within k d l in omega (arith, m)) in
    let in_all : All (λ i. i < n + 1) (xs ++ n ∷ []) = All-append (λ i. i < n + 1) xs (n ∷ []) more (All-cons (λ i. i < n + 1) n [] (omega arith) (All-nil (λ i. i < n + 1))) in (
      subst (All (λ i. i < n + 1)) (sym e) in_all,
      λ i bs l eu. subst (λ (zs : List ℕ). Contains zs i) (sym e) (elim (cases_lt i n) [
        | inl g ↦ Contains-append_left xs (n ∷ []) i (all i bs g eu)
        | inr g ↦ (let same : n ≡ i = omega arith in Contains-append_right xs (n ∷ []) i (subst (λ (x : ℕ). Contains (n ∷ []) x) same (0, omega arith, refl)))
      ]),
    )
noted nodes n xs ys a ea within all (inr e) = (
  subst (All (λ i. i < n + 1)) (sym e.0) (λ k d l. (let m = within k d l in omega (arith, m))),
  λ i bs l eu. subst (λ (zs : List ℕ). Contains zs i) (sym e.0) (elim (cases_lt i n) [
    | inl g ↦ all i bs g eu
    | inr g ↦ (let same : i ≡ n = omega arith in absurd (e.1 bs (same_Some (node_view a) (union bs) (sym (view_got node_view nodes n a ea) ∙ ap (slice_get (nodes_view nodes)) (sym same) ∙ eu))))
  ]),
)

pub loop-i-preserved : goal.loop-i-preserved
loop-i-preserved c =
    let inv = c.loop-i.invariant in let a = c.node.result.now in let nodes = c.args.schema.now in let n = c.loop-i.i in let xs = c.loop-i.unions.items in let ys = c.match-node.unions.items in
    let step : (ys ≡ xs ++ n ∷ []) ⊎ ((ys ≡ xs) × ((bs : List ℕ) → node_view a ≡ union bs → ⊥)) = elim c.match-node.branch [
      | in-Union+in_ok-push w ↦ inl (ap (λ (v : Vec ℕ Global). v.items) w.unions-is ∙ w.in_ok-push.ensures.items)
      | in_default w ↦ inr (ap (λ (v : Vec ℕ Global). v.items) w.unions-is, λ bs. no_union a bs w.in_default.not-Union)
    ] in
    let both = noted nodes n xs ys a c.node.ensures inv.within inv.all step in
    record { within = both.0; all = both.1 }

pub returns : goal.returns
returns c =
    let nodes = c.args.schema.now in let long = length-map nodes node_view in
    let past : length nodes ≤ c.loop-i.i = omega (arith, c.loop-i-test.false, c.places-i-end.ensures.places) in
    record {
      within = λ k d l. (let m = c.loop-i.invariant.within k d l in omega (arith, m, long, c.places-i-end.ensures.places));
      all = λ i bs e. (let l : i < length (nodes_view nodes) = slice_get_within (nodes_view nodes) i (union bs) e in c.loop-i.invariant.all i bs (omega (arith, long)) e);
    }
