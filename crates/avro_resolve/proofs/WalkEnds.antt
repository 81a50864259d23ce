-- What the recursion's result proves.
use Rattle.std.proofs.Common.{◌≡◌, ℕ, ◌*◌, ◌≤◌, List, [], ◌∷◌, true, length, sym, subst, ◌∙◌, true≢false, inl, inr, arith}
use Rattle.std.specs.Prelude.{IsTrue}
use Rattle.avro_nodes.specs.Nodes.{NodeView}
use Rattle.avro_resolve.specs.Resolution.{Closed, Resolves}
use Rattle.avro_resolve.specs.Witnesses.{Pair, member, RefutesAfter, AreDistinct, HasClosedSet, HasRefutation}
use Rattle.avro_resolve.specs.Asking.{ContainsAsked, at_roots, asked_by, AreAllReached}
use Rattle.avro_resolve.specs.declared.recursion.Walk.{Walk}
use Rattle.avro_resolve.specs.declared.recursion.Answer.{Answer}
use Rattle.avro_resolve.specs.declared.recursion.Answer.TheVariants.{Yes, No, Unfinished}
use Rattle.avro_resolve.specs.Inside.Walking.{WalkInvariant, Extends, ExtendsWalk, AnswerHolds, RootAnswerProves}
use Rattle.avro_resolve.proofs.WalkSteps.{bounded}
use Rattle.avro_resolve.proofs.PairLists.{member-nil, refuted}
use Rattle.avro_resolve.proofs.Ends.{up_to}

pub good_start : (w r : List NodeView) → WalkInvariant w r [] [] 0
unfolding AreDistinct RefutesAfter
good_start w r = record {
  assumed_reachable = λ i j h. absurd (true≢false (sym h ∙ member-nil i j));
  failed_reachable = λ i j h. absurd (true≢false (sym h ∙ member-nil i j));
  assumed_distinct = tt;
  failed_distinct = tt;
  disjoint = λ i j h g. true≢false (sym h ∙ member-nil i j);
  refutes = tt;
  at_least = omega arith;
  at_most = λ ps h. omega arith;
}

closed_walk : (w r : List NodeView) (a f : List Pair) → Extends w r [] [] a f → Closed w r (member a)
closed_walk w r a f g i j m = elim (g.supported i j m) [ inl n ↦ absurd (true≢false (sym n ∙ member-nil i j)) | inr s ↦ s ]

pub yes_shown : (w r : List NodeView) (a f : List Pair) (v : ℕ) → Extends w r [] [] a f → IsTrue (member a 0 0) → length a ≤ v → Resolves w r × HasClosedSet w r v
unfolding Resolves
yes_shown w r a f v g m l = ((member a, m, closed_walk w r a f g), (a, m, closed_walk w r a f g, l))

pub no_shown : (w r : List NodeView) (f : List Pair) (v : ℕ) → RefutesAfter w r [] f → AreDistinct f → IsTrue (member f 0 0) → length f ≤ v → (Resolves w r → ⊥) × HasRefutation w r v
unfolding Resolves
no_shown w r f v h d m l =
    let u = up_to w r [] f 0 0 h d m in let k = u.3 in (
      (λ (R, roots, closed). refuted w r R f closed h 0 0 roots m),
      (u.0, u.1, u.2, omega arith),
    )

pub one_at_least : (ps : List Pair) (i j : ℕ) → member ps i j ≡ true → 1 ≤ length ps
one_at_least [] i j m = absurd (true≢false (sym m ∙ member-nil i j))
one_at_least (p ∷ ps) i j m = omega arith

pub reached_hold : (w r : List NodeView) (ps : List Pair) → AreAllReached w r ps → ContainsAsked w r ps
reached_hold w r ps h = record { roots = (h.exact 0 0).1 at_roots; on = λ i j p q m a. (h.exact p q).1 (asked_by ((h.exact i j).0 m) a) }

-- ---- the answer for the roots

from_none : (w r : List NodeView) (s t : Walk) → s.assumed.items ≡ [] → s.failed.items ≡ [] → ExtendsWalk w r s t → Extends w r [] [] t.assumed.items t.failed.items
from_none w r s t e f g = subst (λ (x : List Pair). Extends w r x [] t.assumed.items t.failed.items) e (subst (λ (x : List Pair). Extends w r s.assumed.items x t.assumed.items t.failed.items) f g)

module _ (w r : List NodeView) (s t : Walk) (e : s.assumed.items ≡ []) (f : s.failed.items ≡ []) where
  abbrev AnswerResult : Answer → Type 0
  AnswerResult answer = AnswerHolds w r 0 s.assumed.items s.failed.items t (IsTrue (member t.assumed.items 0 0)) ((t.assumed.items ≡ s.assumed.items) × IsTrue (member t.failed.items 0 0)) answer

  shown : (answer : Answer) → AnswerResult answer → RootAnswerProves w r t.visits answer
  shown Yes h = let l = h.0.good.at_least in yes_shown w r t.assumed.items t.failed.items t.visits (from_none w r s t e f h.1) h.2 (omega arith)
  shown No h = let l = h.0.good.at_least in no_shown w r t.failed.items t.visits h.0.good.refutes h.0.good.failed_distinct h.2.1 (omega arith)
  shown Unfinished h = h.1

  at_most : (answer : Answer) → AnswerResult answer → (ps : List Pair) → ContainsAsked w r ps → t.visits ≤ length ps * length ps
  at_most Yes h ps holds = bounded w r t.assumed.items t.failed.items t.visits h.0.good ps holds
  at_most No h ps holds = bounded w r t.assumed.items t.failed.items t.visits h.0.good ps holds
  at_most Unfinished h ps holds = bounded w r t.assumed.items t.failed.items t.visits h.0 ps holds

  at_least : (answer : Answer) → AnswerResult answer → 1 ≤ t.visits
  at_least Yes h = let l = h.0.good.at_least in let k = one_at_least t.assumed.items 0 0 h.2 in omega arith
  at_least No h = let l = h.0.good.at_least in let k = one_at_least t.failed.items 0 0 h.2.1 in omega arith
  at_least Unfinished h = let l = h.1 in omega arith

  pub ended : (answer : Answer) → AnswerResult answer → RootAnswerProves w r t.visits answer × (1 ≤ t.visits) × ((ps : List Pair) → ContainsAsked w r ps → t.visits ≤ length ps * length ps)
  ended answer h = (shown answer h, at_least answer h, at_most answer h)
