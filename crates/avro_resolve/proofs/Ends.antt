-- At the end, the remaining pairs are the witness of a yes, and the eliminated pairs of a no.
use Rattle.std.proofs.Common.{◌≡◌, ℕ, ◌≤◌, List, [], ◌∷◌, ◌++◌, Bool, true, false, not, length, refl, sym, subst, ◌∙◌, arith, true≢false, inl, inr}
use Rattle.std.specs.Prelude.{IsTrue, ◌↔◌}
use Rattle.avro_nodes.specs.Nodes.{NodeView}
use Rattle.avro_resolve.specs.declared.table.Table.{Table}
use Rattle.avro_resolve.specs.Resolution.{Pairs, Supports, Closed, Resolves}
use Rattle.avro_resolve.specs.Witnesses.{Pair, member, without, RefutesAfter, AreDistinct}
use Rattle.avro_resolve.specs.Inside.Remaining.{remains, IsRemainder}
use Rattle.avro_schema.specs.Texts.{IsSchema}
use Rattle.avro_resolve.proofs.Monotone.{supported_in}
use Rattle.avro_resolve.proofs.PairLists.{member-nil, member_head, member_tail, member_cases, refuted}

-- ---- a yes

pub resolves_end : (w r : List NodeView) (R : Pairs) → Closed w r R → R 0 0 ≡ true → Resolves w r
unfolding Resolves
resolves_end w r R closed roots = (R, roots, closed)

-- ---- a no

not_struck : (x y : Bool) → x ≡ not y → (y ≡ true → ⊥) → x ≡ true
not_struck x true e h = absurd (h refl)
not_struck x false e h = e

-- the pair of the roots of a schema that resolves remains
pub kept_end : (w r : List NodeView) (t : Table) → IsRemainder w r t → Resolves w r → remains t 0 0 ≡ true
unfolding Resolves
kept_end w r t h (R, roots, closed) =
    let here = supported_in w r R 0 0 (closed 0 0 roots) in
    not_struck (remains t 0 0) (member h.eliminated 0 0) (h.exact 0 0 here.0 here.1) (refuted w r R h.eliminated closed h.refutes 0 0 roots)

-- the list up to a pair
pub up_to : (w r : List NodeView) (before f : List Pair) (i j : ℕ) → RefutesAfter w r before f → AreDistinct f → IsTrue (member f i j)
    → (ps : List Pair) × RefutesAfter w r before (ps ++ (i, j) ∷ []) × AreDistinct (ps ++ (i, j) ∷ []) × (length (ps ++ (i, j) ∷ []) ≤ length f) × ((a b : ℕ) → member (ps ++ (i, j) ∷ []) a b ≡ true → member f a b ≡ true)
unfolding RefutesAfter AreDistinct
up_to w r before [] i j h d m = absurd (true≢false (sym m ∙ member-nil i j))
up_to w r before (p ∷ f) i j h d m = elim (member_cases p f i j m) [
  | inl e ↦ (
    [],
    (subst (λ (x : ℕ). Supports w r (without before) x j → ⊥) (sym e.0) (subst (λ (y : ℕ). Supports w r (without before) p.0 y → ⊥) (sym e.1) h.0), tt),
    (member-nil i j, tt),
    omega arith,
    λ a b g. elim (member_cases (i, j) [] a b g) [
      | inl s ↦ at_head p f a b (s.0 ∙ e.0) (s.1 ∙ e.1)
      | inr s ↦ absurd (true≢false (sym s ∙ member-nil a b))
    ],
  )
  | inr g ↦ (let (ps, hs, ds, ls, ms) = up_to w r (before ++ p ∷ []) f i j h.1 d.1 g in (
    p ∷ ps,
    (h.0, hs),
    (false_if (member (ps ++ (i, j) ∷ []) p.0 p.1) (member f p.0 p.1) (ms p.0 p.1) d.0, ds),
    (let k = ls in omega arith),
    λ a b n. elim (member_cases p (ps ++ (i, j) ∷ []) a b n) [ inl s ↦ at_head p f a b s.0 s.1 | inr s ↦ member_tail p f a b (ms a b s) ],
  ))
]
  where
    at_head : (p : Pair) (f : List Pair) (a b : ℕ) → a ≡ p.0 → b ≡ p.1 → member (p ∷ f) a b ≡ true
    at_head p f a b e g = subst (λ (x : ℕ). member (p ∷ f) x b ≡ true) (sym e) (subst (λ (y : ℕ). member (p ∷ f) p.0 y ≡ true) (sym g) (member_head p f))

    false_if : (x y : Bool) → (x ≡ true → y ≡ true) → y ≡ false → x ≡ false
    false_if true y h e = absurd (true≢false (sym (h refl) ∙ e))
    false_if false y h e = refl

-- ---- both

pub ends : (w r : List NodeView) (t : Table) → IsSchema w → IsSchema r → IsRemainder w r t → Closed w r (remains t) → IsTrue (remains t 0 0) ↔ Resolves w r
ends w r t sw sr h closed = ((λ m. resolves_end w r (remains t) closed m), (λ s. kept_end w r t h s))
