-- Lists of pairs as sets.
use Rattle.std.proofs.Common.{◌≡◌, ℕ, zero, suc, List, [], ◌∷◌, ◌++◌, Bool, true, false, ◌&&◌, ◌||◌, not, take, refl, sym, ap, subst, ◌∙◌, arith, append_assoc, append-nil, true≢false, inl, inr}
use Rattle.std.proofs.lemmas.Bool.{or_cases, or_left, or_right}
use Rattle.std.specs.Prelude.{◌==◌, ◌⊎◌}
use Rattle.std.proofs.lemmas.Bool.{or_cases, or_left, or_right}
use Rattle.std.proofs.lemmas.Bool.Decides.{nat_tests}
use Rattle.avro_nodes.specs.Nodes.{NodeView}
use Rattle.avro_resolve.specs.Resolution.{Pairs, Supports, Closed}
use Rattle.avro_resolve.proofs.Monotone.{Within, supports_within}
use Rattle.avro_resolve.specs.Witnesses.{Pair, member, without, RefutesAfter, AreDistinct}

same_test : (i j : ℕ) → (i == i && j == j) ≡ true
same_test i j = grind (arith, nat_tests)

pub test_same : (i j a b : ℕ) → (i == a && j == b) ≡ true → (a ≡ i) × (b ≡ j)
test_same i j a b e =
    let p : a ≡ i = grind (arith, nat_tests) in
    let q : b ≡ j = grind (arith, nat_tests) in (p, q)

pub member-cons : (p : Pair) (ps : List Pair) (i j : ℕ) → member (p ∷ ps) i j ≡ ((p.0 == i && p.1 == j) || member ps i j)
unfolding member
member-cons p ps i j = refl

pub member-nil : (i j : ℕ) → member [] i j ≡ false
unfolding member
member-nil i j = refl

pub member_head : (p : Pair) (ps : List Pair) → member (p ∷ ps) p.0 p.1 ≡ true
member_head p ps = member-cons p ps p.0 p.1 ∙ or_left (p.0 == p.0 && p.1 == p.1) (member ps p.0 p.1) (same_test p.0 p.1)

pub member_tail : (p : Pair) (ps : List Pair) (i j : ℕ) → member ps i j ≡ true → member (p ∷ ps) i j ≡ true
member_tail p ps i j e = member-cons p ps i j ∙ or_right (p.0 == i && p.1 == j) (member ps i j) e

pub member_cases : (p : Pair) (ps : List Pair) (i j : ℕ) → member (p ∷ ps) i j ≡ true → ((i ≡ p.0) × (j ≡ p.1)) ⊎ (member ps i j ≡ true)
member_cases p ps i j e = elim (or_cases (p.0 == i && p.1 == j) (member ps i j) (sym (member-cons p ps i j) ∙ e)) [ inl h ↦ inl (test_same p.0 p.1 i j h) | inr h ↦ inr h ]

pub member_front : (ps qs : List Pair) (i j : ℕ) → member ps i j ≡ true → member (ps ++ qs) i j ≡ true
member_front [] qs i j e = absurd (true≢false (sym e ∙ member-nil i j))
member_front (p ∷ ps) qs i j e = elim (or_cases (p.0 == i && p.1 == j) (member ps i j) (sym (member-cons p ps i j) ∙ e)) [
  | inl h ↦ member-cons p (ps ++ qs) i j ∙ or_left (p.0 == i && p.1 == j) (member (ps ++ qs) i j) h
  | inr h ↦ member_tail p (ps ++ qs) i j (member_front ps qs i j h)
]

pub member_last : (ps : List Pair) (i j : ℕ) → member (ps ++ (i, j) ∷ []) i j ≡ true
member_last [] i j = member_head (i, j) []
member_last (p ∷ ps) i j = member_tail p (ps ++ (i, j) ∷ []) i j (member_last ps i j)

pub push_cases : (ps : List Pair) (i j a b : ℕ) → member (ps ++ (i, j) ∷ []) a b ≡ true → (member ps a b ≡ true) ⊎ ((a ≡ i) × (b ≡ j))
push_cases [] i j a b e = elim (member_cases (i, j) [] a b e) [ inl h ↦ inr h | inr h ↦ inl h ]
push_cases (p ∷ ps) i j a b e = elim (or_cases (p.0 == a && p.1 == b) (member (ps ++ (i, j) ∷ []) a b) (sym (member-cons p (ps ++ (i, j) ∷ []) a b) ∙ e)) [
  | inl h ↦ inl (member-cons p ps a b ∙ or_left (p.0 == a && p.1 == b) (member ps a b) h)
  | inr h ↦ elim (push_cases ps i j a b h) [ inl g ↦ inl (member_tail p ps a b g) | inr g ↦ inr g ]
]

pub member_take : (n : ℕ) (ps : List Pair) (i j : ℕ) → member (take n ps) i j ≡ true → member ps i j ≡ true
member_take zero ps i j e = absurd (true≢false (sym e ∙ member-nil i j))
member_take (suc n) [] i j e = absurd (true≢false (sym e ∙ member-nil i j))
member_take (suc n) (p ∷ ps) i j e = elim (or_cases (p.0 == i && p.1 == j) (member (take n ps) i j) (sym (member-cons p (take n ps) i j) ∙ e)) [
  | inl h ↦ member-cons p ps i j ∙ or_left (p.0 == i && p.1 == j) (member ps i j) h
  | inr h ↦ member_tail p ps i j (member_take n ps i j h)
]

pub false_unless : (b : Bool) → (b ≡ true → ⊥) → b ≡ false
false_unless true h = absurd (h refl)
false_unless false h = refl

tail_false : (p : Pair) (ps : List Pair) (i j : ℕ) → member (p ∷ ps) i j ≡ false → member ps i j ≡ false
tail_false p ps i j e = false_unless (member ps i j) (λ h. true≢false (sym (member_tail p ps i j h) ∙ e))

pub at_pair : (p : Pair) (ps : List Pair) (i j : ℕ) → p.0 ≡ i → p.1 ≡ j → member (p ∷ ps) i j ≡ true
at_pair p ps i j e f = subst (λ (x : ℕ). member (p ∷ ps) x j ≡ true) e (subst (λ (y : ℕ). member (p ∷ ps) p.0 y ≡ true) f (member_head p ps))

apart_push : (p : Pair) (ps : List Pair) (i j : ℕ) → member ps p.0 p.1 ≡ false → member (p ∷ ps) i j ≡ false → member (ps ++ (i, j) ∷ []) p.0 p.1 ≡ false
apart_push p ps i j d e = false_unless (member (ps ++ (i, j) ∷ []) p.0 p.1) (λ h. elim (push_cases ps i j p.0 p.1 h) [
  | inl g ↦ true≢false (sym g ∙ d)
  | inr g ↦ true≢false (sym (at_pair p ps i j g.0 g.1) ∙ e)
])

pub differ_push : (ps : List Pair) (i j : ℕ) → AreDistinct ps → member ps i j ≡ false → AreDistinct (ps ++ (i, j) ∷ [])
unfolding AreDistinct
differ_push [] i j d e = (member-nil i j, tt)
differ_push (p ∷ ps) i j d e = (apart_push p ps i j d.0 e, differ_push ps i j d.1 (tail_false p ps i j e))

pub refutes_push : (w r : List NodeView) (before ps : List Pair) (i j : ℕ) → RefutesAfter w r before ps → (Supports w r (without (before ++ ps)) i j → ⊥) → RefutesAfter w r before (ps ++ (i, j) ∷ [])
unfolding RefutesAfter
refutes_push w r before [] i j h never = ((λ s. never (subst (λ (x : List Pair). Supports w r (without x) i j) (sym (append-nil before)) s)), tt)
refutes_push w r before (p ∷ ps) i j h never = (h.0, refutes_push w r (before ++ p ∷ []) ps i j h.1 (subst (λ (x : List Pair). Supports w r (without x) i j → ⊥) (sym (append_assoc before (p ∷ []) ps)) never))

-- no closed set has a pair of a refuting list
never_in : (w r : List NodeView) (R : Pairs) → Closed w r R → (before ps : List Pair) → Within R (without before) → RefutesAfter w r before ps → Within R (without (before ++ ps))
unfolding RefutesAfter
never_in w r R closed before [] within h = subst (λ (x : List Pair). Within R (without x)) (sym (append-nil before)) within
never_in w r R closed before (p ∷ ps) within h =
    subst (λ (x : List Pair). Within R (without x)) (append_assoc before (p ∷ []) ps)
    (never_in w r R closed (before ++ p ∷ []) ps (λ i j m. not_last before p i j (within i j m) (λ e f. h.0 (supports_within R (without before) within w r p.0 p.1 (closed p.0 p.1 (moved R i j p.0 p.1 e f m))))) h.1)
  where
    moved : (R : Pairs) (i j a b : ℕ) → i ≡ a → j ≡ b → R i j ≡ true → R a b ≡ true
    moved R i j a b e f h = subst (λ (x : ℕ). R x b ≡ true) e (subst (λ (y : ℕ). R i y ≡ true) f h)

    not_of : (b : Bool) → (b ≡ true → ⊥) → not b ≡ true
    not_of true h = absurd (h refl)
    not_of false h = refl

    of_not : (b : Bool) → not b ≡ true → b ≡ true → ⊥
    of_not true h e = true≢false (sym h)
    of_not false h e = true≢false (sym e)

    not_last : (before : List Pair) (p : Pair) (i j : ℕ) → without before i j ≡ true → (i ≡ p.0 → j ≡ p.1 → ⊥) → without (before ++ p ∷ []) i j ≡ true
    not_last before p i j h never = not_of (member (before ++ p ∷ []) i j) (λ m. elim (push_cases before p.0 p.1 i j m) [ inl g ↦ of_not (member before i j) h g | inr g ↦ never g.0 g.1 ])

pub refuted : (w r : List NodeView) (R : Pairs) (ps : List Pair) → Closed w r R → RefutesAfter w r [] ps → (i j : ℕ) → R i j ≡ true → member ps i j ≡ true → ⊥
refuted w r R ps closed h i j m n = clash (member ps i j) (never_in w r R closed [] ps (λ a b g. all_in a b) h i j m) n
  where
    all_in : (a b : ℕ) → without [] a b ≡ true
    all_in a b = ap not (member-nil a b)

    clash : (b : Bool) → not b ≡ true → b ≡ true → ⊥
    clash true h e = true≢false (sym h)
    clash false h e = true≢false (sym e)
