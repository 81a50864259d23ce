-- A list of distinct pairs is at most as long as each list that contains them.
use Rattle.std.proofs.Common.{◌≡◌, ℕ, ◌+◌, ◌≤◌, List, [], ◌∷◌, Bool, true, false, cond, ◌&&◌, ◌||◌, length, refl, sym, subst, ◌∙◌, arith, true≢false, inl, inr}
use Rattle.std.specs.Prelude.{◌==◌}
use Rattle.avro_resolve.specs.Witnesses.{Pair, member, AreDistinct}
use Rattle.avro_resolve.proofs.PairLists.{test_same, at_pair, false_unless, member-cons, member-nil, member_head, member_tail, member_cases}

-- the list without the first occurrence of a pair
cut : Pair → List Pair → List Pair
cut p [] = []
cut p (q ∷ qs) = cond (q.0 == p.0 && q.1 == p.1) qs (q ∷ cut p qs)

cut_length_at : (p q : Pair) (qs : List Pair) (b : Bool) → (q.0 == p.0 && q.1 == p.1) ≡ b → (member qs p.0 p.1 ≡ true → length (cut p qs) + 1 ≡ length qs) → member (q ∷ qs) p.0 p.1 ≡ true → length (cond b qs (q ∷ cut p qs)) + 1 ≡ length (q ∷ qs)
cut_length_at p q qs true e h m = omega arith
cut_length_at p q qs false e h m =
    let k : length (cut p qs) + 1 ≡ length qs = h (subst (λ (x : Bool). (x || member qs p.0 p.1) ≡ true) e (sym (member-cons q qs p.0 p.1) ∙ m)) in omega arith

cut_length : (p : Pair) (qs : List Pair) → member qs p.0 p.1 ≡ true → length (cut p qs) + 1 ≡ length qs
unfolding cut
cut_length p [] m = absurd (true≢false (sym m ∙ member-nil p.0 p.1))
cut_length p (q ∷ qs) m = cut_length_at p q qs (q.0 == p.0 && q.1 == p.1) refl (cut_length p qs) m

cut_member_at : (p q : Pair) (qs : List Pair) (i j : ℕ) (b : Bool) → (q.0 == p.0 && q.1 == p.1) ≡ b → ((i ≡ p.0) × (j ≡ p.1) → ⊥) → (member qs i j ≡ true → member (cut p qs) i j ≡ true) → member (q ∷ qs) i j ≡ true → member (cond b qs (q ∷ cut p qs)) i j ≡ true
cut_member_at p q qs i j true e ne h m = elim (member_cases q qs i j m) [
  | inl g ↦ (let t = test_same q.0 q.1 p.0 p.1 e in absurd (ne (g.0 ∙ sym t.0, g.1 ∙ sym t.1)))
  | inr g ↦ g
]
cut_member_at p q qs i j false e ne h m = elim (member_cases q qs i j m) [
  | inl g ↦ at_pair q (cut p qs) i j (sym g.0) (sym g.1)
  | inr g ↦ member_tail q (cut p qs) i j (h g)
]

cut_member : (p : Pair) (qs : List Pair) (i j : ℕ) → ((i ≡ p.0) × (j ≡ p.1) → ⊥) → member qs i j ≡ true → member (cut p qs) i j ≡ true
unfolding cut
cut_member p [] i j ne m = m
cut_member p (q ∷ qs) i j ne m = cut_member_at p q qs i j (q.0 == p.0 && q.1 == p.1) refl ne (cut_member p qs i j ne) m

in_cut : (p : Pair) (ps l : List Pair) → member ps p.0 p.1 ≡ false → ((i j : ℕ) → member ps i j ≡ true → member l i j ≡ true) → (i j : ℕ) → member ps i j ≡ true → member (cut p l) i j ≡ true
in_cut p ps l out h i j m = cut_member p l i j (λ g. true≢false (sym (subst (λ (x : ℕ). member ps x p.1 ≡ true) g.0 (subst (λ (y : ℕ). member ps i y ≡ true) g.1 m)) ∙ out)) (h i j m)

-- a list of distinct pairs is at most as long as each list that contains them
pub fewer : (ps l : List Pair) → AreDistinct ps → ((i j : ℕ) → member ps i j ≡ true → member l i j ≡ true) → length ps ≤ length l
unfolding AreDistinct
fewer [] l d h = omega arith
fewer (p ∷ ps) l d h =
    let k = fewer ps (cut p l) d.1 (in_cut p ps l d.0 (λ i j m. h i j (member_tail p ps i j m))) in
    let e = cut_length p l (h p.0 p.1 (member_head p ps)) in omega arith

pub fewer_both : (ps qs l : List Pair) → AreDistinct ps → AreDistinct qs → ((i j : ℕ) → member ps i j ≡ true → member qs i j ≡ true → ⊥) → ((i j : ℕ) → member ps i j ≡ true → member l i j ≡ true) → ((i j : ℕ) → member qs i j ≡ true → member l i j ≡ true) → length ps + length qs ≤ length l
unfolding AreDistinct
fewer_both [] qs l d e apart h g = let k = fewer qs l e g in omega arith
fewer_both (p ∷ ps) qs l d e apart h g =
    let k = fewer_both ps qs (cut p l) d.1 e (λ i j m. apart i j (member_tail p ps i j m)) (in_cut p ps l d.0 (λ i j m. h i j (member_tail p ps i j m))) (in_cut p qs l (false_unless (member qs p.0 p.1) (apart p.0 p.1 (member_head p ps))) g) in
    let o = cut_length p l (h p.0 p.1 (member_head p ps)) in omega arith
