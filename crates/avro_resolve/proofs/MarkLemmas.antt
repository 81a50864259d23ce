-- Bit sets with the pairs of a list.
use Rattle.std.proofs.Common.{◌≡◌, ℕ, ◌<◌, List, [], ◌∷◌, ◌++◌, Bool, true, false, ◌&&◌, ◌||◌, refl, sym, ap, subst, ◌∙◌, arith, true≢false, inl, inr}
use Rattle.std.specs.Prelude.{◌==◌, if◌then◌else◌, ◌⊎◌}
use Rattle.std.proofs.lemmas.Bool.Decides.{nat_tests}
use Rattle.std.proofs.lemmas.List.Folds.{list_any-append}
use Rattle.avro_resolve.specs.declared.pair_set.PairSet.{PairSet}
use Rattle.avro_resolve.specs.Witnesses.{Pair, member, AreDistinct}
use Rattle.avro_resolve.specs.Inside.PairSets.{has}
use Rattle.avro_resolve.specs.Inside.Walking.{Represents}
use Rattle.avro_resolve.proofs.PairLists.{member-nil, member_front, member_last, push_cases, member_cases}
use Rattle.avro_resolve.proofs.Eliminates.{push_one}
use Rattle.avro_resolve.proofs.KeptSupport.{same_pair}

pub marks_none : (m : ℕ) (s : PairSet) → s.readers ≡ m → ((i j : ℕ) → has s i j ≡ false) → Represents m s []
marks_none m s e empty = record {
  readers = e;
  within = λ i j h. absurd (true≢false (sym h ∙ member-nil i j));
  exact = λ i j l. empty i j ∙ sym (member-nil i j);
}

put_in : (x z : Bool) → (if x then true else z) ≡ (z || (x || false))
put_in true true = refl
put_in true false = refl
put_in false true = refl
put_in false false = refl

member-push : (ps : List Pair) (i j a b : ℕ) → (if a == i && b == j then true else member ps a b) ≡ member (ps ++ (i, j) ∷ []) a b
unfolding member
member-push ps i j a b =
    put_in (a == i && b == j) (member ps a b)
    ∙ sym (list_any-append (λ (p : Pair). p.0 == a && p.1 == b) ps ((i, j) ∷ []) ∙ ap (λ x. member ps a b || x) (push_one i j a b))

pub marks_push : (m : ℕ) (s t : PairSet) (ps : List Pair) (i j : ℕ) → Represents m s ps → j < m → t.readers ≡ s.readers → ((a b : ℕ) → b < s.readers → has t a b ≡ (if a == i && b == j then true else has s a b)) → Represents m t (ps ++ (i, j) ∷ [])
marks_push m s t ps i j h l same others = record {
  readers = same ∙ h.readers;
  within = λ a b g. elim (push_cases ps i j a b g) [
    | inl k ↦ h.within a b k
    | inr e ↦ subst (λ (x : ℕ). x < m) (sym e.1) l
  ];
  exact = λ a b k. others a b (subst (λ (n : ℕ). b < n) (sym h.readers) k) ∙ ap (λ x. if a == i && b == j then true else x) (h.exact a b k) ∙ member-push ps i j a b;
}

apart_step : (q : Pair) (ps : List Pair) (p : Pair) (b : Bool) → member (q ∷ ps) p.0 p.1 ≡ b → member (ps ++ p ∷ []) q.0 q.1 ≡ false → member ps p.0 p.1 ≡ false → b ≡ false
apart_step q ps p false e d h = refl
apart_step q ps p true e d h = elim (member_cases q ps p.0 p.1 e) [
  | inl s ↦ absurd (true≢false (sym (subst (λ (x : ℕ). member (ps ++ p ∷ []) x q.1 ≡ true) s.0 (subst (λ (y : ℕ). member (ps ++ p ∷ []) p.0 y ≡ true) s.1 (member_last ps p.0 p.1))) ∙ d))
  | inr g ↦ absurd (true≢false (sym g ∙ h))
]

-- the last of distinct pairs isn't among the others
pub last_apart : (ps : List Pair) (p : Pair) → AreDistinct (ps ++ p ∷ []) → member ps p.0 p.1 ≡ false
unfolding AreDistinct
last_apart [] p d = member-nil p.0 p.1
last_apart (q ∷ ps) p d = apart_step q ps p (member (q ∷ ps) p.0 p.1) refl d.0 (last_apart ps p d.1)

pub differ_front : (ps : List Pair) (p : Pair) → AreDistinct (ps ++ p ∷ []) → AreDistinct ps
unfolding AreDistinct
differ_front [] p d = tt
differ_front (q ∷ ps) p d = (outside (member ps q.0 q.1) (λ h. true≢false (sym (member_front ps (p ∷ []) q.0 q.1 h) ∙ d.0)), differ_front ps p d.1)
  where
    outside : (b : Bool) → (b ≡ true → ⊥) → b ≡ false
    outside true h = absurd (h refl)
    outside false h = refl

taken_here : (i j : ℕ) (z : Bool) → (if i == i && j == j then false else z) ≡ false
taken_here i j z = grind (arith, nat_tests)

taken_else : (x y z : Bool) → x ≡ false → (if x then true else y) ≡ z → (if x then false else z) ≡ y
taken_else true y z e h = absurd (true≢false e)
taken_else false y z e h = sym h

take_at : (ps : List Pair) (i j a b : ℕ) → AreDistinct (ps ++ (i, j) ∷ []) → ((a ≡ i) × (b ≡ j)) ⊎ ((a == i && b == j) ≡ false) → (if a == i && b == j then false else member (ps ++ (i, j) ∷ []) a b) ≡ member ps a b
take_at ps i j a b d (inr e) = taken_else (a == i && b == j) (member ps a b) (member (ps ++ (i, j) ∷ []) a b) e (member-push ps i j a b)
take_at ps i j a b d (inl e) =
    subst (λ (x : ℕ). (if x == i && b == j then false else member (ps ++ (i, j) ∷ []) x b) ≡ member ps x b) (sym e.0)
    (subst (λ (y : ℕ). (if i == i && y == j then false else member (ps ++ (i, j) ∷ []) i y) ≡ member ps i y) (sym e.1)
    (taken_here i j (member (ps ++ (i, j) ∷ []) i j) ∙ sym (last_apart ps (i, j) d)))

pub marks_pop : (m : ℕ) (s t : PairSet) (ps : List Pair) (i j : ℕ) → Represents m s (ps ++ (i, j) ∷ []) → AreDistinct (ps ++ (i, j) ∷ []) → t.readers ≡ s.readers → ((a b : ℕ) → b < s.readers → has t a b ≡ (if a == i && b == j then false else has s a b)) → Represents m t ps
marks_pop m s t ps i j h d same others = record {
  readers = same ∙ h.readers;
  within = λ a b g. h.within a b (member_front ps ((i, j) ∷ []) a b g);
  exact = λ a b k. others a b (subst (λ (n : ℕ). b < n) (sym h.readers) k) ∙ ap (λ x. if a == i && b == j then false else x) (h.exact a b k) ∙ take_at ps i j a b d (same_pair a b i j (a == i && b == j) refl);
}
