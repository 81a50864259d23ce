-- Eliminating one pair, and one after another.
use Rattle.std.proofs.Common.{◌≡◌, ℕ, ◌+◌, ◌*◌, ◌<◌, List, [], ◌∷◌, ◌++◌, Bool, true, false, ◌&&◌, ◌||◌, not, length, refl, sym, ap, ◌∙◌, arith, true≢false, length-append}
use Rattle.std.specs.Prelude.{◌==◌, if◌then◌else◌}
use Rattle.std.specs.List.{list_any}
use Rattle.std.proofs.lemmas.Bool.Decides.{nat_tests}
use Rattle.std.proofs.lemmas.List.Folds.{list_any-append}
use Rattle.avro_nodes.specs.Nodes.{NodeView}
use Rattle.avro_resolve.specs.declared.table.Table.{Table}
use Rattle.avro_resolve.specs.Resolution.{Supports}
use Rattle.avro_resolve.specs.Inside.Places.{IsSelfContained}
use Rattle.avro_resolve.specs.Witnesses.{Pair, member, without, RefutesAfter, AreDistinct}
use Rattle.avro_resolve.specs.Inside.Remaining.{remains, count_remaining, SameShape, IsRemainder}
use Rattle.avro_resolve.proofs.Monotone.{supports_below}
use Rattle.avro_resolve.proofs.PairLists.{differ_push, refutes_push, member-nil}

push_bools : (y z x : Bool) → (if y && z then false else not x) ≡ not (x || ((y && z) || false))
push_bools true true true = refl
push_bools true true false = refl
push_bools true false true = refl
push_bools true false false = refl
push_bools false z true = refl
push_bools false z false = refl

turned : (a i : ℕ) → (i == a) ≡ (a == i)
turned a i = grind (arith, nat_tests)

pub push_one : (i j a b : ℕ) → list_any (λ (p : Pair). p.0 == a && p.1 == b) ((i, j) ∷ []) ≡ ((a == i && b == j) || false)
push_one i j a b = rw (turned a i, turned b j) refl

pub without-push : (ps : List Pair) (i j a b : ℕ) → (if a == i && b == j then false else without ps a b) ≡ without (ps ++ (i, j) ∷ []) a b
unfolding member
without-push ps i j a b =
    push_bools (a == i) (b == j) (member ps a b)
    ∙ sym (ap not (list_any-append (λ (p : Pair). p.0 == a && p.1 == b) ps ((i, j) ∷ []) ∙ ap (λ x. member ps a b || x) (push_one i j a b)))

not_in : (x y : Bool) → x ≡ not y → x ≡ true → y ≡ false
not_in x true e f = absurd (true≢false (sym f ∙ e))
not_in x false e f = refl

-- an unsupported pair is eliminated
pub eliminated_pair : (w r : List NodeView) (t v : Table) (i j : ℕ) → IsSelfContained w → IsSelfContained r → IsRemainder w r t → i < length w → j < length r → remains t i j ≡ true → (Supports w r (remains t) i j → ⊥)
    → SameShape t v → ((a b : ℕ) → remains v a b ≡ (if a == i && b == j then false else remains t a b)) → count_remaining v + 1 ≡ count_remaining t → IsRemainder w r v
eliminated_pair w r t v i j ww wr h li lj here never shape others fewer = record {
  writers = shape.writers ∙ h.writers;
  readers = shape.readers ∙ h.readers;
  eliminated = h.eliminated ++ (i, j) ∷ [];
  refutes = refutes_push w r [] h.eliminated i j h.refutes (λ s. never (supports_below w r (without h.eliminated) (remains t) ww wr (λ a b la lb m. h.exact a b la lb ∙ m) i j s));
  distinct = differ_push h.eliminated i j h.distinct (not_in (remains t i j) (member h.eliminated i j) (h.exact i j li lj) here);
  exact = λ a b la lb. others a b ∙ ap (λ x. if a == i && b == j then false else x) (h.exact a b la lb) ∙ without-push h.eliminated i j a b;
  count = (let c = h.count in let l : length (h.eliminated ++ (i, j) ∷ []) ≡ length h.eliminated + 1 = length-append h.eliminated ((i, j) ∷ []) in omega arith);
}

pub all_left : (w r : List NodeView) (t : Table) → t.writers ≡ length w → t.readers ≡ length r → ((i j : ℕ) → i < length w → j < length r → remains t i j ≡ true) → count_remaining t ≡ length w * length r → IsRemainder w r t
unfolding AreDistinct RefutesAfter
all_left w r t e f whole count = record { writers = e; readers = f; eliminated = []; refutes = tt; distinct = tt; exact = λ i j li lj. whole i j li lj ∙ sym (ap not (member-nil i j)); count = omega arith }
