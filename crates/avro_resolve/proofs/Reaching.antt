-- The list of all pairs of places contains all dependencies of its pairs.
use Rattle.std.proofs.Common.{◌≡◌, ℕ, ◌*◌, ◌^◌, ◌<◌, ◌≤◌, List, ◌∷◌, Option, Some, None, length, refl, sym, ap, subst, ◌∙◌, arith, mul-le-mul_left, mul-le-mul_right}
use Rattle.std.specs.Prelude.{All, Any, Contains, MatchOption, slice_get, option_map}
use Rattle.std.proofs.lemmas.Option.{slice_get_within}
use Rattle.avro_nodes.specs.Nodes.{FieldView, NodeView, primitive, array, mapping, union, enumeration, fixed, rec}
use Rattle.avro_resolve.specs.Resolution.{source}
use Rattle.avro_resolve.specs.Inside.Places.{RefersBelow, IsSelfContained}
use Rattle.avro_resolve.specs.Verdicts.{pairs_below}
use Rattle.avro_resolve.specs.Asking.{source_place, AsksFor, Asks, ContainsAsked}
use Rattle.avro_resolve.specs.Inside.Reachable.{IsSmall}
use Rattle.avro_resolve.proofs.Monotone.{named_in, at_place}
use Rattle.avro_resolve.proofs.PairLemmas.{in_pairs, length-pairs_below}

find_source : (n p : ℕ) (fields : List FieldView) (f : FieldView) (o : Option FieldView) → source fields f ≡ o → option_map (λ g. g.place) o ≡ Some p → All (λ g. g.place < n) fields → p < n
find_source n p fields f None e s h = absurd cc
find_source n p fields f (Some g) e s h = let same : g.place ≡ p = cc in subst (λ (x : ℕ). x < n) same (named_in (λ g. g.place < n) g (f.name ∷ f.aliases) fields h e)

-- the place of a source is that of a field's type
pub source_within : (n p : ℕ) (fields : List FieldView) (f : FieldView) → source_place fields f ≡ Some p → All (λ g. g.place < n) fields → p < n
source_within n p fields f e h = find_source n p fields f (source fields f) refl e h

any_in : (n p : ℕ) (xs : List ℕ) → All (λ x. x < n) xs → Contains xs p → p < n
any_in n p xs h (k, l, e) = subst (λ (y : ℕ). y < n) e (h k p l)

field_in : (n m p q : ℕ) (fs gs : List FieldView) → All (λ g. g.place < n) fs → All (λ g. g.place < m) gs → Any (λ f. (source_place fs f ≡ Some p) × (f.place ≡ q)) gs → (p < n) × (q < m)
field_in n m p q fs gs h g (k, x, l, e, same) = (source_within n p fs x same.0 h, subst (λ (y : ℕ). y < m) (ap (λ (y : FieldView). y.place) e ∙ same.1) (g k x l))

either_in : (n m i p q : ℕ) (branches : List ℕ) → i < n → All (λ x. x < m) branches → (p ≡ i) × Contains branches q → (p < n) × (q < m)
either_in n m i p q branches li nb h = (subst (λ (y : ℕ). y < n) (sym h.0) li, any_in m q branches nb h.1)

pub asks_in : (n m i j p q : ℕ) (a b : NodeView) → RefersBelow n a → RefersBelow m b → i < n → j < m → AsksFor i j a b p q → (p < n) × (q < m)
asks_in n m i j p q (union bs) b na nb li lj h = (any_in n p bs na h.0, subst (λ (y : ℕ). y < m) (sym h.1) lj)
asks_in n m i j p q (primitive k x) (union bs) na nb li lj h = either_in n m i p q bs li nb h
asks_in n m i j p q (array k x) (union bs) na nb li lj h = either_in n m i p q bs li nb h
asks_in n m i j p q (mapping k x) (union bs) na nb li lj h = either_in n m i p q bs li nb h
asks_in n m i j p q (enumeration k s f x) (union bs) na nb li lj h = either_in n m i p q bs li nb h
asks_in n m i j p q (fixed k s x) (union bs) na nb li lj h = either_in n m i p q bs li nb h
asks_in n m i j p q (rec k fs x) (union bs) na nb li lj h = either_in n m i p q bs li nb h
asks_in n m i j p q (array x e) (array y f) na nb li lj h = (subst (λ (z : ℕ). z < n) (sym h.0) na, subst (λ (z : ℕ). z < m) (sym h.1) nb)
asks_in n m i j p q (mapping x e) (mapping y f) na nb li lj h = (subst (λ (z : ℕ). z < n) (sym h.0) na, subst (λ (z : ℕ). z < m) (sym h.1) nb)
asks_in n m i j p q (rec k fs e) (rec l gs f) na nb li lj h = field_in n m p q fs gs na nb h
asks_in n m i j p q _ _ na nb li lj h = absurd h

both_in : (w r : List NodeView) (i j p q : ℕ) (x y : Option NodeView) → IsSelfContained w → IsSelfContained r → slice_get w i ≡ x → slice_get r j ≡ y → MatchOption x ⊥ (λ a. MatchOption y ⊥ (λ b. AsksFor i j a b p q)) → (p < length w) × (q < length r)
both_in w r i j p q None y ww wr e f h = absurd h
both_in w r i j p q (Some a) None ww wr e f h = absurd h
both_in w r i j p q (Some a) (Some b) ww wr e f h = asks_in (length w) (length r) i j p q a b (at_place w (RefersBelow (length w)) i a ww e) (at_place r (RefersBelow (length r)) j b wr f) (slice_get_within w i a e) (slice_get_within r j b f) h

pub reachable_within : (w r : List NodeView) (i j p q : ℕ) → IsSelfContained w → IsSelfContained r → Asks w r i j p q → (p < length w) × (q < length r)
unfolding Asks
reachable_within w r i j p q ww wr h = both_in w r i j p q (slice_get w i) (slice_get r j) ww wr refl refl h

all_hold : (w r : List NodeView) → IsSelfContained w → IsSelfContained r → 0 < length w → 0 < length r → ContainsAsked w r (pairs_below (length w) (length r))
all_hold w r ww wr lw lr = record {
  roots = in_pairs (length w) (length r) 0 0 lw lr;
  on = λ i j p q m h. let k = reachable_within w r i j p q ww wr h in in_pairs (length w) (length r) p q k.0 k.1;
}

small_product : (n m : ℕ) → n < 65536 → m < 65536 → n * m < 2 ^ 32
small_product n m a b =
    let a' : n ≤ 65535 = omega arith in let b' : m ≤ 65535 = omega arith in
    let p = mul-le-mul_left n b' in let q = mul-le-mul_right 65535 a' in omega (arith, p, q)

pub is_small : (w r : List NodeView) → IsSelfContained w → IsSelfContained r → 0 < length w → 0 < length r → length w < 65536 → length r < 65536 → IsSmall w r
is_small w r ww wr lw lr sw sr = (pairs_below (length w) (length r), all_hold w r ww wr lw lr, subst (λ (x : ℕ). x < 2 ^ 32) (sym (length-pairs_below (length w) (length r))) (small_product (length w) (length r) sw sr))
