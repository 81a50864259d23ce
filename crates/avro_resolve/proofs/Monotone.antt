-- A larger set supports each pair that a smaller one supports.
use Rattle.std.proofs.Common.{◌≡◌, ℕ, ◌<◌, List, [], ◌∷◌, Option, Some, None, Bool, true, false, cond, length, get_or, refl, subst}
use Rattle.std.specs.Prelude.{All, Any, MatchOption, IsSome, find, slice_get, IsTrue, ◌↔◌}
use Rattle.std.specs.Option.{option_or}
use Rattle.std.specs.Str.{bytes_eq}
use Rattle.std.proofs.lemmas.List.Elements.{All-head, All-tail}
use Rattle.std.proofs.lemmas.Option.{slice_get_within, get_or_from_slice_get}
use Rattle.avro_nodes.specs.Nodes.{FieldView, NodeView, primitive, array, mapping, union, enumeration, fixed, rec}
use Rattle.avro_resolve.specs.Resolution.{Pairs, first_named, source, Fits, Supports}
use Rattle.avro_resolve.specs.Inside.Places.{RefersBelow, AllReferences, IsSelfContained}

-- the first set is a subset of the second
abbrev pub Within : Pairs → Pairs → Type 0
Within R S = (i j : ℕ) → IsTrue (R i j) → IsTrue (S i j)

-- the same for pairs of places below the two numbers
abbrev pub WithinBelow : ℕ → ℕ → Pairs → Pairs → Type 0
WithinBelow n m R S = (i j : ℕ) → i < n → j < m → IsTrue (R i j) → IsTrue (S i j)

-- ---- the places of sources

found_step : (P : FieldView → Type 0) (g f : FieldView) (o : Option FieldView) (b : Bool) → P f → (o ≡ Some g → P g) → cond b (Some f) o ≡ Some g → P g
found_step P g f o true here later e = let same : f ≡ g = cc in subst P same here
found_step P g f o false here later e = later e

pub found_in : (P : FieldView → Type 0) (test : FieldView → Bool) (g : FieldView) (fs : List FieldView) → All P fs → find test fs ≡ Some g → P g
found_in P test g [] h e = absurd cc
found_in P test g (f ∷ fs) h e = found_step P g f (find test fs) (test f) (All-head P f fs h) (found_in P test g fs (All-tail P f fs h)) e

or_step : (P : FieldView → Type 0) (g : FieldView) (o p : Option FieldView) → (o ≡ Some g → P g) → (p ≡ Some g → P g) → option_or o p ≡ Some g → P g
or_step P g None p first later e = later e
or_step P g (Some f) p first later e = first e

pub named_in : (P : FieldView → Type 0) (g : FieldView) (names : List (List ℕ)) (fs : List FieldView) → All P fs → first_named names fs ≡ Some g → P g
unfolding first_named
named_in P g [] fs h e = absurd cc
named_in P g (name ∷ names) fs h e = or_step P g (find (λ f. bytes_eq f.name name) fs) (first_named names fs) (found_in P (λ f. bytes_eq f.name name) g fs h) (named_in P g names fs h) e

-- ---- one pair of nodes

-- the same for pairs of places that have the two properties
abbrev pub WithinAmong : (ℕ → Type 0) → (ℕ → Type 0) → Pairs → Pairs → Type 0
WithinAmong P Q R S = (i j : ℕ) → P i → Q j → IsTrue (R i j) → IsTrue (S i j)

module _ (P Q : ℕ → Type 0) (R S : Pairs) (within : WithinAmong P Q R S) where
  match_more : (fields : List FieldView) (f : FieldView) (o : Option FieldView) → source fields f ≡ o → All (λ g. P g.place) fields → Q f.place
      → MatchOption o (IsSome f.value) (λ g. IsTrue (R g.place f.place)) → MatchOption o (IsSome f.value) (λ g. IsTrue (S g.place f.place))
  match_more fields f None e lf lg h = h
  match_more fields f (Some g) e lf lg h = within g.place f.place (named_in (λ g. P g.place) g (f.name ∷ f.aliases) fields lf e) lg h

  any_more : (i : ℕ) (places : List ℕ) → P i → All Q places → Any (λ p. IsTrue (R i p)) places → Any (λ p. IsTrue (S i p)) places
  any_more i places li lp (k, x, l, e, h) = (k, x, l, e, within i x li (subst Q e (lp k x l)) h)

  fits_more : (i j : ℕ) (a b : NodeView) → P i → Q j → AllReferences P a → AllReferences Q b → Fits R i j a b → Fits S i j a b
  fits_more i j (union bs) b li lj la lb h = λ k d l. within _ j (la k d l) lj (h k d l)
  fits_more i j (primitive k x) (union bs) li lj la lb h = any_more i bs li lb h
  fits_more i j (array p x) (union bs) li lj la lb h = any_more i bs li lb h
  fits_more i j (mapping p x) (union bs) li lj la lb h = any_more i bs li lb h
  fits_more i j (enumeration n' s f x) (union bs) li lj la lb h = any_more i bs li lb h
  fits_more i j (fixed n' s x) (union bs) li lj la lb h = any_more i bs li lb h
  fits_more i j (rec n' fs x) (union bs) li lj la lb h = any_more i bs li lb h
  fits_more i j (array p x) (array q y) li lj la lb h = within p q la lb h
  fits_more i j (mapping p x) (mapping q y) li lj la lb h = within p q la lb h
  fits_more i j (rec n' fs x) (rec m' gs y) li lj la lb h = (h.0, λ k d l. let f = get_or gs k d in match_more fs f (source fs f) refl la (lb k d l) (h.1 k d l))
  fits_more i j (primitive k x) (primitive l y) li lj la lb h = h
  fits_more i j (enumeration n' s f x) (enumeration m' t g y) li lj la lb h = h
  fits_more i j (fixed n' s x) (fixed m' t y) li lj la lb h = h
  fits_more i j _ _ li lj la lb h = absurd h

-- ---- pairs of places

pub supports_at : (w r : List NodeView) (R : Pairs) (i j : ℕ) (a b : NodeView) → slice_get w i ≡ Some a → slice_get r j ≡ Some b → Supports w r R i j ↔ Fits R i j a b
unfolding Supports
supports_at w r R i j a b e f = rw (e, f) ((λ h. h), (λ h. h))

within_both : (R : Pairs) (i j : ℕ) (w r : List NodeView) (x y : Option NodeView) → slice_get w i ≡ x → slice_get r j ≡ y → MatchOption x ⊥ (λ a. MatchOption y ⊥ (λ b. Fits R i j a b)) → (i < length w) × (j < length r)
within_both R i j w r None y e f h = absurd h
within_both R i j w r (Some a) None e f h = absurd h
within_both R i j w r (Some a) (Some b) e f h = (slice_get_within w i a e, slice_get_within r j b f)

-- the places of a supported pair are below the numbers of nodes
pub supported_in : (w r : List NodeView) (R : Pairs) (i j : ℕ) → Supports w r R i j → (i < length w) × (j < length r)
unfolding Supports
supported_in w r R i j h = within_both R i j w r (slice_get w i) (slice_get r j) refl refl h

-- a property of each node is one of the node at a place
pub at_place : (w : List NodeView) (P : NodeView → Type 0) (i : ℕ) (a : NodeView) → All P w → slice_get w i ≡ Some a → P a
at_place w P i a h e = subst P (get_or_from_slice_get w i a a e) (h i a (slice_get_within w i a e))

both_more : (w r : List NodeView) (R S : Pairs) → IsSelfContained w → IsSelfContained r → WithinBelow (length w) (length r) R S → (i j : ℕ) (x y : Option NodeView) → slice_get w i ≡ x → slice_get r j ≡ y
    → MatchOption x ⊥ (λ a. MatchOption y ⊥ (λ b. Fits R i j a b)) → MatchOption x ⊥ (λ a. MatchOption y ⊥ (λ b. Fits S i j a b))
both_more w r R S ww wr within i j None y e f h = h
both_more w r R S ww wr within i j (Some a) None e f h = h
both_more w r R S ww wr within i j (Some a) (Some b) e f h =
    fits_more (λ p. p < length w) (λ p. p < length r) R S within i j a b (slice_get_within w i a e) (slice_get_within r j b f) (at_place w (RefersBelow (length w)) i a ww e) (at_place r (RefersBelow (length r)) j b wr f) h

pub supports_below : (w r : List NodeView) (R S : Pairs) → IsSelfContained w → IsSelfContained r → WithinBelow (length w) (length r) R S → (i j : ℕ) → Supports w r R i j → Supports w r S i j
unfolding Supports
supports_below w r R S ww wr within i j h = both_more w r R S ww wr within i j (slice_get w i) (slice_get r j) refl refl h

-- ---- subsets, without a bound on places

everywhere : (a : NodeView) → AllReferences (λ _. Unit {0}) a
everywhere (primitive k x) = tt
everywhere (array p x) = tt
everywhere (mapping p x) = tt
everywhere (union bs) = λ k d l. tt
everywhere (enumeration n s f x) = tt
everywhere (fixed n s x) = tt
everywhere (rec n fs x) = λ k d l. tt

module _ (R S : Pairs) (within : Within R S) where
  fits_within : (i j : ℕ) (a b : NodeView) → Fits R i j a b → Fits S i j a b
  fits_within i j a b h = fits_more (λ _. Unit {0}) (λ _. Unit {0}) R S (λ p q _ _. within p q) i j a b tt tt (everywhere a) (everywhere b) h

  both_within : (i j : ℕ) (x y : Option NodeView) → MatchOption x ⊥ (λ a. MatchOption y ⊥ (λ b. Fits R i j a b)) → MatchOption x ⊥ (λ a. MatchOption y ⊥ (λ b. Fits S i j a b))
  both_within i j None y h = h
  both_within i j (Some a) None h = h
  both_within i j (Some a) (Some b) h = fits_within i j a b h

  pub supports_within : (w r : List NodeView) (i j : ℕ) → Supports w r R i j → Supports w r S i j
  unfolding Supports
  supports_within w r i j h = both_within i j (slice_get w i) (slice_get r j) h
