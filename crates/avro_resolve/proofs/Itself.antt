-- Every schema resolves with itself.
use Rattle.std.proofs.Common.{◌≡◌, ℕ, ◌<◌, List, Option, Some, None, Bool, true, false, ◌||◌, ◌&&◌, length, get_or, refl, sym, subst, ◌∙◌, true≢false, inl, inr}
use Rattle.std.specs.Prelude.{IsTrue, ◌⊎◌, ◌==◌, nat_lt, All, Any, MatchOption, IsSome, slice_get}
use Rattle.std.specs.List.{list_any}
use Rattle.std.proofs.lemmas.List.{get_or_default}
use Rattle.std.proofs.lemmas.List.Elements.{All-contains_itself}
use Rattle.std.proofs.lemmas.Bool.{and_parts, and_from, or_cases, or_left, or_right, lt-ltb, ltb-true, eq-eqb, eqb-true}
use Rattle.std.proofs.lemmas.Option.{slice_get-get_or}
use Rattle.std.proofs.lemmas.List.Folds.{Any-from_list_any, list_any-from_Any}
use Rattle.serde_json.specs.Data.{no_members}
use Rattle.avro_nodes.specs.declared.node.PrimitiveKind.{PrimitiveKind}
use Rattle.avro_nodes.specs.declared.node.PrimitiveKind.TheVariants.{Null, Boolean, Int, Long, Float, Double, Bytes, Text}
use Rattle.avro_nodes.specs.Nodes.{FieldView, NodeView, primitive, array, mapping, union, enumeration, fixed, rec}
use Rattle.avro_schema.specs.Texts.{IsSchema}
use Rattle.avro_resolve.specs.Resolution.{Pairs, Promotes, source, Fits, Supports, Resolves}
use Rattle.avro_resolve.specs.Inside.Places.{RefersBelow, IsSelfContained}
use Rattle.avro_resolve.proofs.Denoted.{IsNoUnion, NoUnionAt, IsPlain, some_node, is_whole, is_plain}
use Rattle.avro_resolve.proofs.Monotone.{supports_at, at_place}

-- whether the place is a branch of the node
branch_of : Option NodeView → ℕ → Bool
branch_of (Some (union places)) i = list_any (λ p. p == i) places
branch_of _ i = false

-- the pairs of each place with itself, and of each branch with its union
itself : List NodeView → Pairs
itself w i j = nat_lt i (length w) && ((i == j) || branch_of (slice_get w j) i)

some_not_none : (w : List NodeView) (i : ℕ) → i < length w → slice_get w i ≡ None → ⊥
some_not_none w i l e = absurd (let d : NodeView = array 0 no_members in let g : slice_get w i ≡ Some (get_or w i d) = slice_get-get_or w i d l in cc)

own_kind : (k : PrimitiveKind) → Promotes k k
own_kind Null = tt
own_kind Boolean = tt
own_kind Int = tt
own_kind Long = tt
own_kind Float = tt
own_kind Double = tt
own_kind Bytes = tt
own_kind Text = tt

same_pair : (w : List NodeView) (i : ℕ) → i < length w → itself w i i ≡ true
unfolding itself
same_pair w i l = and_from (nat_lt i (length w)) ((i == i) || branch_of (slice_get w i) i) (lt-ltb i (length w) l) (or_left (i == i) (branch_of (slice_get w i) i) (eq-eqb i i refl))

own_field : (w : List NodeView) (fs : List FieldView) (f : FieldView) (o : Option FieldView) → f.place < length w → o ≡ Some f → MatchOption o (IsSome f.value) (λ g. IsTrue (itself w g.place f.place))
own_field w fs f None l e = absurd cc
own_field w fs f (Some g) l e = let same : f ≡ g = cc in subst (λ (x : FieldView). itself w x.place f.place ≡ true) same (same_pair w f.place l)

own : (w : List NodeView) (i : ℕ) (a : NodeView) → slice_get w i ≡ Some a → RefersBelow (length w) a → IsPlain w a → Fits (itself w) i i a a
unfolding itself branch_of
own w i (primitive k x) e n h = own_kind k
own w i (array p x) e n h = same_pair w p n
own w i (mapping p x) e n h = same_pair w p n
own w i (enumeration m symbols fallback x) e n h = (inl refl, inr (All-contains_itself symbols))
own w i (fixed m size x) e n h = (inl refl, refl)
own w i (rec m fs x) e n h = (inl refl, λ k d l. let f = get_or fs k d in own_field w fs f (source fs f) (n k d l) (h k d l))
own w i (union bs) e n h = λ k d l.
    let p = get_or bs k d in
    and_from (nat_lt p (length w)) ((p == i) || branch_of (slice_get w i) p) (lt-ltb p (length w) (n k d l))
    (or_right (p == i) (branch_of (slice_get w i) p) (subst (λ (x : Option NodeView). branch_of x p ≡ true) (sym e) (list_any-from_Any (λ q. q == p) bs (k, p, l, get_or_default bs k p d l, eq-eqb p p refl))))

any_own : (w : List NodeView) (i : ℕ) (bs : List ℕ) → i < length w → Any (λ p. (p == i) ≡ true) bs → Any (λ p. IsTrue (itself w i p)) bs
any_own w i bs l (k, x, lk, e, s) = (k, x, lk, e, subst (λ (y : ℕ). itself w i y ≡ true) (sym (eqb-true x i s)) (same_pair w i l))

no_union : (w : List NodeView) (i : ℕ) (a : NodeView) (bs : List ℕ) → slice_get w i ≡ Some a → All (NoUnionAt w) bs → Any (λ p. (p == i) ≡ true) bs → IsNoUnion a
no_union w i a bs e h (k, x, lk, f, s) = h k x lk a (subst (λ (y : ℕ). slice_get w y ≡ Some a) (sym (f ∙ eqb-true x i s)) e)

other_at : (w : List NodeView) (i j : ℕ) (a : NodeView) (bs : List ℕ) → IsNoUnion a → Any (λ p. IsTrue (itself w i p)) bs → Fits (itself w) i j a (union bs)
other_at w i j (union cs) bs n h = absurd n
other_at w i j _ bs n h = h

other : (w : List NodeView) (i j : ℕ) (a b : NodeView) → slice_get w i ≡ Some a → i < length w → IsPlain w b → branch_of (Some b) i ≡ true → Fits (itself w) i j a b
unfolding branch_of
other w i j a (union bs) e l h m =
    let any = Any-from_list_any (λ p. p == i) bs m in
    other_at w i j a bs (no_union w i a bs e h any) (any_own w i bs l any)
other w i j a _ e l h m = absurd (true≢false (sym m))

pair_cases : (w : List NodeView) (i j : ℕ) (x y : Option NodeView) → slice_get w i ≡ x → slice_get w j ≡ y → i < length w → IsSelfContained w → All (IsPlain w) w → ((i == j) ≡ true) ⊎ (branch_of y i ≡ true) → Supports w w (itself w) i j
unfolding branch_of
pair_cases w i j None y e f l whole plain c = absurd (some_not_none w i l e)
pair_cases w i j (Some a) None e f l whole plain (inl s) = absurd (some_not_none w i l (subst (λ (z : ℕ). slice_get w z ≡ None) (sym (eqb-true i j s)) f))
pair_cases w i j (Some a) None e f l whole plain (inr m) = absurd (true≢false (sym m))
pair_cases w i j (Some a) (Some b) e f l whole plain (inl s) =
    let g : slice_get w j ≡ Some a = subst (λ (z : ℕ). slice_get w z ≡ Some a) (eqb-true i j s) e in
    (supports_at w w (itself w) i j a a e g).1 (subst (λ (z : ℕ). Fits (itself w) i z a a) (eqb-true i j s) (own w i a e (at_place w (RefersBelow (length w)) i a whole e) (at_place w (IsPlain w) i a plain e)))
pair_cases w i j (Some a) (Some b) e f l whole plain (inr m) = (supports_at w w (itself w) i j a b e f).1 (other w i j a b e l (at_place w (IsPlain w) j b plain f) m)

resolves_own : (w : List NodeView) → 0 < length w → IsSelfContained w → All (IsPlain w) w → Resolves w w
unfolding Resolves itself
resolves_own w l whole plain = (
  itself w,
  same_pair w 0 l,
  λ i j h.
      let p = and_parts (nat_lt i (length w)) ((i == j) || branch_of (slice_get w j) i) h in
      pair_cases w i j (slice_get w i) (slice_get w j) refl refl (ltb-true i (length w) p.0) whole plain (or_cases (i == j) (branch_of (slice_get w j) i) p.1),
)

pub schema_resolves : (w : List NodeView) → IsSchema w → Resolves w w
schema_resolves w h = resolves_own w (some_node w h) (is_whole w h) (is_plain w h)
