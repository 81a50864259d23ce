-- Fields that are read from their sources, or by their defaults.
use Rattle.std.proofs.Common.{◌≡◌, ◌<◌, ℕ, refl, arith, List, [], ◌∷◌, Option, Some, None, Bool, map, is_some, sym, subst, ◌∙◌}
use Rattle.std.specs.Prelude.{All, IsSome, IsTrue, MatchOption, option_map, ◌↔◌}
use Rattle.std.proofs.lemmas.Option.{same_Some}
use Rattle.avro_nodes.specs.Nodes.{FieldView, field_view}
use Rattle.avro_resolve.specs.Asking.{source_place}
use Rattle.avro_resolve.specs.Resolution.{Pairs, Readable, source}
use Rattle.avro_resolve.proofs.Monotone.{named_in}
use Rattle.avro_resolve.proofs.ViewLemmas.{all_of}
use Rattle.std.proofs.lemmas.List.Elements.{All-map, All-nil}
use Rattle.avro_nodes.specs.declared.node.Field.{Field}

pub place_within : (n : ℕ) (fields : List FieldView) (f : FieldView) (o : Option FieldView) (place : ℕ) → All (λ g. g.place < n) fields → source fields f ≡ o → Some place ≡ option_map (λ g. g.place) o → place < n
place_within n fields f None place h e s = absurd cc
place_within n fields f (Some g) place h e s =
    let same : g.place ≡ place = cc in
    subst (λ p. p < n) same (named_in (λ g. g.place < n) g (f.name ∷ f.aliases) fields h e)

-- the place of a source fits 16 bits
pub source_fits : (fields : List Field) → All (λ g. g.place < 65535) fields → (f : FieldView) (o : Option ℕ) → o ≡ source_place (map field_view fields) f → (place : ℕ) → o ≡ Some place → place < 65535
source_fits fields within f o told place is = place_within 65535 (map field_view fields) f (source (map field_view fields) f) place (All-map (λ (g : FieldView). g.place < 65535) field_view fields within) refl (sym is ∙ told)

-- without fields there is no source
pub no_source : (f : FieldView) (p : ℕ) → source_place [] f ≡ Some p → ⊥
no_source f p e = let l = place_within 0 [] f (source [] f) p (All-nil (λ (g : FieldView). g.place < 0)) refl (sym e) in omega (arith, l)

pub unsourced : (f : FieldView) → source_place [] f ≡ None
unsourced f = by (source_place [] f) refl
  where
    by : (o : Option ℕ) → source_place [] f ≡ o → o ≡ None
    by None e = refl
    by (Some p) e = absurd (no_source f p e)

read_by : (R : Pairs) (X : Type 0) (o : Option FieldView) (place q : ℕ) → option_map (λ (g : FieldView). g.place) o ≡ Some place → IsTrue (R place q) ↔ MatchOption o X (λ g. IsTrue (R g.place q))
read_by R X None place q e = absurd cc
read_by R X (Some g) place q e =
    let same : g.place ≡ place = same_Some g.place place e in
    ((λ h. subst (λ (p : ℕ). IsTrue (R p q)) (sym same) h), (λ h. subst (λ (p : ℕ). IsTrue (R p q)) same h))

pub read_from : (R : Pairs) (fields : List FieldView) (f : FieldView) (place : ℕ) → source_place fields f ≡ Some place → IsTrue (R place f.place) ↔ Readable R fields f
read_from R fields f place e = read_by R (IsSome f.value) (source fields f) place f.place e

unread_by : (R : Pairs) (X : Type 0) (o : Option FieldView) (q : ℕ) → option_map (λ (g : FieldView). g.place) o ≡ None → X ↔ MatchOption o X (λ g. IsTrue (R g.place q))
unread_by R X None q e = ((λ h. h), (λ h. h))
unread_by R X (Some g) q e = absurd cc

pub read_default : (R : Pairs) (fields : List FieldView) (f : FieldView) → source_place fields f ≡ None → IsSome f.value ↔ Readable R fields f
read_default R fields f e = unread_by R (IsSome f.value) (source fields f) f.place e

pub default_told : {X Y : Type 0} (o : Option X) (view : X → Y) (b : Bool) → b ≡ is_some o → IsTrue b ↔ IsSome (option_map view o)
default_told None view b e = ((λ h. sym e ∙ h), (λ h. e ∙ h))
default_told (Some x) view b e = ((λ h. refl), (λ h. e))

pub readable_as : (R : Pairs) (fields wanted : List FieldView) (mine theirs : List Field) → map field_view mine ≡ fields → map field_view theirs ≡ wanted → (b : Bool) → IsTrue b ↔ All (λ f. Readable R (map field_view mine) (field_view f)) theirs → IsTrue b ↔ All (Readable R fields) wanted
readable_as R fields wanted mine theirs em et b told = (
  (λ h. subst (λ (gs : List FieldView). All (Readable R fields) gs) et (subst (λ (fs : List FieldView). All (Readable R fs) (map field_view theirs)) em (All-map (Readable R (map field_view mine)) field_view theirs (told.0 h)))),
  (λ h. told.1 (all_of (Readable R (map field_view mine)) field_view theirs (subst (λ (fs : List FieldView). All (Readable R fs) (map field_view theirs)) (sym em) (subst (λ (gs : List FieldView). All (Readable R fields) gs) (sym et) h)))),
)
