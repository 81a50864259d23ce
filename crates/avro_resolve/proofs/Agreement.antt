-- Two nodes that fit also agree.
use Rattle.std.proofs.Common.{◌≡◌, ℕ, List, Option, Some, None}
use Rattle.std.specs.Prelude.{MatchOption, slice_get, ◌↔◌}
use Rattle.avro_nodes.specs.Nodes.{NodeView, primitive, array, mapping, union, enumeration, fixed, rec}
use Rattle.avro_resolve.specs.Resolution.{Pairs, Fits, Supports}
use Rattle.avro_resolve.specs.Inside.Agreeing.{Agree}
use Rattle.avro_resolve.specs.Inside.Remaining.{Agreed}

pub fits_agree : (R : Pairs) (i j : ℕ) (a b : NodeView) → Fits R i j a b → Agree a b
fits_agree R i j (union ps) b h = (tt, tt)
fits_agree R i j (primitive k x) (union ps) h = (tt, tt)
fits_agree R i j (array p x) (union ps) h = (tt, tt)
fits_agree R i j (mapping p x) (union ps) h = (tt, tt)
fits_agree R i j (enumeration n s f x) (union ps) h = (tt, tt)
fits_agree R i j (fixed n s x) (union ps) h = (tt, tt)
fits_agree R i j (rec n fs x) (union ps) h = (tt, tt)
fits_agree R i j (array p x) (array q y) h = (tt, tt)
fits_agree R i j (mapping p x) (mapping q y) h = (tt, tt)
fits_agree R i j (primitive k x) (primitive l y) h = (h, tt)
fits_agree R i j (enumeration n s f x) (enumeration m t g y) h = h
fits_agree R i j (fixed n s x) (fixed m t y) h = (h, tt)
fits_agree R i j (rec n fs x) (rec m gs y) h = (h.0, tt)
fits_agree R i j _ _ h = absurd h

both_agreed : (R : Pairs) (i j : ℕ) (x y : Option NodeView) → MatchOption x ⊥ (λ a. MatchOption y ⊥ (λ b. Fits R i j a b)) → MatchOption x ⊥ (λ a. MatchOption y ⊥ (λ b. Agree a b))
both_agreed R i j None y h = h
both_agreed R i j (Some a) None h = h
both_agreed R i j (Some a) (Some b) h = fits_agree R i j a b h

pub supports_agreed : (w r : List NodeView) (R : Pairs) (i j : ℕ) → Supports w r R i j → Agreed w r i j
unfolding Supports
supports_agreed w r R i j h = both_agreed R i j (slice_get w i) (slice_get r j) h

pub agreed_at : (w r : List NodeView) (i j : ℕ) (a b : NodeView) → slice_get w i ≡ Some a → slice_get r j ≡ Some b → Agreed w r i j ↔ Agree a b
agreed_at w r i j a b e f = rw (e, f) ((λ h. h), (λ h. h))
