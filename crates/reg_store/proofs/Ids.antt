-- The schemas of a registry, by their ids.
use Rattle.std.proofs.Common.{◌≡◌, ℕ, zero, suc, ◌<◌, ◌≤◌, List, [], ◌∷◌, length, Some, refl, subst, arith}
use Rattle.std.specs.Prelude.{All, slice_get}
use Rattle.std.proofs.lemmas.List.Elements.{All-head, All-tail}
use Rattle.avro_nodes.specs.Nodes.{NodeView}
use Rattle.avro_schema.specs.Texts.{IsSchema}
use Rattle.reg_core.specs.Registry.{Schemas, schema_at}

pub schema_within : (schemas : Schemas) (id : ℕ) (nodes : List NodeView) → schema_at schemas id ≡ Some nodes → (0 < id) × (id ≤ length schemas)
schema_within schemas zero nodes h = absurd (cc)
schema_within schemas (suc n) nodes h = (omega arith, below schemas n h)
  where
    below : (xs : Schemas) (n : ℕ) → slice_get xs n ≡ Some nodes → n < length xs
    below [] n h = absurd (cc)
    below (x ∷ xs) zero h = omega arith
    below (x ∷ xs) (suc n) h = let l = below xs n h in omega (arith, l)

pub schema_there : (schemas : Schemas) (id : ℕ) → 0 < id → id ≤ length schemas → (nodes : List NodeView) × (schema_at schemas id ≡ Some nodes)
schema_there schemas zero l h = absurd (omega (arith, l))
schema_there schemas (suc n) l h = there schemas n (omega (arith, h))
  where
    there : (xs : Schemas) (n : ℕ) → n < length xs → (nodes : List NodeView) × (slice_get xs n ≡ Some nodes)
    there [] n l = absurd (omega (arith, l))
    there (x ∷ xs) zero l = (x, refl)
    there (x ∷ xs) (suc n) l = there xs n (omega (arith, l))

pub is_schema_at : (schemas : Schemas) (id : ℕ) (nodes : List NodeView) → All IsSchema schemas → schema_at schemas id ≡ Some nodes → IsSchema nodes
is_schema_at schemas zero nodes all h = absurd (cc)
is_schema_at schemas (suc n) nodes all h = at schemas n all h
  where
    at : (xs : Schemas) (n : ℕ) → All IsSchema xs → slice_get xs n ≡ Some nodes → IsSchema nodes
    at [] n all h = absurd (cc)
    at (x ∷ xs) zero all h = let same : x ≡ nodes = cc in subst IsSchema same (All-head IsSchema x xs all)
    at (x ∷ xs) (suc n) all h = at xs n (All-tail IsSchema x xs all) h
