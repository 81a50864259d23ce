-- The type that a reference names.
use Rattle.std.proofs.Common.{◌≡◌, ℕ, List, [], ◌∷◌, length, false, Option, Some, None, refl, arith}
use Rattle.avro_schema.specs.Names.{Known, or_else, qualified, resolved}
use Rattle.avro_nodes.specs.Names.{has_dot}

found_once : (o : Option ℕ) → o ≡ or_else o o
found_once None = refl
found_once (Some place) = refl

-- in the null namespace, a name without a dot is looked up once
pub null_resolves : (known : Known) (space name : List ℕ) → has_dot name ≡ false → length space ≡ 0 → known name ≡ resolved known space name
unfolding resolved qualified
null_resolves known [] name plain none = rw plain (found_once (known name))
null_resolves known (c ∷ space) name plain none = absurd (omega arith)
