-- The maximum of two depths is within a limit exactly if both are.
use Rattle.std.proofs.Common.{◌≡◌, ℕ, max, ◌&&◌, arith}
use Rattle.std.specs.Prelude.{nat_le}
use Rattle.std.proofs.lemmas.Bool.{}

pub nat_le-max : (a b n : ℕ) → nat_le (max a b) n ≡ (nat_le a n && nat_le b n)
nat_le-max a b n = grind arith
