use Rattle.std.proofs.Common.{◌≡◌, ℕ, ◌<◌, Some, true, false, get_or, length}
use Rattle.avro_resolve.specs.Inside.RankMaps.{mapped_rank}
use Rattle.avro_resolve.proofs.schemas.known_of.Given as goal

abbrev pub invariant-loop-mapped : goal.invariant-loop-mapped
invariant-loop-mapped l = record {
  long : length l.known.items ≡ l.count;
  known : (k rank : ℕ) → k < l.mapped-index → mapped_rank l.ranks k ≡ Some rank → get_or l.known.items rank false ≡ true;
}
