use Rattle.std.proofs.Common.{◌≡◌, ℕ, ◌<◌, ◌≤◌, get_or, length}
use Rattle.avro_resolve.specs.Witnesses.{Pair}
use Rattle.avro_resolve.proofs.elimination.pop_run.Given as goal

abbrev pub invariant-loop-from : goal.invariant-loop-from
invariant-loop-from l = record {
  within : l.from ≤ length l.eliminated.items;
  one : (k : ℕ) (d : Pair) → l.from ≤ k → k < length l.eliminated.items → (get_or l.eliminated.items k d).0 ≡ l.last.0;
}

abbrev pub decreases-loop-from : goal.decreases-loop-from
decreases-loop-from l = l.from
