use Rattle.std.proofs.Common.{◌≡◌, ◌≤◌, ◌-◌, drop, length}
use Rattle.std.specs.Prelude.{slice_range}
use Rattle.avro_nodes.specs.Plain.{Outside, prepended, joined, pieces}
use Rattle.avro_nodes.proofs.plain.run_start.Given as goal

abbrev pub invariant-loop-at : goal.invariant-loop-at
invariant-loop-at l =
    record {
      bounds : (l.from ≤ l.at) × (l.at ≤ length l.bytes);
      skipped : joined (pieces Outside (drop l.from l.bytes)) ≡ prepended (slice_range l.bytes l.from l.at) (joined (pieces Outside (drop l.at l.bytes)));
    }

abbrev pub decreases-loop-at : goal.decreases-loop-at
decreases-loop-at l = length l.bytes - l.at
