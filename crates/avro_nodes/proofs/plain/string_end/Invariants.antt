use Rattle.std.proofs.Common.{◌≡◌, ◌≤◌, ◌<◌, ◌-◌, ◌⊎◌, drop, length, get_or}
use Rattle.std.specs.Prelude.{slice_range}
use Rattle.avro_nodes.specs.Plain.{Inside, prepended, joined, pieces}
use Rattle.avro_nodes.proofs.plain.string_end.Given as goal

abbrev pub invariant-loop-at : goal.invariant-loop-at
invariant-loop-at l =
    record {
      bounds : (l.from ≤ l.at) × (l.at ≤ length l.bytes);
      found : l.at < length l.bytes → (get_or l.bytes l.at 0 ≡ 34) ⊎ (get_or l.bytes l.at 0 ≡ 92);
      skipped : joined (pieces Inside (drop l.from l.bytes)) ≡ prepended (slice_range l.bytes l.from l.at) (joined (pieces Inside (drop l.at l.bytes)));
    }

abbrev pub decreases-loop-at : goal.decreases-loop-at
decreases-loop-at l = length l.bytes - l.at
