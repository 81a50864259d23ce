use Rattle.std.proofs.Common.{◌≡◌, ◌-◌, ◌≤◌, take, drop, length}
use Rattle.std.specs.Str.{IsCharBoundary}
use Rattle.avro_nodes.specs.Plain.{Outside, prepended, joined, pieces, plain}
use Rattle.avro_nodes.proofs.plain.unchanged_len.Given as goal

abbrev pub invariant-loop-at : goal.invariant-loop-at
invariant-loop-at l =
    record {
      kept : prepended (take l.at l.text) (joined (pieces Outside (drop l.at l.text))) ≡ plain l.text;
      bounds : l.at ≤ length l.text;
      cut : IsCharBoundary l.text l.at;
    }

abbrev pub decreases-loop-at : goal.decreases-loop-at
decreases-loop-at l = length l.text - l.at
