use Rattle.std.proofs.Common.{◌∙◌, arith}
use Rattle.avro_nodes.specs.Plain.{Outside}
use Rattle.avro_nodes.proofs.Runs.{joined_more, nothing_skipped}
use Rattle.avro_nodes.proofs.plain.run_start.Goals as goal

pub loop-at-init : goal.loop-at-init
loop-at-init c = record {
  bounds = (omega arith, omega arith);
  skipped = nothing_skipped c.args.bytes.now c.args.from Outside;
}

pub loop-at-preserved : goal.loop-at-preserved
loop-at-preserved c = record {
  bounds = (omega arith, omega arith);
  skipped = c.loop-at.invariant.skipped ∙ joined_more Outside Outside c.args.bytes.now c.args.from c.loop-at.at c.next_outside-at.result c.loop-at.invariant.bounds.0 (omega arith) c.next_outside-at.ensures.pieces;
}
