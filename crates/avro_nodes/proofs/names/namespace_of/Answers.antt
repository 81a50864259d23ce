use Rattle.std.proofs.Common.{refl, inl, arith}
use Rattle.avro_nodes.specs.Names.{namespace_of}
use Rattle.avro_nodes.proofs.NameLemmas.{at_dot, past_dot, boundary}
use Rattle.avro_nodes.proofs.names.namespace_of.Goals as goal
use Rattle.avro_nodes.proofs.names.namespace_of.Goals.{then-c-eq46, else-c-eq46}

pub loop-i-init : goal.loop-i-init
unfolding namespace_of
loop-i-init c = (refl, inl refl)

pub loop-i-preserved : goal.loop-i-preserved
loop-i-preserved c =
    elim c.if-c-eq46.branch [
      | then-c-eq46 w ↦ rw w.end-is (at_dot c.args.name.now c.loop-i.i (rw c.as_bytes-c-items.ensures.value at c.loop-i-test.true) (rw c.as_bytes-c-items.ensures.value at w.if-c-eq46.true))
      | else-c-eq46 w ↦ rw w.end-is (past_dot c.args.name.now c.loop-i.end c.loop-i.i (rw c.as_bytes-c-items.ensures.value at c.loop-i-test.true) (rw c.as_bytes-c-items.ensures.value at w.if-c-eq46.false) c.loop-i.invariant)
    ]

pub range-requires-clause-end_boundary : goal.range-requires-clause-end_boundary
range-requires-clause-end_boundary c = boundary c.args.name.now c.loop-i.end c.loop-i.i c.utf8.name (omega arith) c.loop-i.invariant.1
