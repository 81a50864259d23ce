use Rattle.std.proofs.Common.{inl, inr, arith, ◌∙◌}
use Rattle.avro_nodes.proofs.NameLemmas.{Stops, stop_boundary, part_after_dot}
use Rattle.avro_nodes.proofs.names.last_part.Goals as goal
use Rattle.avro_nodes.proofs.names.last_part.Goals.{then-loop-start-test+else-bytes-start-ne46, else-loop-start-test}

pub range_from-requires : goal.range_from-requires
range_from-requires c =
    let stops : Stops c.args.name.now c.loop-start.start = elim c.loop-start-test.branch [
      | then-loop-start-test+else-bytes-start-ne46 w ↦ inr (w.loop-start-test.true, rw c.as_bytes-bytes.ensures.value at w.if-bytes-start-ne46.false)
      | else-loop-start-test w ↦ inl (let done = w.loop-start-test.false in omega arith)
    ] in
    λ _. stop_boundary c.args.name.now c.loop-start.start c.utf8.name (rw c.as_bytes-bytes.ensures.value at c.loop-start.invariant.within) stops

pub returns : goal.returns
returns c =
    let stops : Stops c.args.name.now c.loop-start.start = elim c.loop-start-test.branch [
      | then-loop-start-test+else-bytes-start-ne46 w ↦ inr (w.loop-start-test.true, rw c.as_bytes-bytes.ensures.value at w.if-bytes-start-ne46.false)
      | else-loop-start-test w ↦ inl (let done = w.loop-start-test.false in omega arith)
    ] in
    c.range_from.ensures.value ∙ part_after_dot c.args.name.now c.loop-start.start (rw c.as_bytes-bytes.ensures.value at c.loop-start.invariant.within) (rw c.as_bytes-bytes.ensures.value at c.loop-start.invariant.passed) stops
