use Rattle.reg_rows.specs.Inside.Search.{HasPredecessorIn}
use Rattle.reg_rows.proofs.EachRow.{Left}
use Rattle.reg_rows.proofs.positions.have_predecessors.Given as goal

abbrev pub invariant-loop-position : goal.invariant-loop-position
invariant-loop-position l = Left (HasPredecessorIn l.sorted) l.sorted l.position-index
