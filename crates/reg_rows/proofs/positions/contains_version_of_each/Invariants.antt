use Rattle.reg_rows.specs.Inside.Search.{HasVersion}
use Rattle.reg_rows.proofs.EachRow.{Left}
use Rattle.reg_rows.proofs.positions.contains_version_of_each.Given as goal

abbrev pub invariant-loop-position : goal.invariant-loop-position
invariant-loop-position l = Left (HasVersion l.sorted) l.version_positions l.position-index
