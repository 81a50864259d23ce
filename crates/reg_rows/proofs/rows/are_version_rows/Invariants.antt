use Rattle.reg_rows.specs.Spelling.{IsVersionRow}
use Rattle.reg_rows.proofs.EachRow.{Left}
use Rattle.reg_rows.proofs.rows.are_version_rows.Given as goal

abbrev pub invariant-loop-row : goal.invariant-loop-row
invariant-loop-row l = Left IsVersionRow l.rows l.row-index
