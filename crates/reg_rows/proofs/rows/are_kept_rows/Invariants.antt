use Rattle.reg_rows.specs.Spelling.{IsKeptRow}
use Rattle.reg_rows.proofs.EachRow.{Left}
use Rattle.reg_rows.proofs.rows.are_kept_rows.Given as goal

abbrev pub invariant-loop-row : goal.invariant-loop-row
invariant-loop-row l = Left IsKeptRow l.rows l.row-index
