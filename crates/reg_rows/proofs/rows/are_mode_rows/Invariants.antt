use Rattle.reg_rows.specs.Spelling.{IsModeRow}
use Rattle.reg_rows.proofs.EachRow.{Left}
use Rattle.reg_rows.proofs.rows.are_mode_rows.Given as goal

abbrev pub invariant-loop-row : goal.invariant-loop-row
invariant-loop-row l = Left IsModeRow l.rows l.row-index
