use Rattle.reg_rows.specs.Spelling.{IsLevelRow}
use Rattle.reg_rows.proofs.EachRow.{Left}
use Rattle.reg_rows.proofs.rows.are_level_rows.Given as goal

abbrev pub invariant-loop-row : goal.invariant-loop-row
invariant-loop-row l = Left IsLevelRow l.rows l.row-index
