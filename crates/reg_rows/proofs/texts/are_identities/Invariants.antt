use Rattle.reg_rows.specs.Spelling.{IsTextRow}
use Rattle.reg_rows.proofs.EachRow.{Left}
use Rattle.reg_rows.proofs.texts.are_identities.Given as goal

abbrev pub invariant-loop-row : goal.invariant-loop-row
invariant-loop-row l = Left IsTextRow l.rows l.row-index
