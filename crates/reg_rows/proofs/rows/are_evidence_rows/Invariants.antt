use Rattle.reg_rows.specs.Spelling.{IsEvidenceRow}
use Rattle.reg_rows.proofs.EachRow.{Left}
use Rattle.reg_rows.proofs.rows.are_evidence_rows.Given as goal

abbrev pub invariant-loop-row : goal.invariant-loop-row
invariant-loop-row l = Left IsEvidenceRow l.rows l.row-index
