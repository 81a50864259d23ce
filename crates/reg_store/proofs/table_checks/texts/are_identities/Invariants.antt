use Rattle.reg_rows.proofs.EachRow.{Left}
use Rattle.reg_store.specs.Inside.TableChecks.{text_fits}
use Rattle.reg_store.proofs.table_checks.texts.are_identities.Given as goal

abbrev pub invariant-loop-line : goal.invariant-loop-line
invariant-loop-line l = Left text_fits l.lines l.line-index
