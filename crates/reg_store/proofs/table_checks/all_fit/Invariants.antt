use Rattle.reg_rows.proofs.EachRow.{Left}
use Rattle.reg_store.proofs.table_checks.all_fit.Given as goal

abbrev pub invariant-loop-line : goal.invariant-loop-line
invariant-loop-line g l = Left g.L.CheckedRow.fits_table l.lines l.line-index
