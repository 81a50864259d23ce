use Rattle.std.proofs.Common.{true≢false, refl, sym, ◌∙◌}
use Rattle.reg_rows.proofs.EachRow.{at_start, passes, fails, over}
use Rattle.reg_store.proofs.table_checks.all_fit.Goals as goal

pub loop-line-init : goal.loop-line-init
loop-line-init g c = at_start g.L.CheckedRow.fits_table c.args.lines.now

pub loop-line-preserved : goal.loop-line-preserved
loop-line-preserved g c = passes g.L.CheckedRow.fits_table c.args.lines.now c.loop-line.line-index _ _ c.loop-line-test.true c.line-item.is (c.fits.ensures.0 c.if-not-fits.false) c.loop-line.invariant

pub returns-then-not-fits : goal.returns-then-not-fits
returns-then-not-fits g c = (
  λ h. absurd (true≢false (sym h)),
  λ all. absurd (fails g.L.CheckedRow.fits_table c.args.lines.now c.loop-line.line-index _ _ c.loop-line-test.true c.line-item.is (λ p. true≢false (sym (c.fits.ensures.1 p) ∙ c.if-not-fits.true)) c.loop-line.invariant all),
)

pub returns : goal.returns
returns g c = (λ h. over g.L.CheckedRow.fits_table c.args.lines.now c.loop-line.line-index c.loop-line-test.false c.loop-line.invariant, λ all. refl)
