use Rattle.std.proofs.Common.{true≢false, refl, sym, ◌∙◌}
use Rattle.reg_rows.specs.Spelling.{IsModeRow}
use Rattle.reg_rows.proofs.EachRow.{at_start, passes, fails, over}
use Rattle.reg_rows.proofs.rows.are_mode_rows.Goals as goal

pub loop-row-init : goal.loop-row-init
loop-row-init c = at_start IsModeRow c.args.rows.now

pub loop-row-preserved : goal.loop-row-preserved
loop-row-preserved c = passes IsModeRow c.args.rows.now c.loop-row.row-index _ _ c.loop-row-test.true c.row-item.is (c.is_mode_row.ensures.0 c.if-not-is_mode_row.false) c.loop-row.invariant

pub returns-then-not-is_mode_row : goal.returns-then-not-is_mode_row
returns-then-not-is_mode_row c = (
  λ h. absurd (true≢false (sym h)),
  λ all. absurd (fails IsModeRow c.args.rows.now c.loop-row.row-index _ _ c.loop-row-test.true c.row-item.is (λ p. true≢false (sym (c.is_mode_row.ensures.1 p) ∙ c.if-not-is_mode_row.true)) c.loop-row.invariant all),
)

pub returns : goal.returns
returns c = (λ h. over IsModeRow c.args.rows.now c.loop-row.row-index c.loop-row-test.false c.loop-row.invariant, λ all. refl)
