use Rattle.std.proofs.Common.{true≢false, refl, sym, ◌∙◌}
use Rattle.reg_rows.specs.Inside.Search.{HasVersion}
use Rattle.reg_rows.proofs.EachRow.{at_start, passes, fails, over}
use Rattle.reg_rows.proofs.positions.contains_version_of_each.Goals as goal

pub loop-position-init : goal.loop-position-init
loop-position-init c = at_start (HasVersion c.args.sorted.now) c.args.version_positions.now

pub loop-position-preserved : goal.loop-position-preserved
loop-position-preserved c = passes (HasVersion c.args.sorted.now) c.args.version_positions.now c.loop-position.position-index _ _ c.loop-position-test.true refl (c.has_version.ensures.0 c.if-not-has_version.false) c.loop-position.invariant

pub returns-then-not-has_version : goal.returns-then-not-has_version
returns-then-not-has_version c = (
  λ h. absurd (true≢false (sym h)),
  λ all. absurd (fails (HasVersion c.args.sorted.now) c.args.version_positions.now c.loop-position.position-index _ _ c.loop-position-test.true refl (λ p. true≢false (sym (c.has_version.ensures.1 p) ∙ c.if-not-has_version.true)) c.loop-position.invariant all),
)

pub returns : goal.returns
returns c = (λ h. over (HasVersion c.args.sorted.now) c.args.version_positions.now c.loop-position.position-index c.loop-position-test.false c.loop-position.invariant, λ all. refl)
