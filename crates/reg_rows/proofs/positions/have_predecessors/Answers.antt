use Rattle.std.proofs.Common.{true≢false, refl, sym, ◌∙◌}
use Rattle.reg_rows.specs.Inside.Search.{HasPredecessorIn}
use Rattle.reg_rows.proofs.EachRow.{at_start, passes, fails, over}
use Rattle.reg_rows.proofs.positions.have_predecessors.Goals as goal

pub loop-position-init : goal.loop-position-init
loop-position-init c = at_start (HasPredecessorIn c.args.sorted.now) c.args.sorted.now

pub loop-position-preserved : goal.loop-position-preserved
loop-position-preserved c = passes (HasPredecessorIn c.args.sorted.now) c.args.sorted.now c.loop-position.position-index _ _ c.loop-position-test.true refl (c.has_predecessor.ensures.0 c.if-not-has_predecessor.false) c.loop-position.invariant

pub returns-then-not-has_predecessor : goal.returns-then-not-has_predecessor
returns-then-not-has_predecessor c = (
  λ h. absurd (true≢false (sym h)),
  λ all. absurd (fails (HasPredecessorIn c.args.sorted.now) c.args.sorted.now c.loop-position.position-index _ _ c.loop-position-test.true refl (λ p. true≢false (sym (c.has_predecessor.ensures.1 p) ∙ c.if-not-has_predecessor.true)) c.loop-position.invariant all),
)

pub returns : goal.returns
returns c = (λ h. over (HasPredecessorIn c.args.sorted.now) c.args.sorted.now c.loop-position.position-index c.loop-position-test.false c.loop-position.invariant, λ all. refl)
