use Rattle.sqlite.specs.Held.{state}
use Rattle.reg_store.specs.Failures.{HasNoLayoutNumber}
use Rattle.reg_store.proofs.Failing.{numberless, passed}
use Rattle.reg_store.proofs.CheckLemmas.{test_unread, test_lines, some_can_be_read, some_known, levels_pass}
use Rattle.reg_store.proofs.table_checks.check_levels.Goals as goal

pub returns-in_err-lines-clause-tests : goal.returns-in_err-lines-clause-tests
returns-in_err-lines-clause-tests g c =
    test_unread g.S.Store c.args.db.now.idle.conn c.raw_levels.new.db.conn c.from_residual.result c.in_err-lines.field-0.0 (some_can_be_read (state g.S.Store c.args.db.now.idle.conn)) c.args.db.now.unlimited c.in_err-lines.ensures.frame c.in_err-lines.ensures.fault c.in_err-lines.ensures.fault_or_unreadable c.from_residual.ensures.1

pub returns-in_err-lines-clause-plain : goal.returns-in_err-lines-clause-plain
returns-in_err-lines-clause-plain g c = passed HasNoLayoutNumber c.from_residual.result _ c.from_residual.ensures.1 (numberless c.in_err-lines.field-0.0)

pub returns-clause-tests : goal.returns-clause-tests
returns-clause-tests g c =
    test_lines g.S.Store c.args.db.now.idle.conn c.raw_levels.new.db.conn c.in_ok-lines.lines c.in_ok-lines.ensures.frame c.in_ok-lines.ensures.listed _ c.deref.ensures.value c.in_ok-pass.field-0 c.in_ok-pass.ensures
    c.require.result c.require.ensures.ok c.require.ensures.err some_known (λ db s lists. levels_pass db s.stored s.spells _ lists)
