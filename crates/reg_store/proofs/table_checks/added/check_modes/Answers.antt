use Rattle.sqlite.specs.Held.{state}
use Rattle.reg_store.specs.Failures.{HasNoLayoutNumber}
use Rattle.reg_store.proofs.Failing.{numberless, passed}
use Rattle.reg_store.proofs.CheckLemmas.{test_unread, test_lines}
use Rattle.reg_store.proofs.LayoutTwoChecks.{some_can_read_all, all_tables_known, modes_pass}
use Rattle.reg_store.proofs.table_checks.added.check_modes.Goals as goal

pub returns-in_err-lines-clause-tests : goal.returns-in_err-lines-clause-tests
returns-in_err-lines-clause-tests g c =
    test_unread g.S.Store c.args.db.now.idle.conn c.raw_modes.new.db.conn c.from_residual.result c.in_err-lines.field-0.0 (some_can_read_all (state g.S.Store c.args.db.now.idle.conn)) c.args.db.now.unlimited c.in_err-lines.ensures.frame c.in_err-lines.ensures.fault c.in_err-lines.ensures.fault_or_unreadable c.from_residual.ensures.1

pub returns-in_err-lines-clause-plain : goal.returns-in_err-lines-clause-plain
returns-in_err-lines-clause-plain g c = passed HasNoLayoutNumber c.from_residual.result _ c.from_residual.ensures.1 (numberless c.in_err-lines.field-0.0)

pub returns-clause-tests : goal.returns-clause-tests
returns-clause-tests g c =
    test_lines g.S.Store c.args.db.now.idle.conn c.raw_modes.new.db.conn c.in_ok-lines.lines c.in_ok-lines.ensures.frame c.in_ok-lines.ensures.listed _ c.deref.ensures.value c.in_ok-pass.field-0 c.in_ok-pass.ensures
    c.require.result c.require.ensures.ok c.require.ensures.err all_tables_known (λ db s lists. modes_pass db s _ lists)
