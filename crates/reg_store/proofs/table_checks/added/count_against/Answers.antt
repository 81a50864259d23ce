use Rattle.sqlite.specs.Held.{state}
use Rattle.reg_store.proofs.LayoutTwoChecks.{some_can_read_all}
use Rattle.reg_tables.specs.Listings.{HasAgainstRows}
use Rattle.reg_store.specs.Failures.{HasNoLayoutNumber}
use Rattle.reg_store.proofs.Failing.{numberless, passed}
use Rattle.reg_store.proofs.CheckLemmas.{test_unread, test_read}
use Rattle.reg_store.proofs.table_checks.added.count_against.Goals as goal

pub returns-in_err-count-clause-tests : goal.returns-in_err-count-clause-tests
returns-in_err-count-clause-tests g c =
    test_unread g.S.Store c.args.db.now.idle.conn c.against_count.new.db.conn c.from_residual.result c.in_err-count.field-0.0 (some_can_read_all (state g.S.Store c.args.db.now.idle.conn)) c.args.db.now.unlimited c.in_err-count.ensures.frame c.in_err-count.ensures.fault c.in_err-count.ensures.fault_or_unreadable c.from_residual.ensures.1

pub returns-in_err-count-clause-plain : goal.returns-in_err-count-clause-plain
returns-in_err-count-clause-plain g c = passed HasNoLayoutNumber c.from_residual.result _ c.from_residual.ensures.1 (numberless c.in_err-count.field-0.0)

pub returns-clause-tests : goal.returns-clause-tests
returns-clause-tests g c = test_read g.S.Store c.args.db.now.idle.conn c.against_count.new.db.conn {P = λ n d. HasAgainstRows d n} c.in_ok-count.count c.in_ok-count.ensures.frame c.in_ok-count.ensures.counted
