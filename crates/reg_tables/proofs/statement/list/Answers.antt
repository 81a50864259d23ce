use Rattle.std.proofs.Common.{inl, inr}
use Rattle.reg_tables.proofs.Transactions.{if_ok, if_err, if_err_is, stays_read, stays_unread}
use Rattle.reg_tables.proofs.statement.list.Goals as goal

pub returns-clause-read : goal.returns-clause-read
returns-clause-read g c clean =
    let shown = c.in_ok-rows.ensures.shown clean in
    if_ok c.lines_in.result (λ lines read. (shown.0, c.in_ok-rows.rows.items, shown.1, read)) c.lines_in.ensures.ok

pub returns-in_err-rows-clause-failed : goal.returns-in_err-rows-clause-failed
returns-in_err-rows-clause-failed g c clean =
    let failed = c.in_err-rows.ensures.failed clean in
    if_err_is c.from_residual.result _ c.in_err-rows.field-0.0 c.from_residual.ensures.1 (failed.0, inl (failed.1, failed.2))

pub returns-clause-failed : goal.returns-clause-failed
returns-clause-failed g c clean =
    let shown = c.in_ok-rows.ensures.shown clean in
    if_err c.lines_in.result (λ e why. (shown.0, inr (c.in_ok-rows.rows.items, shown.1, why.0, why.1))) c.lines_in.ensures.err

pub returns-in_err-rows-clause-frame : goal.returns-in_err-rows-clause-frame
returns-in_err-rows-clause-frame g c = stays_unread g.S.Store c.args.db.now.conn c.ask.new.db.conn c.from_residual.result c.in_err-rows.field-0.0 c.in_err-rows.ensures.frame c.from_residual.ensures.1

pub returns-clause-frame : goal.returns-clause-frame
returns-clause-frame g c = stays_read g.S.Store c.args.db.now.conn c.ask.new.db.conn c.lines_in.result c.in_ok-rows.ensures.frame
