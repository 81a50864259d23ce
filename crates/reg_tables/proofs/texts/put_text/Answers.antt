use Rattle.sqlite.specs.Held.{state}
use Rattle.std.proofs.Common.{◌<◌, ◌^◌, arith}
use Rattle.reg_tables.proofs.Transactions.{on_ok, if_err}
use Rattle.reg_tables.proofs.Written.{puts_text_in, put_text_fails_in}
use Rattle.reg_tables.proofs.WriteFaults.{or_put_fault}
use Rattle.reg_tables.proofs.texts.put_text.Goals as goal

pub returns-clause-put : goal.returns-clause-put
returns-clause-put g c clean =
    let first = state g.S.Store c.args.tx.now.conn.now in
    let last = state g.S.Store c.run.new.tx.conn.now in
    on_ok c.run.result (λ ran schema written contents holds free. puts_text_in first last ran.0 c.args.id c.args.text.now (rw (c.params-to_sql.ensures, c.params-to_sql-2.ensures) at ran.1.0) schema written contents holds free) (c.run.ensures.runs clean)

pub returns-clause-fault : goal.returns-clause-fault
returns-clause-fault g c clean =
    let first = state g.S.Store c.args.tx.now.conn.now in
    let last = state g.S.Store c.run.new.tx.conn.now in
    let low : c.args.id < 2 ^ 32 = omega arith in
    if_err c.run.result (λ e failed schema written contents holds none unheld. or_put_fault first last e (λ ran. put_text_fails_in first last e c.args.id c.args.text.now low ran schema written contents holds none unheld)
    (rw (c.params-to_sql.ensures, c.params-to_sql-2.ensures) at failed)) (c.run.ensures.failed clean)
