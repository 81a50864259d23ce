use Rattle.sqlite.specs.Held.{state}
use Rattle.reg_tables.proofs.KeyedWrites.{drops, drop_fails}
use Rattle.reg_tables.proofs.Transactions.{on_ok, if_err}
use Rattle.reg_tables.proofs.WriteFaults.{as_write_fault}
use Rattle.reg_tables.proofs.keyed.delete.Goals as goal

pub returns-clause-dropped : goal.returns-clause-dropped
returns-clause-dropped g c clean =
    on_ok c.run.result (λ ran schema written key cells contents holds.
    drops schema g.T.KeyedTable.name (c.drop_sql.ensures.keyed schema written) (state g.S.Store c.args.tx.now.conn.now) (state g.S.Store c.run.new.tx.conn.now) contents holds key c.drop_sql.result.now (c.drop_sql.ensures.drops schema written) ran.0
    (rw cells at ran.1.0)) (c.run.ensures.runs clean)

pub returns-clause-fault : goal.returns-clause-fault
returns-clause-fault g c clean =
    let first = state g.S.Store c.args.tx.now.conn.now in
    let last = state g.S.Store c.run.new.tx.conn.now in
    if_err c.run.result (λ e failed schema written key cells contents holds.
    as_write_fault first last e (drop_fails schema g.T.KeyedTable.name (c.drop_sql.ensures.keyed schema written) first last contents holds key c.drop_sql.result.now (c.drop_sql.ensures.drops schema written) e)
    (rw cells at failed)) (c.run.ensures.failed clean)
