use Rattle.reg_tables.proofs.Kit.{next_rowid}
use Rattle.sqlite.specs.Held.{state}
use Rattle.reg_tables.specs.Contents.{table_in}
use Rattle.reg_tables.proofs.KeyedWrites.{puts, puts_room, put_fails, put_faults}
use Rattle.reg_tables.proofs.Transactions.{on_ok, if_err}
use Rattle.reg_tables.proofs.WriteFaults.{or_insert_fault, as_write_fault}
use Rattle.reg_tables.proofs.keyed.put.Goals as goal

pub returns-clause-put : goal.returns-clause-put
returns-clause-put g c clean =
    on_ok c.run.result (λ ran schema written key value cells contents holds free.
    puts schema g.T.KeyedTable.name (c.put_sql.ensures.keyed schema written) (state g.S.Store c.args.tx.now.conn.now) (state g.S.Store c.run.new.tx.conn.now) contents holds key c.put_sql.result.now (c.put_sql.ensures.puts schema written) value ran.0 free
    (rw cells at ran.1.0)) (c.run.ensures.runs clean)

pub returns-clause-fault : goal.returns-clause-fault
returns-clause-fault g c clean =
    let first = state g.S.Store c.args.tx.now.conn.now in
    let last = state g.S.Store c.run.new.tx.conn.now in
    if_err c.run.result (λ e failed schema written key value cells contents holds free refers.
    or_insert_fault first last e (put_fails schema g.T.KeyedTable.name (c.put_sql.ensures.keyed schema written) first last contents holds key c.put_sql.result.now (c.put_sql.ensures.puts schema written) e value free refers)
    (rw cells at failed)) (c.run.ensures.failed clean)

pub returns-clause-room : goal.returns-clause-room
returns-clause-room g c clean =
    on_ok c.run.result (λ ran schema written key value cells contents holds free n room.
    puts_room schema g.T.KeyedTable.name (c.put_sql.ensures.keyed schema written) (state g.S.Store c.args.tx.now.conn.now) (state g.S.Store c.run.new.tx.conn.now) contents holds key c.put_sql.result.now (c.put_sql.ensures.puts schema written) value ran.0
    (rw cells at ran.1.0) n room) (c.run.ensures.runs clean)

pub returns-clause-fits : goal.returns-clause-fits
returns-clause-fits g c clean =
    let first = state g.S.Store c.args.tx.now.conn.now in
    let last = state g.S.Store c.run.new.tx.conn.now in
    if_err c.run.result (λ e failed schema written key value cells contents holds free refers n room stored.
    as_write_fault first last e (λ ran. put_faults schema g.T.KeyedTable.name (c.put_sql.ensures.keyed schema written) first last contents holds key c.put_sql.result.now (c.put_sql.ensures.puts schema written) e value free refers ran n room (stored (next_rowid (first.now.trees (table_in schema g.T.KeyedTable.name).tree))))
    (rw cells at failed)) (c.run.ensures.failed clean)
