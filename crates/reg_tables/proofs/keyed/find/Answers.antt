use Rattle.reg_tables.proofs.Kit.{bound}
use Rattle.sqlite.specs.Held.{state}
use Rattle.reg_tables.specs.Frames.{after_begin}
use Rattle.reg_tables.proofs.KeyedFinds.{line_found, reads_by}
use Rattle.reg_tables.proofs.TableLines.{asked_fault}
use Rattle.reg_tables.proofs.Transactions.{if_ok, if_err}
use Rattle.reg_tables.proofs.keyed.find.Goals as goal

pub returns-clause-found : goal.returns-clause-found
returns-clause-found g c clean =
    let sql = c.find_sql.ensures in
    if_ok c.first.result (λ line read schema known key cells contents holds.
    line_found schema g.T.KeyedTable.name known c.find_sql.result.now (sql.finds schema known) key (after_begin g.S.Store c.args.db.now.conn) (state g.S.Store read.0) contents holds g.T.Found.FromRow.cells_read g.T.Found.FromRow.cells g.T.KeyedTable.value_of sql.read
    read.1 (rw cells at read.2) line read.3) (c.first.ensures.read clean)

pub returns-clause-fault : goal.returns-clause-fault
returns-clause-fault g c clean =
    let sql = c.find_sql.ensures in
    if_err c.first.result (λ e why key cells can.
    asked_fault c.find_sql.result.now (after_begin g.S.Store c.args.db.now.conn) (state g.S.Store why.0) (state g.S.Store c.first.new.db.conn) g.T.Found.FromRow.is_readable e (bound c.args.values.now) why.1
    (λ is_open.
    let it = can is_open in
    reads_by it.schema g.T.KeyedTable.name it.known c.find_sql.result.now (sql.finds it.schema it.known) key (after_begin g.S.Store c.args.db.now.conn) (state g.S.Store why.0) it.contents it.holds g.T.Found.FromRow.is_readable (sql.readable it.contents it.readable) (bound c.args.values.now) cells)) (c.first.ensures.failed clean)
