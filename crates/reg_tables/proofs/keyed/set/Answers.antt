use Rattle.std.proofs.Common.{inl, arith, subst}
use Rattle.reg_tables.proofs.Kit.{HasCleanDisk}
use Rattle.sqlite.specs.Held.{state}
use Rattle.reg_tables.specs.Contents.{HoldsContents}
use Rattle.reg_tables.specs.Inside.Keyed.{without_entry}
use Rattle.reg_tables.proofs.KeyedWrites.{free_once_dropped, set_by_both}
use Rattle.reg_tables.proofs.Transactions.{on_ok, if_err, if_err_is}
use Rattle.reg_tables.proofs.WriteFaults.{insert_fault_later}
use Rattle.reg_tables.proofs.keyed.set.Goals as goal

pub returns-clause-set : goal.returns-clause-set
returns-clause-set g c clean =
    let early : HasCleanDisk (state g.S.Store c.delete.new.tx.conn.now) = omega (arith, c.put.ensures.frame.keeps.survives.clean) in
    on_ok c.put.result (λ put schema written key value by cells contents holds.
    let name = g.T.KeyedTable.name in
    subst (HoldsContents schema (state g.S.Store c.put.new.tx.conn.now).now) (set_by_both name contents key value)
    (put schema written key value cells (without_entry name key contents) (c.in_ok-delete.ensures.dropped early schema written key by contents holds) (free_once_dropped name contents key))) (c.put.ensures.put clean)

pub returns-in_err-delete-clause-fault : goal.returns-in_err-delete-clause-fault
returns-in_err-delete-clause-fault g c clean =
    if_err_is c.from_residual.result _ c.in_err-delete.field-0.0 c.from_residual.ensures.1 (λ schema written key value by cells contents holds refers. inl (inl (c.in_err-delete.ensures.fault clean schema written key by contents holds)))

pub returns-clause-fault : goal.returns-clause-fault
returns-clause-fault g c clean =
    let first = state g.S.Store c.args.tx.now.conn.now in
    let mid = state g.S.Store c.delete.new.tx.conn.now in
    let early : HasCleanDisk mid = omega (arith, c.put.ensures.frame.keeps.survives.clean) in
    if_err c.put.result (λ e failed schema written key value by cells contents holds refers.
    let name = g.T.KeyedTable.name in
    insert_fault_later first mid (state g.S.Store c.put.new.tx.conn.now) c.delete.ensures.frame.keeps.survives early c.put.ensures.frame.keeps.survives.counts (c.in_ok-delete.ensures.frame.inside early) e
    (failed schema written key value cells (without_entry name key contents) (c.in_ok-delete.ensures.dropped early schema written key by contents holds) (free_once_dropped name contents key) refers)) (c.put.ensures.fault clean)
