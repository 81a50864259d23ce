use Rattle.std.proofs.Common.{◌∙◌, sym, ap, arith}
use Rattle.reg_tables.proofs.Kit.{Held, HasCleanDisk, KeepsCommit}
use Rattle.sqlite.specs.Held.{state}
use Rattle.reg_tables.proofs.Transactions.{survives_both, keeps_then, keeps_if_undone, asked_keeps, shown_open, if_ok, if_err, on_if_ok}
use Rattle.reg_tables.proofs.statement.ask.Goals as goal

pub returns-clause-shown : goal.returns-clause-shown
returns-clause-shown g c clean =
    let early : HasCleanDisk (state g.S.Store c.query_all-rows.new.self.conn.now) = omega (arith, c.rollback.ensures.survives.clean) in
    if_ok c.query_all-rows.result (λ rows shown. (c.query_all-rows.new.self.conn.now, rw c.transaction-tx.ensures.begun at shown)) (c.query_all-rows.ensures.ok early)

pub returns-clause-failed : goal.returns-clause-failed
returns-clause-failed g c clean =
    let early : HasCleanDisk (state g.S.Store c.query_all-rows.new.self.conn.now) = omega (arith, c.rollback.ensures.survives.clean) in
    if_err c.query_all-rows.result (λ e failed. (c.query_all-rows.new.self.conn.now, c.rollback.ensures.survives.counts, rw c.transaction-tx.ensures.begun at failed)) (c.query_all-rows.ensures.err early)

pub returns-clause-frame : goal.returns-clause-frame
returns-clause-frame g c =
    let end = state g.S.Store c.rollback.new.self.0 in
    let first = state g.S.Store c.args.db.now.conn in
    let begun = state g.S.Store c.transaction-tx.result.conn.now in
    let mid = state g.S.Store c.query_all-rows.new.self.conn.now in
    let early : HasCleanDisk end → HasCleanDisk mid = λ clean. omega (arith, c.rollback.ensures.survives.clean) in
    record {
      was_open = λ clean.
          on_if_ok c.query_all-rows.result
          (λ rows shown. shown_open _ _ (state g.S.Store (record c.args.db.now.conn { in_transaction = _ })) mid rows.items (rw c.transaction-tx.ensures.begun at shown)) (c.query_all-rows.ensures.ok (early clean));
      only_reads = λ clean.
          let asked = asked_keeps _ _ begun mid c.query_all-rows.result (ap (λ (h : Held _). h.in_transaction) c.transaction-tx.ensures.begun) (c.query_all-rows.ensures.ok (early clean)) (c.query_all-rows.ensures.err (early clean)) in
          let undone = c.rollback.ensures.undone clean in
          let whole = keeps_then begun mid end asked (keeps_if_undone mid end undone) in
          let from : KeepsCommit first end = (let it = rw c.transaction-tx.ensures.begun at whole in record { was_open = it.was_open; committed = it.committed }) in
          record { commit_stays = from; settled = λ h. (undone.undone h).0 ∙ sym (undone.undone h).1 };
      survives =
          let whole = rw c.transaction-tx.ensures.begun at (survives_both begun mid end c.query_all-rows.ensures.survives c.rollback.ensures.survives) in
          record { clean = whole.clean; shield = whole.shield; counts = whole.counts; limit = whole.limit; closes = whole.closes; crash = whole.crash };
    }
