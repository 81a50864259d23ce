use Rattle.std.proofs.Common.{◌≡◌, ◌∙◌, sym, ap, subst, arith, rules}
use Rattle.std.specs.Prelude.{IsTrue}
use Rattle.sqlite.specs.Tree.{Trees}
use Rattle.sqlite.specs.Effect.{Database}
use Rattle.sqlite.specs.Held.{Held, state}
use Rattle.sqlite.specs.State.{HasCleanDisk}
use Rattle.sqlite.proofs.StateLemmas.{survives_then}
use Rattle.sqlite.proofs.Callers.{survives_begin}
use Rattle.reg_tables.proofs.Transactions.{on_ok, if_err, keeps_then, survives_both}
use Rattle.reg_tables.proofs.WriteFaults.{erred_with}
use Rattle.reg_store.specs.Failures.{failure_of, is_fault}
use Rattle.reg_store.specs.Stores.{KeepsCrashStates}
use Rattle.reg_migrate.specs.Inside.{HasLayoutOneIfOpen, HoldsMigrated, TreesHoldMigrated}
use Rattle.reg_store.proofs.Committing.{keeps_begin, keeps_if_failed, before_if_undone, before_if_failed}
use Rattle.reg_store.proofs.Failing.{fault_if_by}
use Rattle.reg_store.proofs.Writing.{is_fault_of_insert, fault_of_commit}
use Rattle.reg_migrate.proofs.Layouts.{taken_if_held}
use Rattle.reg_migrate.proofs.statements.migrate_all.Goals as goal

pub returns-clause-done : goal.returns-clause-done
returns-clause-done g c clean =
    let end = c.commit.new.self.0 in
    let first = state g.S.Store c.args.db.now.conn in
    let last = state g.S.Store c.migrate_tables.new.tx.conn.now in
    let late : HasCleanDisk (state g.S.Store end) = search rules in
    let clean_last : HasCleanDisk last = omega (arith, c.commit.ensures.survives.clean) in
    on_ok c.commit.result (λ done.
    let begun_open = c.in_ok-migrate_tables.ensures.frame.was_open clean_last in
    record {
      was_open = subst (λ h. IsTrue (state g.S.Store h).is_open) c.transaction-tx.ensures.begun begun_open;
      is_open = done.1.is_open;
      settled = done.1.committed_is ∙ sym done.1.now_is;
      holds = subst (λ (d : Database). HoldsMigrated first.now d) (sym done.1.now_is) (subst (λ h. HoldsMigrated (state g.S.Store h).now last.now) c.transaction-tx.ensures.begun (c.in_ok-migrate_tables.ensures.migrated clean_last));
    }) (c.commit.ensures.ok late)

pub returns-clause-survives : goal.returns-clause-survives
returns-clause-survives g c =
    let end = c.commit.new.self.0 in
    let first = state g.S.Store c.args.db.now.conn in
    let last = state g.S.Store c.migrate_tables.new.tx.conn.now in
    let P = λ (db : Trees). IsTrue first.is_open × TreesHoldMigrated first.now db in
    let commits = λ (clean : HasCleanDisk (state g.S.Store end)) (db : Trees) (is : db ≡ last.now.trees).
    let clean_last : HasCleanDisk last = omega (arith, c.commit.ensures.survives.clean) in
    let was_open = subst (λ h. IsTrue (state g.S.Store h).is_open) c.transaction-tx.ensures.begun (c.in_ok-migrate_tables.ensures.frame.was_open clean_last) in
    let migrated = subst (λ h. HoldsMigrated (state g.S.Store h).now last.now) c.transaction-tx.ensures.begun (c.in_ok-migrate_tables.ensures.migrated clean_last) in
    let both : P db = (was_open, taken_if_held first.now last.now db is migrated) in
    both in
    let whole = survives_then first last (state g.S.Store end) _ _ P (λ _ db none. absurd none) commits
    (survives_begin g.S.Store c.args.db.now.conn last _ (rw c.transaction-tx.ensures.begun at c.migrate_tables.ensures.frame.keeps.survives)) c.commit.ensures.survives in
    whole

pub returns-in_err-migrate_tables-clause-fault : goal.returns-in_err-migrate_tables-clause-fault
returns-in_err-migrate_tables-clause-fault g c clean =
    let first = state g.S.Store c.args.db.now.conn in
    let begun = state g.S.Store c.transaction-tx.result.conn.now in
    let last = state g.S.Store c.migrate_tables.new.tx.conn.now in
    let late : HasCleanDisk (state g.S.Store c.drop-tx.new.self.0) = search rules in
    let clean_last : HasCleanDisk last = omega (arith, c.drop-tx.ensures.survives.clean) in
    let is = c.transaction-tx.ensures.begun in
    let e = c.in_err-migrate_tables.field-0.0 in
    erred_with c.from_residual.result e (λ e. HasLayoutOneIfOpen first → IsTrue (is_fault (failure_of e))) c.from_residual.ensures.1
    (λ can.
    let held = subst (λ h. HasLayoutOneIfOpen (state g.S.Store h)) (sym is) can in
    is_fault_of_insert begun last e (ap (λ (h : Held _). h.step_limit) is ∙ c.requires.unlimited) (ap (λ (h : Held _). h.in_transaction) is) (c.in_err-migrate_tables.ensures.fault clean_last held))

pub returns-clause-fault : goal.returns-clause-fault
returns-clause-fault g c clean =
    let begun = state g.S.Store c.transaction-tx.result.conn.now in
    let last = state g.S.Store c.migrate_tables.new.tx.conn.now in
    let end = state g.S.Store c.commit.new.self.0 in
    let late : HasCleanDisk end = search rules in
    let clean_last : HasCleanDisk last = omega (arith, c.commit.ensures.survives.clean) in
    let frame = c.migrate_tables.ensures.frame.keeps.survives in
    let unlimited = frame.limit ∙ ap (λ (h : Held _). h.step_limit) c.transaction-tx.ensures.begun ∙ c.requires.unlimited in
    if_err c.commit.result (λ e fails can. fault_if_by last end (failure_of e) (fault_of_commit last end e unlimited (c.in_ok-migrate_tables.ensures.frame.inside clean_last) fails)) (c.commit.ensures.err late)

pub returns-in_err-migrate_tables-clause-before : goal.returns-in_err-migrate_tables-clause-before
returns-in_err-migrate_tables-clause-before g c clean =
    let first = state g.S.Store c.args.db.now.conn in
    let begun = state g.S.Store c.transaction-tx.result.conn.now in
    let last = state g.S.Store c.migrate_tables.new.tx.conn.now in
    let end = state g.S.Store c.drop-tx.new.self.0 in
    let late : HasCleanDisk end = search rules in
    let e = c.in_err-migrate_tables.field-0.0 in
    let inside = survives_both begun last end c.migrate_tables.ensures.frame.keeps.survives c.drop-tx.ensures.survives in
    let whole = survives_begin g.S.Store c.args.db.now.conn end _ (rw c.transaction-tx.ensures.begun at inside) in
    erred_with c.from_residual.result e (λ x. IsTrue first.is_open → KeepsCrashStates first (state g.S.Store c.drop-tx.new.self.0) (failure_of x)) c.from_residual.ensures.1 (λ is_open. before_if_undone first end (failure_of e) whole late)

pub returns-clause-before : goal.returns-clause-before
returns-clause-before g c clean =
    let conn = c.args.db.now.conn in
    let begun = c.transaction-tx.result.conn.now in
    let last = state g.S.Store c.migrate_tables.new.tx.conn.now in
    let end = c.commit.new.self.0 in
    let late : HasCleanDisk (state g.S.Store end) = search rules in
    let clean_last : HasCleanDisk last = omega (arith, c.commit.ensures.survives.clean) in
    if_err c.commit.result (λ e fails is_open.
    let keeps = keeps_begin g.S.Store conn begun (state g.S.Store end) c.transaction-tx.ensures.begun
    (keeps_then (state g.S.Store begun) last (state g.S.Store end) (c.migrate_tables.ensures.frame.keeps.commit_stays clean_last) (keeps_if_failed last (state g.S.Store end) e fails)) in
    before_if_failed (state g.S.Store conn) last (state g.S.Store end) keeps (λ db is_open it. g.met.S.Store.settled end.store db is_open it) (λ is_open. g.met.S.Store.stays conn.store is_open)
    ((returns-clause-survives g c).closes late is_open) e fails) (c.commit.ensures.err late)
