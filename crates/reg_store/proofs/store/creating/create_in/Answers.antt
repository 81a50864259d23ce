use Rattle.std.proofs.Common.{◌≡◌, ◌∙◌, sym, ap, subst, arith, rules}
use Rattle.std.specs.Prelude.{IsTrue}
use Rattle.sqlite.specs.Tree.{Trees}
use Rattle.sqlite.specs.Held.{Held, state}
use Rattle.sqlite.specs.State.{HasCleanDisk}
use Rattle.sqlite.proofs.StateLemmas.{survives_then}
use Rattle.sqlite.proofs.Callers.{survives_begin}
use Rattle.reg_tables.specs.Layout.{empty_schema}
use Rattle.reg_tables.proofs.Transactions.{on_ok, if_err, keeps_then, survives_both}
use Rattle.reg_tables.proofs.WriteFaults.{erred_with}
use Rattle.reg_store.specs.Failures.{failure_of, IsFaultBy}
use Rattle.reg_store.proofs.Writing.{fault_of_write, fault_of_commit, of_call}
use Rattle.reg_store.proofs.Failing.{by_since}
use Rattle.reg_store.specs.Inside.Applying.{SpellsNew, RecoversToNew}
use Rattle.reg_store.specs.Stores.{KeepsCrashStates}
use Rattle.reg_store.proofs.Committing.{keeps_begin, keeps_if_failed, is_open_over_new, leaves_new, before_if_undone, before_if_failed}
use Rattle.reg_store.proofs.store.creating.create_in.Goals as goal

pub returns-clause-done : goal.returns-clause-done
returns-clause-done g c clean =
    let end = c.commit.new.self.0 in
    let last = state g.S.Store c.create_tables.new.tx.conn.now in
    let late : HasCleanDisk (state g.S.Store end) = search rules in
    let clean_last : HasCleanDisk last = omega (arith, c.commit.ensures.survives.clean) in
    on_ok c.commit.result (λ done none.
    let made = c.in_ok-create_tables.ensures.made clean_last tt (ap (λ (h : Held _). h.schema) c.transaction-tx.ensures.begun ∙ none) in
    let spells = subst (SpellsNew c.args.layout) (sym done.1.now_is) made in
    is_open_over_new c.args.layout (state g.S.Store end) done.1.is_open (done.1.committed_is ∙ sym done.1.now_is) spells) (c.commit.ensures.ok late)

pub returns-clause-survives : goal.returns-clause-survives
returns-clause-survives g c =
    let end = c.commit.new.self.0 in
    let first = state g.S.Store c.args.db.now.idle.conn in
    let last = state g.S.Store c.create_tables.new.tx.conn.now in
    let P = λ (db : Trees). first.now.schema ≡ empty_schema → RecoversToNew c.args.layout db in
    let commits = λ (clean : HasCleanDisk (state g.S.Store end)) (db : Trees) (is : db ≡ last.now.trees) (none : first.now.schema ≡ empty_schema).
    let clean_last : HasCleanDisk last = omega (arith, c.commit.ensures.survives.clean) in
    let made = c.in_ok-create_tables.ensures.made clean_last tt (ap (λ (h : Held _). h.schema) c.transaction-tx.ensures.begun ∙ none) in
    leaves_new c.args.layout db last.now is made in
    survives_then first last (state g.S.Store end) _ _ P (λ _ db none. absurd none) commits
    (survives_begin g.S.Store c.args.db.now.idle.conn last _ (rw c.transaction-tx.ensures.begun at c.create_tables.ensures.frame.keeps.survives)) c.commit.ensures.survives

pub returns-in_err-create_tables-clause-fault : goal.returns-in_err-create_tables-clause-fault
returns-in_err-create_tables-clause-fault g c clean =
    let conn = c.args.db.now.idle.conn in
    let begun = c.transaction-tx.result.conn.now in
    let last = c.create_tables.new.tx.conn.now in
    let end = c.drop-tx.new.self.0 in
    let is = c.transaction-tx.ensures.begun in
    let e = c.in_err-create_tables.field-0.0 in
    let late : HasCleanDisk (state g.S.Store end) = search rules in
    let clean_last : HasCleanDisk (state g.S.Store last) = omega (arith, c.drop-tx.ensures.survives.clean) in
    erred_with c.from_residual.result e (λ e. conn.schema ≡ empty_schema → IsFaultBy (state g.S.Store conn) (state g.S.Store c.drop-tx.new.self.0) (failure_of e)) c.from_residual.ensures.1
    (λ none.
    let write = c.in_err-create_tables.ensures.fault clean_last tt (ap (λ (h : Held _). h.schema) is ∙ none) in
    of_call g.S.Store conn begun last end is c.drop-tx.ensures.survives.counts (failure_of e)
    (fault_of_write (state g.S.Store begun) (state g.S.Store last) e (ap (λ (h : Held _). h.step_limit) is ∙ c.args.db.now.unlimited) (ap (λ (h : Held _). h.in_transaction) is) write))

pub returns-clause-fault : goal.returns-clause-fault
returns-clause-fault g c clean =
    let begun = state g.S.Store c.transaction-tx.result.conn.now in
    let last = state g.S.Store c.create_tables.new.tx.conn.now in
    let end = c.commit.new.self.0 in
    let late : HasCleanDisk (state g.S.Store end) = search rules in
    let clean_last : HasCleanDisk last = omega (arith, c.commit.ensures.survives.clean) in
    let frame = c.create_tables.ensures.frame.keeps.survives in
    let unlimited = frame.limit ∙ ap (λ (h : Held _). h.step_limit) c.transaction-tx.ensures.begun ∙ c.args.db.now.unlimited in
    if_err c.commit.result (λ e fails none.
    let whole = by_since begun last (state g.S.Store end) (frame.closes clean_last) frame.counts c.commit.ensures.survives.counts (failure_of e) (fault_of_commit last (state g.S.Store end) e unlimited (c.in_ok-create_tables.ensures.frame.inside clean_last) fails) in
    subst (λ h. IsFaultBy (state g.S.Store h) (state g.S.Store end) (failure_of e)) c.transaction-tx.ensures.begun whole) (c.commit.ensures.err late)

pub returns-in_err-create_tables-clause-before : goal.returns-in_err-create_tables-clause-before
returns-in_err-create_tables-clause-before g c clean =
    let first = state g.S.Store c.args.db.now.idle.conn in
    let begun = state g.S.Store c.transaction-tx.result.conn.now in
    let last = state g.S.Store c.create_tables.new.tx.conn.now in
    let end = state g.S.Store c.drop-tx.new.self.0 in
    let late : HasCleanDisk end = search rules in
    let e = c.in_err-create_tables.field-0.0 in
    let inside = survives_both begun last end c.create_tables.ensures.frame.keeps.survives c.drop-tx.ensures.survives in
    let whole = survives_begin g.S.Store c.args.db.now.idle.conn end _ (rw c.transaction-tx.ensures.begun at inside) in
    erred_with c.from_residual.result e (λ x. IsTrue first.is_open → KeepsCrashStates first (state g.S.Store c.drop-tx.new.self.0) (failure_of x)) c.from_residual.ensures.1
    (λ is_open. before_if_undone first end (failure_of e) whole late)

pub returns-clause-before : goal.returns-clause-before
returns-clause-before g c clean =
    let conn = c.args.db.now.idle.conn in
    let begun = c.transaction-tx.result.conn.now in
    let last = state g.S.Store c.create_tables.new.tx.conn.now in
    let end = c.commit.new.self.0 in
    let late : HasCleanDisk (state g.S.Store end) = search rules in
    let clean_last : HasCleanDisk last = omega (arith, c.commit.ensures.survives.clean) in
    if_err c.commit.result (λ e fails is_open.
    let keeps = keeps_begin g.S.Store conn begun (state g.S.Store end) c.transaction-tx.ensures.begun
    (keeps_then (state g.S.Store begun) last (state g.S.Store end) (c.create_tables.ensures.frame.keeps.commit_stays clean_last) (keeps_if_failed last (state g.S.Store end) e fails)) in
    before_if_failed (state g.S.Store conn) last (state g.S.Store end) keeps (λ db is_open it. g.met.S.Store.settled end.store db is_open it) (λ is_open. g.met.S.Store.stays conn.store is_open)
    ((returns-clause-survives g c).closes late is_open) e fails) (c.commit.ensures.err late)
