use Rattle.std.proofs.Common.{◌≡◌, ◌∙◌, inl, inr, refl, sym, ap, subst, arith, rules}
use Rattle.std.specs.Prelude.{IsTrue}
use Rattle.sqlite.specs.Tree.{Trees}
use Rattle.sqlite.specs.declared.error.Error.{Error}
use Rattle.sqlite.specs.Held.{Held, state}
use Rattle.sqlite.specs.State.{HasCleanDisk}
use Rattle.sqlite.proofs.StateLemmas.{survives_then}
use Rattle.sqlite.proofs.Callers.{survives_begin}
use Rattle.reg_tables.specs.Layout.{layout_two_unindexed, layout_two_indexed_last}
use Rattle.reg_tables.specs.Contents.{Contents, HoldsContents}
use Rattle.reg_tables.proofs.Transactions.{on_ok, if_err, keeps_then, survives_both}
use Rattle.reg_tables.proofs.WriteFaults.{erred_with}
use Rattle.reg_store.specs.Inside.Applying.{HoldsWithIndex}
use Rattle.reg_store.specs.Failures.{failure_of, IsFaultBy}
use Rattle.reg_store.specs.Stores.{KeepsCrashStates}
use Rattle.reg_store.proofs.Committing.{keeps_begin, keeps_if_failed, left_if_held, before_if_undone, before_if_failed}
use Rattle.reg_tables.specs.FailedCalls.{IsWriteFault}
use Rattle.reg_store.proofs.Writing.{fault_of_write, fault_of_commit}
use Rattle.reg_store.proofs.Failing.{by_since, by_until}
use Rattle.reg_store.proofs.store.opening.add_index.Goals as goal

pub returns-clause-done : goal.returns-clause-done
returns-clause-done g c clean =
    let end = c.commit.new.self.0 in
    let first = state g.S.Store c.args.db.now.idle.conn in
    let last = state g.S.Store c.index_versions.new.tx.conn.now in
    let late : HasCleanDisk (state g.S.Store end) = search rules in
    let clean_last : HasCleanDisk last = omega (arith, c.commit.ensures.survives.clean) in
    on_ok c.commit.result (λ done.
    let begun_open = (c.index_versions.ensures.frame.keeps.commit_stays clean_last).was_open done.1.was_open in
    let was_open = subst (λ h. IsTrue (state g.S.Store h).is_open) c.transaction-tx.ensures.begun begun_open in
    let held = λ (contents : Contents) (holds : HoldsContents layout_two_unindexed first.now contents).
    let begun = subst (λ h. HoldsContents layout_two_unindexed (state g.S.Store h).now contents) (sym c.transaction-tx.ensures.begun) holds in
    subst (λ d. HoldsContents layout_two_indexed_last d contents) (sym done.1.now_is) (c.in_ok-index_versions.ensures.made clean_last (layout_two_unindexed, layout_two_indexed_last, contents) (inr (refl, refl), begun)) in
    (was_open, done.1.is_open, done.1.committed_is ∙ sym done.1.now_is, held)) (c.commit.ensures.ok late)

pub returns-clause-survives : goal.returns-clause-survives
returns-clause-survives g c =
    let end = c.commit.new.self.0 in
    let first = state g.S.Store c.args.db.now.idle.conn in
    let last = state g.S.Store c.index_versions.new.tx.conn.now in
    let P = λ (db : Trees). IsTrue first.is_open × HoldsWithIndex first.now db in
    let commits = λ (clean : HasCleanDisk (state g.S.Store end)) (db : Trees) (is : db ≡ last.now.trees).
    let clean_last : HasCleanDisk last = omega (arith, c.commit.ensures.survives.clean) in
    let was_open = subst (λ h. IsTrue (state g.S.Store h).is_open) c.transaction-tx.ensures.begun (c.in_ok-index_versions.ensures.frame.was_open clean_last) in
    let indexed = λ (contents : Contents) (holds : HoldsContents layout_two_unindexed first.now contents).
    let begun = subst (λ h. HoldsContents layout_two_unindexed (state g.S.Store h).now contents) (sym c.transaction-tx.ensures.begun) holds in
    left_if_held layout_two_indexed_last db last.now contents is (c.in_ok-index_versions.ensures.made clean_last (layout_two_unindexed, layout_two_indexed_last, contents) (inr (refl, refl), begun)) in
    let both : P db = (was_open, indexed) in
    both in
    let whole = survives_then first last (state g.S.Store end) _ _ P (λ _ db none. absurd none) commits
    (survives_begin g.S.Store c.args.db.now.idle.conn last _ (rw c.transaction-tx.ensures.begun at c.index_versions.ensures.frame.keeps.survives)) c.commit.ensures.survives in
    whole

pub returns-clause-fault : goal.returns-clause-fault
returns-clause-fault g c clean =
    let end = c.commit.new.self.0 in
    let late : HasCleanDisk (state g.S.Store end) = search rules in
    let first = state g.S.Store c.args.db.now.idle.conn in
    let begun = state g.S.Store c.transaction-tx.result.conn.now in
    let last = state g.S.Store c.index_versions.new.tx.conn.now in
    let clean_last : HasCleanDisk last = omega (arith, c.commit.ensures.survives.clean) in
    let frame = c.index_versions.ensures.frame.keeps.survives in
    let unlimited = frame.limit ∙ ap (λ (h : Held _). h.step_limit) c.transaction-tx.ensures.begun ∙ c.args.db.now.unlimited in
    if_err c.commit.result (λ e fails held.
    let whole = by_since begun last (state g.S.Store end) (frame.closes clean_last) frame.counts c.commit.ensures.survives.counts _ (fault_of_commit last (state g.S.Store end) e unlimited (c.in_ok-index_versions.ensures.frame.inside clean_last) fails) in
    subst (λ h. IsFaultBy (state g.S.Store h) (state g.S.Store end) (failure_of e)) c.transaction-tx.ensures.begun whole) (c.commit.ensures.err late)

pub returns-in_err-index_versions-clause-fault : goal.returns-in_err-index_versions-clause-fault
returns-in_err-index_versions-clause-fault g c clean =
    let end = c.drop-tx.new.self.0 in
    let late : HasCleanDisk (state g.S.Store end) = search rules in
    let first = state g.S.Store c.args.db.now.idle.conn in
    let begun = state g.S.Store c.transaction-tx.result.conn.now in
    let last = state g.S.Store c.index_versions.new.tx.conn.now in
    let clean_last : HasCleanDisk last = omega (arith, c.drop-tx.ensures.survives.clean) in
    let unlimited = ap (λ (h : Held _). h.step_limit) c.transaction-tx.ensures.begun ∙ c.args.db.now.unlimited in
    let inside = ap (λ (h : Held _). h.in_transaction) c.transaction-tx.ensures.begun in
    let e = c.in_err-index_versions.field-0.0 in
    let err = c.in_err-index_versions.ensures in
    let fault = λ (f : IsWriteFault begun last e).
    let until = by_until begun last (state g.S.Store end) c.drop-tx.ensures.survives.counts _ (fault_of_write begun last e unlimited inside f) in
    subst (λ h. IsFaultBy (state g.S.Store h) (state g.S.Store end) (failure_of e)) c.transaction-tx.ensures.begun until in
    let Held : Error → Type 0 = λ x. (IsTrue first.is_open → (contents : Contents) × HoldsContents layout_two_unindexed first.now contents) → IsFaultBy first (state g.S.Store c.drop-tx.new.self.0) (failure_of x) in
    erred_with c.from_residual.result e Held c.from_residual.ensures.1 (λ held. elim (err.frame.shut clean_last) [
      | inl is_open ↦
          let it = held (subst (λ h. IsTrue (state g.S.Store h).is_open) c.transaction-tx.ensures.begun is_open) in
          fault (err.fault clean_last (layout_two_unindexed, layout_two_indexed_last, it.0) (inr (refl, refl), subst (λ h. HoldsContents layout_two_unindexed (state g.S.Store h).now it.0) (sym c.transaction-tx.ensures.begun) it.1))
      | inr shut ↦ fault shut
    ])

pub returns-in_err-index_versions-clause-before : goal.returns-in_err-index_versions-clause-before
returns-in_err-index_versions-clause-before g c clean =
    let first = state g.S.Store c.args.db.now.idle.conn in
    let begun = state g.S.Store c.transaction-tx.result.conn.now in
    let last = state g.S.Store c.index_versions.new.tx.conn.now in
    let end = state g.S.Store c.drop-tx.new.self.0 in
    let late : HasCleanDisk end = search rules in
    let e = c.in_err-index_versions.field-0.0 in
    let inside = survives_both begun last end c.index_versions.ensures.frame.keeps.survives c.drop-tx.ensures.survives in
    let whole = survives_begin g.S.Store c.args.db.now.idle.conn end _ (rw c.transaction-tx.ensures.begun at inside) in
    erred_with c.from_residual.result e (λ x. IsTrue first.is_open → KeepsCrashStates first (state g.S.Store c.drop-tx.new.self.0) (failure_of x)) c.from_residual.ensures.1 (λ is_open. before_if_undone first end (failure_of e) whole late)

pub returns-clause-before : goal.returns-clause-before
returns-clause-before g c clean =
    let conn = c.args.db.now.idle.conn in
    let begun = c.transaction-tx.result.conn.now in
    let last = state g.S.Store c.index_versions.new.tx.conn.now in
    let end = c.commit.new.self.0 in
    let late : HasCleanDisk (state g.S.Store end) = search rules in
    let clean_last : HasCleanDisk last = omega (arith, c.commit.ensures.survives.clean) in
    if_err c.commit.result (λ e fails is_open.
    let keeps = keeps_begin g.S.Store conn begun (state g.S.Store end) c.transaction-tx.ensures.begun
    (keeps_then (state g.S.Store begun) last (state g.S.Store end) (c.index_versions.ensures.frame.keeps.commit_stays clean_last) (keeps_if_failed last (state g.S.Store end) e fails)) in
    before_if_failed (state g.S.Store conn) last (state g.S.Store end) keeps (λ db is_open it. g.met.S.Store.settled end.store db is_open it) (λ is_open. g.met.S.Store.stays conn.store is_open)
    ((returns-clause-survives g c).closes late is_open) e fails) (c.commit.ensures.err late)
