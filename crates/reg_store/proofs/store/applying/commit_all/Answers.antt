use Rattle.std.proofs.Common.{◌≡◌, ◌⊎◌, inl, inr, ◌∙◌, sym, ap, subst, arith, rules}
use Rattle.std.specs.Prelude.{IsTrue}
use Rattle.sqlite.specs.Tree.{Trees}
use Rattle.sqlite.specs.Held.{Held, state}
use Rattle.sqlite.specs.State.{HasCleanDisk}
use Rattle.sqlite.proofs.StateLemmas.{survives_then}
use Rattle.sqlite.proofs.Callers.{survives_begin}
use Rattle.reg_tables.proofs.Transactions.{on_ok, if_err, keeps_then, keeps_if_undone, survives_both}
use Rattle.reg_tables.proofs.WriteFaults.{erred_with}
use Rattle.reg_core.specs.Stored.{Stored}
use Rattle.reg_store.specs.Spells.{Spells, RecoversTo, IsOpenOver, SpellsWhileOpen}
use Rattle.reg_store.specs.Changes.{stored_after_changes, stored_after_apply, CanApply, WhenApplicable, HoldsAfterChanges, HasWork}
use Rattle.reg_store.specs.Failures.{failure_of, is_fault}
use Rattle.reg_store.specs.Stores.{KeepsCrashStates}
use Rattle.reg_store.proofs.Failing.{fault_if_by}
use Rattle.reg_store.proofs.Writing.{fault_later, is_fault_of_insert, fault_of_commit, begun_spells, still_inside}
use Rattle.reg_store.proofs.Committing.{keeps_begin, keeps_if_failed, on_err, on_err_each, left_if_spelled, before_if_undone, before_if_failed}
use Rattle.reg_store.proofs.TrueEvidence.{taken}
use Rattle.reg_store.proofs.store.applying.commit_all.Goals as goal

pub returns-clause-done : goal.returns-clause-done
returns-clause-done g c clean =
    let end = c.commit.new.self.0 in
    let last = state g.S.Store c.keep_reply.new.tx.conn.now in
    let late : HasCleanDisk (state g.S.Store end) = search rules in
    let clean_last : HasCleanDisk last = omega (arith, c.commit.ensures.survives.clean) in
    let clean_mid : HasCleanDisk (state g.S.Store c.apply_changes.new.tx.conn.now) = omega (arith, c.keep_reply.ensures.frame.survives.clean) in
    on_ok c.commit.result (λ done was over takes.
    let after = stored_after_apply c.args.changes.now c.args.keep was in
    let mid_open = (c.keep_reply.ensures.frame.commit_stays clean_last).was_open done.1.was_open in
    let begun_open = (c.apply_changes.ensures.frame.commit_stays clean_mid).was_open mid_open in
    let begun = begun_spells g.S.Store c.args.db.now.idle.conn c.transaction-tx.result.conn.now c.transaction-tx.ensures.begun was over begun_open in
    let made = c.in_ok-apply_changes.ensures.made clean_mid was begun takes.fit in
    let put = c.in_ok-keep_reply.ensures.put clean_last (stored_after_changes c.args.changes.now was) made takes.fresh in
    let all : IsOpenOver (state g.S.Store end) after =
    record { is_open = done.1.is_open; settled = done.1.committed_is ∙ sym done.1.now_is; spells = subst (λ d. Spells d after) (sym done.1.now_is) put } in
    taken c.args.changes.now c.args.keep was (IsOpenOver (state g.S.Store end)) begun.spelled.base.registry takes.fit all) (c.commit.ensures.ok late)

pub returns-clause-survives : goal.returns-clause-survives
returns-clause-survives g c =
    let end = c.commit.new.self.0 in
    let first = state g.S.Store c.args.db.now.idle.conn in
    let begun = state g.S.Store c.transaction-tx.result.conn.now in
    let mid = state g.S.Store c.apply_changes.new.tx.conn.now in
    let last = state g.S.Store c.keep_reply.new.tx.conn.now in
    let P = λ (db : Trees). WhenApplicable first c.args.changes.now c.args.keep (λ was. IsTrue first.is_open ⊎ HasWork c.args.changes.now c.args.keep → HoldsAfterChanges c.args.changes.now c.args.keep was (RecoversTo db)) in
    let inside = survives_both begun mid last c.apply_changes.ensures.frame.survives c.keep_reply.ensures.frame.survives in
    let commits = λ (clean : HasCleanDisk (state g.S.Store end)) (db : Trees) (is : db ≡ last.now.trees) (was : Stored) (over : SpellsWhileOpen first was) (takes : CanApply c.args.changes.now c.args.keep was) (acts : IsTrue first.is_open ⊎ HasWork c.args.changes.now c.args.keep).
    let clean_last : HasCleanDisk last = omega (arith, c.commit.ensures.survives.clean) in
    let clean_mid : HasCleanDisk mid = omega (arith, c.keep_reply.ensures.frame.survives.clean) in
    let opened = subst (λ h. IsTrue (state g.S.Store h).is_open) c.transaction-tx.ensures.begun in
    let was_open : IsTrue first.is_open = elim acts [
      | inl is_open ↦ is_open
      | inr act ↦ opened (elim act [
        | inl change ↦ c.in_ok-apply_changes.ensures.was_open clean_mid change
        | inr reply ↦ (c.apply_changes.ensures.frame.commit_stays clean_mid).was_open (c.in_ok-keep_reply.ensures.was_open clean_last reply)
      ])
    ] in
    let spelled = subst (λ h. Spells (state g.S.Store h).now was) (sym c.transaction-tx.ensures.begun) (over was_open).spells in
    let made = c.in_ok-apply_changes.ensures.made clean_mid was spelled takes.fit in
    let put = c.in_ok-keep_reply.ensures.put clean_last (stored_after_changes c.args.changes.now was) made takes.fresh in
    let left = left_if_spelled db last.now (stored_after_apply c.args.changes.now c.args.keep was) is put in
    taken c.args.changes.now c.args.keep was (RecoversTo db) spelled.spelled.base.registry takes.fit left in
    let whole = survives_then first last (state g.S.Store end) _ _ P (λ _ db none. absurd none) commits
    (survives_begin g.S.Store c.args.db.now.idle.conn last _ (rw c.transaction-tx.ensures.begun at inside)) c.commit.ensures.survives in
    whole

pub returns-in_err-apply_changes-clause-fault : goal.returns-in_err-apply_changes-clause-fault
returns-in_err-apply_changes-clause-fault g c clean =
    let first = state g.S.Store c.args.db.now.idle.conn in
    let begun = state g.S.Store c.transaction-tx.result.conn.now in
    let is = c.transaction-tx.ensures.begun in
    let e = c.in_err-apply_changes.field-0.0 in
    let late : HasCleanDisk (state g.S.Store c.drop-tx.new.self.0) = search rules in
    let clean_mid : HasCleanDisk (state g.S.Store c.apply_changes.new.tx.conn.now) = omega (arith, c.drop-tx.ensures.survives.clean) in
    erred_with c.from_residual.result e (λ e. WhenApplicable first c.args.changes.now c.args.keep (λ was. IsTrue (is_fault (failure_of e)))) c.from_residual.ensures.1
    (λ was over takes. is_fault_of_insert begun (state g.S.Store c.apply_changes.new.tx.conn.now) e (ap (λ (h : Held _). h.step_limit) is ∙ c.args.db.now.unlimited) (ap (λ (h : Held _). h.in_transaction) is)
    (c.in_err-apply_changes.ensures.fault clean_mid was (begun_spells g.S.Store c.args.db.now.idle.conn c.transaction-tx.result.conn.now is was over) takes.fit))

pub returns-in_err-keep_reply-clause-fault : goal.returns-in_err-keep_reply-clause-fault
returns-in_err-keep_reply-clause-fault g c clean =
    let first = state g.S.Store c.args.db.now.idle.conn in
    let begun = state g.S.Store c.transaction-tx.result.conn.now in
    let mid = state g.S.Store c.apply_changes.new.tx.conn.now in
    let is = c.transaction-tx.ensures.begun in
    let e = c.in_err-keep_reply.field-0.0 in
    let late : HasCleanDisk (state g.S.Store c.drop-tx-in_err-keep_reply.new.self.0) = search rules in
    let clean_last : HasCleanDisk (state g.S.Store c.keep_reply.new.tx.conn.now) = omega (arith, c.drop-tx-in_err-keep_reply.ensures.survives.clean) in
    let clean_mid : HasCleanDisk mid = omega (arith, c.keep_reply.ensures.frame.survives.clean) in
    erred_with c.from_residual-in_err-keep_reply.result e (λ e. WhenApplicable first c.args.changes.now c.args.keep (λ was. IsTrue (is_fault (failure_of e)))) c.from_residual-in_err-keep_reply.ensures.1
    (λ was over takes.
    let spelled = begun_spells g.S.Store c.args.db.now.idle.conn c.transaction-tx.result.conn.now is was over in
    is_fault_of_insert begun (state g.S.Store c.keep_reply.new.tx.conn.now) e (ap (λ (h : Held _). h.step_limit) is ∙ c.args.db.now.unlimited) (ap (λ (h : Held _). h.in_transaction) is)
    (fault_later begun mid (state g.S.Store c.keep_reply.new.tx.conn.now) c.apply_changes.ensures.frame.survives clean_mid c.keep_reply.ensures.frame.survives.counts (c.in_ok-apply_changes.ensures.goes_on clean_mid) e
    (c.in_err-keep_reply.ensures.fault clean_last (stored_after_changes c.args.changes.now was)
    (λ is_open. c.in_ok-apply_changes.ensures.made clean_mid was (spelled ((c.apply_changes.ensures.frame.commit_stays clean_mid).was_open is_open)) takes.fit) takes.fresh)))

pub returns-clause-fault : goal.returns-clause-fault
returns-clause-fault g c clean =
    let begun = state g.S.Store c.transaction-tx.result.conn.now in
    let mid = state g.S.Store c.apply_changes.new.tx.conn.now in
    let last = state g.S.Store c.keep_reply.new.tx.conn.now in
    let end = state g.S.Store c.commit.new.self.0 in
    let is = c.transaction-tx.ensures.begun in
    let late : HasCleanDisk end = search rules in
    let clean_last : HasCleanDisk last = omega (arith, c.commit.ensures.survives.clean) in
    let clean_mid : HasCleanDisk mid = omega (arith, c.keep_reply.ensures.frame.survives.clean) in
    let unlimited = c.keep_reply.ensures.frame.survives.limit ∙ c.apply_changes.ensures.frame.survives.limit ∙ ap (λ (h : Held _). h.step_limit) is ∙ c.args.db.now.unlimited in
    let inside = still_inside mid last (still_inside begun mid (ap (λ (h : Held _). h.in_transaction) is) (c.in_ok-apply_changes.ensures.goes_on clean_mid)) (c.in_ok-keep_reply.ensures.goes_on clean_last) in
    if_err c.commit.result (λ e fails was over takes. fault_if_by last end _ (fault_of_commit last end e unlimited inside fails)) (c.commit.ensures.err late)

pub returns-clause-was_open : goal.returns-clause-was_open
returns-clause-was_open g c clean =
    let late : HasCleanDisk (state g.S.Store c.commit.new.self.0) = search rules in
    let clean_last : HasCleanDisk (state g.S.Store c.keep_reply.new.tx.conn.now) = omega (arith, c.commit.ensures.survives.clean) in
    let clean_mid : HasCleanDisk (state g.S.Store c.apply_changes.new.tx.conn.now) = omega (arith, c.keep_reply.ensures.frame.survives.clean) in
    on_ok c.commit.result (λ done.
    let begun_open = (c.apply_changes.ensures.frame.commit_stays clean_mid).was_open ((c.keep_reply.ensures.frame.commit_stays clean_last).was_open done.1.was_open) in
    subst (λ h. IsTrue (state g.S.Store h).is_open) c.transaction-tx.ensures.begun begun_open) (c.commit.ensures.ok late)

pub returns-in_err-apply_changes-clause-nothing : goal.returns-in_err-apply_changes-clause-nothing
returns-in_err-apply_changes-clause-nothing g c clean =
    let end = c.drop-tx.new.self.0 in
    let late : HasCleanDisk (state g.S.Store end) = search rules in
    let first = state g.S.Store c.args.db.now.idle.conn in
    let begun = state g.S.Store c.transaction-tx.result.conn.now in
    let mid = state g.S.Store c.apply_changes.new.tx.conn.now in
    let clean_mid : HasCleanDisk mid = omega (arith, c.drop-tx.ensures.survives.clean) in
    let all = keeps_begin g.S.Store c.args.db.now.idle.conn c.transaction-tx.result.conn.now (state g.S.Store end) c.transaction-tx.ensures.begun
    (keeps_then begun mid (state g.S.Store end) (c.apply_changes.ensures.frame.commit_stays clean_mid) (keeps_if_undone mid (state g.S.Store end) (c.drop-tx.ensures.undone late))) in
    on_err_each c.from_residual.result all

pub returns-in_err-keep_reply-clause-nothing : goal.returns-in_err-keep_reply-clause-nothing
returns-in_err-keep_reply-clause-nothing g c clean =
    let end = c.drop-tx-in_err-keep_reply.new.self.0 in
    let late : HasCleanDisk (state g.S.Store end) = search rules in
    let first = state g.S.Store c.args.db.now.idle.conn in
    let begun = state g.S.Store c.transaction-tx.result.conn.now in
    let mid = state g.S.Store c.apply_changes.new.tx.conn.now in
    let last = state g.S.Store c.keep_reply.new.tx.conn.now in
    let clean_last : HasCleanDisk last = omega (arith, c.drop-tx-in_err-keep_reply.ensures.survives.clean) in
    let clean_mid : HasCleanDisk mid = omega (arith, c.keep_reply.ensures.frame.survives.clean) in
    let ended = keeps_if_undone last (state g.S.Store end) (c.drop-tx-in_err-keep_reply.ensures.undone late) in
    let all = keeps_begin g.S.Store c.args.db.now.idle.conn c.transaction-tx.result.conn.now (state g.S.Store end) c.transaction-tx.ensures.begun
    (keeps_then begun mid (state g.S.Store end) (c.apply_changes.ensures.frame.commit_stays clean_mid) (keeps_then mid last (state g.S.Store end) (c.keep_reply.ensures.frame.commit_stays clean_last) ended)) in
    on_err_each c.from_residual-in_err-keep_reply.result all

pub returns-clause-nothing : goal.returns-clause-nothing
returns-clause-nothing g c clean =
    let end = c.commit.new.self.0 in
    let late : HasCleanDisk (state g.S.Store end) = search rules in
    let first = state g.S.Store c.args.db.now.idle.conn in
    let begun = state g.S.Store c.transaction-tx.result.conn.now in
    let mid = state g.S.Store c.apply_changes.new.tx.conn.now in
    let last = state g.S.Store c.keep_reply.new.tx.conn.now in
    let clean_last : HasCleanDisk last = omega (arith, c.commit.ensures.survives.clean) in
    let clean_mid : HasCleanDisk mid = omega (arith, c.keep_reply.ensures.frame.survives.clean) in
    on_err c.commit.result (λ e fails.
    let all = keeps_begin g.S.Store c.args.db.now.idle.conn c.transaction-tx.result.conn.now (state g.S.Store end) c.transaction-tx.ensures.begun
    (keeps_then begun mid (state g.S.Store end) (c.apply_changes.ensures.frame.commit_stays clean_mid) (keeps_then mid last (state g.S.Store end) (c.keep_reply.ensures.frame.commit_stays clean_last) (keeps_if_failed last (state g.S.Store end) e fails))) in
    all) (c.commit.ensures.err late)

pub returns-in_err-apply_changes-clause-before : goal.returns-in_err-apply_changes-clause-before
returns-in_err-apply_changes-clause-before g c clean =
    let first = state g.S.Store c.args.db.now.idle.conn in
    let begun = state g.S.Store c.transaction-tx.result.conn.now in
    let mid = state g.S.Store c.apply_changes.new.tx.conn.now in
    let end = state g.S.Store c.drop-tx.new.self.0 in
    let late : HasCleanDisk end = search rules in
    let e = c.in_err-apply_changes.field-0.0 in
    let inside = survives_both begun mid end c.apply_changes.ensures.frame.survives c.drop-tx.ensures.survives in
    let whole = survives_begin g.S.Store c.args.db.now.idle.conn end _ (rw c.transaction-tx.ensures.begun at inside) in
    erred_with c.from_residual.result e (λ x. IsTrue first.is_open → KeepsCrashStates first (state g.S.Store c.drop-tx.new.self.0) (failure_of x)) c.from_residual.ensures.1 (λ is_open. before_if_undone first end (failure_of e) whole late)

pub returns-in_err-keep_reply-clause-before : goal.returns-in_err-keep_reply-clause-before
returns-in_err-keep_reply-clause-before g c clean =
    let first = state g.S.Store c.args.db.now.idle.conn in
    let begun = state g.S.Store c.transaction-tx.result.conn.now in
    let mid = state g.S.Store c.apply_changes.new.tx.conn.now in
    let last = state g.S.Store c.keep_reply.new.tx.conn.now in
    let end = state g.S.Store c.drop-tx-in_err-keep_reply.new.self.0 in
    let late : HasCleanDisk end = search rules in
    let e = c.in_err-keep_reply.field-0.0 in
    let inside = survives_both begun last end (survives_both begun mid last c.apply_changes.ensures.frame.survives c.keep_reply.ensures.frame.survives) c.drop-tx-in_err-keep_reply.ensures.survives in
    let whole = survives_begin g.S.Store c.args.db.now.idle.conn end _ (rw c.transaction-tx.ensures.begun at inside) in
    erred_with c.from_residual-in_err-keep_reply.result e (λ x. IsTrue first.is_open → KeepsCrashStates first (state g.S.Store c.drop-tx-in_err-keep_reply.new.self.0) (failure_of x)) c.from_residual-in_err-keep_reply.ensures.1
    (λ is_open. before_if_undone first end (failure_of e) whole late)

pub returns-clause-before : goal.returns-clause-before
returns-clause-before g c clean =
    let conn = c.args.db.now.idle.conn in
    let begun = c.transaction-tx.result.conn.now in
    let mid = state g.S.Store c.apply_changes.new.tx.conn.now in
    let last = state g.S.Store c.keep_reply.new.tx.conn.now in
    let end = c.commit.new.self.0 in
    let late : HasCleanDisk (state g.S.Store end) = search rules in
    let clean_last : HasCleanDisk last = omega (arith, c.commit.ensures.survives.clean) in
    let clean_mid : HasCleanDisk mid = omega (arith, c.keep_reply.ensures.frame.survives.clean) in
    if_err c.commit.result (λ e fails is_open.
    let keeps = keeps_begin g.S.Store conn begun (state g.S.Store end) c.transaction-tx.ensures.begun
    (keeps_then (state g.S.Store begun) mid (state g.S.Store end) (c.apply_changes.ensures.frame.commit_stays clean_mid) (keeps_then mid last (state g.S.Store end) (c.keep_reply.ensures.frame.commit_stays clean_last) (keeps_if_failed last (state g.S.Store end) e fails))) in
    before_if_failed (state g.S.Store conn) last (state g.S.Store end) keeps (λ db is_open it. g.met.S.Store.settled end.store db is_open it) (λ is_open. g.met.S.Store.stays conn.store is_open)
    ((returns-clause-survives g c).closes late is_open) e fails) (c.commit.ensures.err late)
