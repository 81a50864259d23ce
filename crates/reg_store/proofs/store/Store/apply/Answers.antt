use Rattle.std.proofs.Common.{inl, inr, rules}
use Rattle.std.specs.Prelude.{◌≡◌, ◌↔◌, Err, IsTrue}
use Rattle.reg_store.specs.declared.error.StoreError.TheVariants.{Disk}
use Rattle.sqlite.specs.Held.{state}
use Rattle.reg_store.specs.Changes.{WhenApplicable}
use Rattle.reg_store.specs.Failures.{is_fault}
use Rattle.reg_store.specs.Stores.{KeepsCrashStates}
use Rattle.reg_store.proofs.Committing.{leaves_if_open, still_spells, on_ok_same, on_err_same}
use Rattle.reg_store.proofs.Keeping.{keeps_store, opens_none}
use Rattle.reg_store.proofs.Writing.{mapped_err}
use Rattle.reg_store.proofs.store.Store.apply.Goals as goal

pub returns-clause-nothing : goal.returns-clause-nothing
returns-clause-nothing g c clean =
    let idle : IsTrue c.is_autocommit-idle.result = search rules in
    let old = state g.S.Store c.args.self.now.db.idle.conn in
    let new = state g.S.Store c.commit_all-done.new.db.idle.conn in
    on_err_same c.commit_all-done.result c.map_err-done.result c.map_err-done.ensures.variant (λ keeps was over. still_spells old new was keeps (c.is_autocommit-idle.ensures.settled idle) over) (c.commit_all-done.ensures.nothing clean)

pub returns-clause-crash : goal.returns-clause-crash
returns-clause-crash g c clean was over takes acts db it =
    let old = state g.S.Store c.args.self.now.db.idle.conn in
    elim (c.commit_all-done.ensures.survives.crash clean db it) [
      | inl before ↦ inl (before, λ is_open. leaves_if_open old was (λ shown d. g.met.S.Store.settled c.args.self.now.db.idle.conn.store d shown) (over is_open) db before)
      | inr made ↦ inr (made was over takes acts)
    ]

pub returns-clause-fault : goal.returns-clause-fault
returns-clause-fault g c clean =
    mapped_err (λ e. WhenApplicable (state g.S.Store c.args.self.now.db.idle.conn) c.args.changes.now c.args.keep (λ was. IsTrue (is_fault e))) c.commit_all-done.result c.map_err-done.result c.map_err-done.ensures.cases
    (c.commit_all-done.ensures.fault clean)

pub returns-clause-frame : goal.returns-clause-frame
returns-clause-frame g c =
    let old = state g.S.Store c.args.self.now.db.idle.conn in
    let new = state g.S.Store c.commit_all-done.new.db.idle.conn in
    let it = c.commit_all-done.ensures in
    let failed_now : (c.map_err-done.result ≡ Err Disk) ↔ IsTrue c.match-matches.self = search rules in
    keeps_store g.met.S.Store.settled c.args.self.now _ c.map_err-done.result c.if-self.false failed_now _ it.survives
    (λ clean. on_ok_same c.commit_all-done.result c.map_err-done.result c.map_err-done.ensures.variant (λ is_open. is_open) (it.was_open clean))
    (λ clean. opens_none old new c.commit_all-done.result (it.was_open clean) (it.nothing clean))

pub returns-clause-before : goal.returns-clause-before
returns-clause-before g c clean =
    let old = state g.S.Store c.args.self.now.db.idle.conn in
    let new = state g.S.Store c.commit_all-done.new.db.idle.conn in
    mapped_err (λ e. IsTrue old.is_open → KeepsCrashStates old new e) c.commit_all-done.result c.map_err-done.result c.map_err-done.ensures.cases (c.commit_all-done.ensures.before clean)
