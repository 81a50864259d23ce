use Rattle.std.proofs.Common.{◌⊎◌, subst}
use Rattle.sqlite.specs.Held.{state}
use Rattle.reg_store.specs.Opening.{IsIndexed, OpensOver, CrashKeepsStored}
use Rattle.reg_store.specs.OpenFailures.{IsOpenFailure}
use Rattle.reg_store.proofs.OpenLemmas.{loses_nothing, leaves_unlimited}
use Rattle.reg_store.proofs.store.Store.open.Goals as goal

pub returns-in-Ok-clause-done : goal.returns-in-Ok-clause-done
returns-in-Ok-clause-done g c clean =
    let it = subst (λ h. OpensOver (state g.S.Store h) (state g.S.Store c.make_ready.new.db.idle.conn)) c.new-db.ensures.same (c.in-Ok.ensures.done clean) in
    record { stored = it.stored; spelled = it.spelled; spells = it.spells }

pub returns-in-Ok-clause-shield : goal.returns-in-Ok-clause-shield
returns-in-Ok-clause-shield g c =
    subst (λ h. (state g.S.Store h).IsShielded → (state g.S.Store c.make_ready.new.db.idle.conn).IsShielded) c.new-db.ensures.same c.in-Ok.ensures.survives.shield

pub returns-in-Ok-clause-crash_after : goal.returns-in-Ok-clause-crash_after
returns-in-Ok-clause-crash_after g c clean db it =
    subst (λ h. (state g.S.Store h).may_leave db ⊎ IsIndexed (state g.S.Store h).now db) c.new-db.ensures.same (c.in-Ok.ensures.survives.crash clean db it)

pub returns-in-Err-clause-crash_failed : goal.returns-in-Err-clause-crash_failed
returns-in-Err-clause-crash_failed g c clean db it =
    subst (λ h. (state g.S.Store h).may_leave db ⊎ IsIndexed (state g.S.Store h).now db) c.new-db.ensures.same (c.in-Err.ensures.survives.crash clean db it)

pub returns-in-Ok-clause-found_after : goal.returns-in-Ok-clause-found_after
returns-in-Ok-clause-found_after g c clean =
    let old = state g.S.Store c.new-db.result.idle.conn in
    let new = state g.S.Store c.make_ready.new.db.idle.conn in
    subst (λ h. CrashKeepsStored (state g.S.Store h) new) c.new-db.ensures.same
    (loses_nothing old new c.new-db.ensures.settled (λ db is_open it. g.met.S.Store.settled c.new-db.result.idle.conn.store db is_open it) c.in-Ok.ensures.survives clean)

pub returns-in-Err-clause-found_failed : goal.returns-in-Err-clause-found_failed
returns-in-Err-clause-found_failed g c clean =
    let old = state g.S.Store c.new-db.result.idle.conn in
    let new = state g.S.Store c.make_ready.new.db.idle.conn in
    subst (λ h. CrashKeepsStored (state g.S.Store h) new) c.new-db.ensures.same
    (loses_nothing old new c.new-db.ensures.settled (λ db is_open it. g.met.S.Store.settled c.new-db.result.idle.conn.store db is_open it) c.in-Err.ensures.survives clean)

pub returns-in-Err-clause-leaves : goal.returns-in-Err-clause-leaves
returns-in-Err-clause-leaves g c = leaves_unlimited g.S.Store c.args.connection c.new-db.result.idle.conn c.new-db.ensures.same (state g.S.Store c.make_ready.new.db.idle.conn) c.in-Err.error c.in-Err.ensures.leaves

pub returns-in-Err-clause-fails : goal.returns-in-Err-clause-fails
returns-in-Err-clause-fails g c clean =
    let it = subst (λ h. IsOpenFailure (state g.S.Store h) (state g.S.Store c.make_ready.new.db.idle.conn) c.in-Err.error) c.new-db.ensures.same (c.in-Err.ensures.fails clean) in
    record { fault = it.fault; disk_cause = it.disk_cause; meta_number = it.meta_number; other = it.other }
