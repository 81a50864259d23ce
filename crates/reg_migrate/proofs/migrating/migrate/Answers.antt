use Rattle.std.proofs.Common.{◌⊎◌, inl, inr, refl, sym, subst, arith, rules, IsTrue}
use Rattle.sqlite.specs.Tree.{Trees}
use Rattle.sqlite.specs.Held.{state}
use Rattle.sqlite.specs.State.{HasCleanDisk}
use Rattle.reg_tables.proofs.Transactions.{if_err, on_ok}
use Rattle.reg_store.specs.OpenFailures.{IsCheckFailure}
use Rattle.reg_migrate.specs.declared.migrating.Report.{Report}
use Rattle.reg_migrate.specs.Migrations.{IsReasonOver, RecoversToMigrated, Migrates}
use Rattle.reg_store.proofs.Committing.{on_err_same}
use Rattle.reg_store.proofs.Writing.{if_err_both}
use Rattle.reg_migrate.proofs.Migrates.{can_migrate, closes_both, crashes_migrated, crash_keeps_stored, moves, no_more, reads_both, reported, spells_some, takes_on, unlimited_reads}
use Rattle.reg_migrate.proofs.ErrorLemmas.{before_if_faulted, before_then, fault_over, leaves_before, reason_if_fault, told_cause, told_newer, told_refused}
use Rattle.reg_migrate.proofs.migrating.migrate.Goals as goal

pub returns-in-Ok-clause-done : goal.returns-in-Ok-clause-done
returns-in-Ok-clause-done g c clean =
    let idle : IsTrue c.is_autocommit-idle.result = search rules in
    let old = state g.S.Store c.args.connection in
    let mid = state g.S.Store c.check_first-counted.result.1 in
    let new = state g.S.Store c.migrate_connection.result.1 in
    let early : HasCleanDisk mid = omega (arith, c.migrate_connection.ensures.survives.clean) in
    let reads = unlimited_reads g.S.Store c.args.connection mid (c.check_first-counted.ensures.frame.only_reads early) in
    let found = rw c.in-Ok.is at c.check_first-counted.ensures.found early in
    reported (Migrates old new) (λ (report : Report). report.versions) c.in-Ok.versions c.migrate_connection.result.0 c.migrate_connection.ensures.counted
    (on_ok c.migrate_connection.result.0 (λ over. moves old mid reads (c.is_autocommit-idle.ensures.settled idle) new c.in-Ok.versions found over) (c.migrate_connection.ensures.done clean))

pub returns-in-Ok-clause-reason : goal.returns-in-Ok-clause-reason
returns-in-Ok-clause-reason g c clean =
    let idle : IsTrue c.is_autocommit-idle.result = search rules in
    let old = state g.S.Store c.args.connection in
    let mid = state g.S.Store c.check_first-counted.result.1 in
    let early : HasCleanDisk mid = omega (arith, c.migrate_connection.ensures.survives.clean) in
    let reads = unlimited_reads g.S.Store c.args.connection mid (c.check_first-counted.ensures.frame.only_reads early) in
    let found = rw c.in-Ok.is at c.check_first-counted.ensures.found early in
    let can = can_migrate old mid reads (c.is_autocommit-idle.ensures.settled idle) c.in-Ok.versions found in
    if_err c.migrate_connection.result.0 (λ e fails. reason_if_fault old (state g.S.Store c.migrate_connection.result.1) e (spells_some old.now c.in-Ok.versions found) (fails can)) (c.migrate_connection.ensures.fault clean)

pub returns-in-Ok-clause-leaves : goal.returns-in-Ok-clause-leaves
returns-in-Ok-clause-leaves g c =
    let idle : IsTrue c.is_autocommit-idle.result = search rules in
    let old = state g.S.Store c.args.connection in
    let mid = state g.S.Store c.check_first-counted.result.1 in
    let new = state g.S.Store c.migrate_connection.result.1 in
    let migrated = c.migrate_connection.ensures in
    let frame = c.check_first-counted.ensures.frame in
    record {
      shield = λ h. migrated.survives.shield (frame.survives.shield h);
      nothing = λ clean.
          let early : HasCleanDisk mid = omega (arith, migrated.survives.clean) in
          let reads = unlimited_reads g.S.Store c.args.connection mid (frame.only_reads early) in
          on_err_same c.migrate_connection.result.0 c.migrate_connection.result.0 refl (reads_both old mid reads (c.is_autocommit-idle.ensures.settled idle) new) (migrated.nothing clean);
      before = λ clean.
          let early : HasCleanDisk mid = omega (arith, migrated.survives.clean) in
          let reads = unlimited_reads g.S.Store c.args.connection mid (frame.only_reads early) in
          let can = can_migrate old mid reads (c.is_autocommit-idle.ensures.settled idle) c.in-Ok.versions (rw c.in-Ok.is at c.check_first-counted.ensures.found early) in
          if_err_both c.migrate_connection.result.0 (λ e later fails is_open. elim (frame.survives.closes early is_open) [
            | inl mid_open ↦ before_then old mid new e (no_more old mid (frame.survives.crash early)) frame.survives.counts (later mid_open)
            | inr more ↦ before_if_faulted old mid new e more migrated.survives.counts (fails can)
          ]) (migrated.before clean) (migrated.fault clean);
      closes = λ clean.
          let early : HasCleanDisk mid = omega (arith, migrated.survives.clean) in
          closes_both old mid new frame.survives.counts migrated.survives.counts (frame.survives.closes early) (migrated.survives.closes clean);
      settled = λ is_open db it. g.met.S.Store.settled c.migrate_connection.result.1.store db is_open it;
    }

pub returns-in-Ok-clause-crash_after : goal.returns-in-Ok-clause-crash_after
returns-in-Ok-clause-crash_after g c clean =
    let idle : IsTrue c.is_autocommit-idle.result = search rules in
    let old = state g.S.Store c.args.connection in
    let mid = state g.S.Store c.check_first-counted.result.1 in
    let new = state g.S.Store c.migrate_connection.result.1 in
    let early : HasCleanDisk mid = omega (arith, c.migrate_connection.ensures.survives.clean) in
    let reads = unlimited_reads g.S.Store c.args.connection mid (c.check_first-counted.ensures.frame.only_reads early) in
    let found = rw c.in-Ok.is at c.check_first-counted.ensures.found early in
    on_ok c.migrate_connection.result.0 (λ over. crashes_migrated old mid reads (c.is_autocommit-idle.ensures.settled idle) new c.in-Ok.versions found over
    (λ db is_open it. g.met.S.Store.settled c.migrate_connection.result.1.store db is_open it)) (c.migrate_connection.ensures.done clean)

pub returns-in-Ok-clause-crash : goal.returns-in-Ok-clause-crash
returns-in-Ok-clause-crash g c clean db it =
    let idle : IsTrue c.is_autocommit-idle.result = search rules in
    let old = state g.S.Store c.args.connection in
    let mid = state g.S.Store c.check_first-counted.result.1 in
    let early : HasCleanDisk mid = omega (arith, c.migrate_connection.ensures.survives.clean) in
    let frame = c.check_first-counted.ensures.frame in
    let reads = unlimited_reads g.S.Store c.args.connection mid (frame.only_reads early) in
    let found = rw c.in-Ok.is at c.check_first-counted.ensures.found early in
    elim (c.migrate_connection.ensures.survives.crash clean db it) [
      | inl later ↦ elim (frame.survives.crash early db later) [ inl was ↦ inl was | inr none ↦ absurd none ]
      | inr made ↦ inr (takes_on old mid reads (c.is_autocommit-idle.ensures.settled idle) c.in-Ok.versions found db made.0 made.1)
    ]

pub returns-in-Ok-clause-found : goal.returns-in-Ok-clause-found
returns-in-Ok-clause-found g c clean =
    let idle : IsTrue c.is_autocommit-idle.result = search rules in
    crash_keeps_stored (state g.S.Store c.args.connection) (state g.S.Store c.migrate_connection.result.1) (c.is_autocommit-idle.ensures.settled idle)
    (λ db is_open it. g.met.S.Store.settled c.args.connection.store db is_open it) (returns-in-Ok-clause-crash g c clean)

pub returns-in-Err-clause-reason : goal.returns-in-Err-clause-reason
returns-in-Err-clause-reason g c clean =
    let old = state g.S.Store c.args.connection in
    let new = state g.S.Store c.check_first-counted.result.1 in
    let unread : IsCheckFailure old new c.in-Err.error = rw c.in-Err.is at c.check_first-counted.ensures.fails clean in
    subst (IsReasonOver old new) (sym c.from.ensures) (record {
      fault = fault_over old new c.in-Err.error unread.fault;
      disk_cause = inl (told_cause old new c.in-Err.error unread.disk_cause);
      meta_number = told_refused old.now c.in-Err.error unread.meta_number;
      newer = told_newer old c.in-Err.error unread.other;
    })

pub returns-in-Err-clause-leaves : goal.returns-in-Err-clause-leaves
returns-in-Err-clause-leaves g c =
    let old = state g.S.Store c.args.connection in
    let new = state g.S.Store c.check_first-counted.result.1 in
    let frame = c.check_first-counted.ensures.frame in
    record {
      shield = λ h. frame.survives.shield h;
      nothing = λ clean. unlimited_reads g.S.Store c.args.connection new (frame.only_reads clean);
      before = λ clean is_open. leaves_before old new c.from.result (no_more old new (frame.survives.crash clean));
      closes = λ clean is_open. frame.survives.closes clean is_open;
      settled = λ is_open db it. g.met.S.Store.settled c.check_first-counted.result.1.store db is_open it;
    }

pub returns-in-Err-clause-found : goal.returns-in-Err-clause-found
returns-in-Err-clause-found g c clean =
    let idle : IsTrue c.is_autocommit-idle.result = search rules in
    let old = state g.S.Store c.args.connection in
    let crash = λ (db : Trees) (it : (state g.S.Store c.check_first-counted.result.1).may_leave db).
    elim (c.check_first-counted.ensures.frame.survives.crash clean db it) as (λ _. old.may_leave db ⊎ RecoversToMigrated old.now db) [ inl was ↦ inl was | inr none ↦ absurd none ] in
    crash_keeps_stored old (state g.S.Store c.check_first-counted.result.1) (c.is_autocommit-idle.ensures.settled idle)
    (λ db is_open it. g.met.S.Store.settled c.args.connection.store db is_open it) crash
