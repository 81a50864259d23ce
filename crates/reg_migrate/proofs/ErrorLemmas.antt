-- Facts about a store's error carry over to the error of `migrate`.
use Rattle.std.proofs.Common.{◌≡◌, ◌≤◌, ◌∙◌, ℕ, Bool, true, false, ◌==◌, inl, inr, refl, sym, ap, subst, arith, IsTrue}
use Rattle.std.specs.Prelude.{if◌then◌else◌}
use Rattle.std.proofs.lemmas.Bool.{both_ways, cases_lt, eqb-true, le-ltb}
use Rattle.sqlite_disk.specs.Disk.{MoreFaults}
use Rattle.reg_core.specs.Stored.{new_stored}
use Rattle.sqlite.specs.Effect.{Database}
use Rattle.sqlite.specs.State.{State}
use Rattle.reg_store.specs.declared.error.StoreError.{StoreError}
use Rattle.reg_store.specs.declared.error.StoreError.TheVariants as store
use Rattle.reg_store.specs.Failures as failures
use Rattle.reg_store.specs.Opening.{HasMetaNumberOf, NamesLayout, ShowsLayout, ReportsOther}
use Rattle.reg_store.specs.OpenFailures.{IsFaultOverLayoutOne}
use Rattle.reg_store.specs.Stores as stores
use Rattle.reg_store.specs.Stores.{AddsNoCrashState}
use Rattle.reg_migrate.specs.declared.error.MigrateError.{MigrateError}
use Rattle.reg_migrate.specs.declared.error.MigrateError.TheVariants.{Memory, Disk, NotARegistry, AlreadyNew, NewerLayout}
use Rattle.reg_migrate.specs.Errors.{migrate_error_of, is_fault, HasMetaNumber, HasDiskCause, IsErrorForLayout, ReportsNewer, KeepsCrashStates}
use Rattle.reg_migrate.specs.Migrations.{IsMigrationFault, IsReasonOver, IsLayoutOneRegistry}
use Rattle.reg_store.proofs.Failing.{fault_if_by}

-- a newer layout is reported as `AlreadyNew` or `NewerLayout`
newer_case : (P : MigrateError → Type 0) (number : ℕ) → (number ≡ 2 → P AlreadyNew) → ((number ≡ 2 → ⊥) → P (NewerLayout number)) → P (migrate_error_of (store.NewerLayout number))
newer_case P number new other = go (number == 2) refl
  where
    go : (b : Bool) → (number == 2) ≡ b → P (if b then AlreadyNew else NewerLayout number)
    go true is = new (eqb-true number 2 is)
    go false is = other (λ same. let both : (2 == 2) ≡ false = ap (λ n. n == 2) (sym same) ∙ is in cc)

-- a fault stays a fault
pub told_fault : (e : StoreError) → IsTrue (failures.is_fault e) → IsTrue (is_fault (migrate_error_of e))
told_fault store.Memory h = refl
told_fault store.Disk h = refl
told_fault store.NotARegistry h = absurd (cc)
told_fault (store.OldLayout number) h = absurd (cc)
told_fault (store.NewerLayout number) h = absurd (cc)

-- what a crash leaves after an error
pub told_before : (old new : State) (e : StoreError) → stores.KeepsCrashStates old new e → KeepsCrashStates old new (migrate_error_of e)
told_before old new store.Memory h = h
told_before old new store.Disk h = h
told_before old new store.NotARegistry h = h
told_before old new (store.OldLayout number) h = h
told_before old new (store.NewerLayout number) h = newer_case (KeepsCrashStates old new) number (λ _. h) (λ _. h)

-- a number comes from the rows of `meta`
pub told_refused : (db : Database) (e : StoreError) → HasMetaNumberOf 1 db e → HasMetaNumber db (migrate_error_of e)
told_refused db store.Memory h = tt
told_refused db store.Disk h = tt
told_refused db store.NotARegistry h = tt
told_refused db (store.OldLayout number) h = tt
told_refused db (store.NewerLayout number) h =
    newer_case (HasMetaNumber db) number (λ is. (subst (ShowsLayout db) is h.1, λ first. subst (NamesLayout db) is (h.2 first))) (λ other. (elim (cases_lt 2 number) [ inl up ↦ up | inr le ↦ absurd (other (omega (arith, h.0, le))) ], h.1, h.2))

-- `Disk` keeps its cause
pub told_cause : (old new : State) (e : StoreError) → failures.HasDiskCause old new e → HasDiskCause old new (migrate_error_of e)
told_cause old new store.Memory h = tt
told_cause old new store.Disk h = h
told_cause old new store.NotARegistry h = tt
told_cause old new (store.OldLayout number) h = tt
told_cause old new (store.NewerLayout number) h = newer_case (HasDiskCause old new) number (λ _. tt) (λ _. tt)

-- the number of a newer layout is reported
pub told_newer : (s : State) (e : StoreError) → ReportsOther 1 s e → ReportsNewer s (migrate_error_of e)
told_newer s e tells number is_open up holds names = elim (tells number is_open (record { holds = holds; names = names; other = λ is. absurd (omega (arith, up, is)) })) [
  | inl is ↦ inl (subst (λ e. IsErrorForLayout number (migrate_error_of e)) (sym is) (subst (λ b. IsErrorForLayout number (migrate_error_of (if b then store.OldLayout number else store.NewerLayout number))) (sym (le-ltb number 1 (omega (arith, up))))
      (newer_case (IsErrorForLayout number) number (λ two. two) (λ _. refl))))
  | inr fault ↦ inr (told_fault e fault)
]

-- a fault has no number
refused_if_fault : (db : Database) (e : MigrateError) → IsTrue (is_fault e) → HasMetaNumber db e
refused_if_fault db Memory h = tt
refused_if_fault db Disk h = tt
refused_if_fault db NotARegistry h = tt
refused_if_fault db AlreadyNew h = absurd (cc)
refused_if_fault db (NewerLayout number) h = absurd (cc)

-- for a registry in layout 1, `Memory` and `Disk` are right reasons
pub reason_if_fault : (old new : State) (e : MigrateError) → IsLayoutOneRegistry old.now → IsTrue (is_fault e) → IsReasonOver old new e
reason_if_fault old new e found is = record { fault = λ spells. is; disk_cause = inr found; meta_number = refused_if_fault old.now e is; newer = λ number is_open up holds names. inr is }

-- if a crash leaves no more than before, each error keeps the crash states
pub leaves_before : (old new : State) (e : MigrateError) → AddsNoCrashState old new → KeepsCrashStates old new e
leaves_before old new Memory h = inl h
leaves_before old new Disk h = tt
leaves_before old new NotARegistry h = h
leaves_before old new AlreadyNew h = h
leaves_before old new (NewerLayout number) h = h

-- if nothing was committed in between, a crash leaves only what the earlier state left
pub before_then : (a b c : State) (e : MigrateError) → AddsNoCrashState a b → a.faults ≤ b.faults → KeepsCrashStates b c e → KeepsCrashStates a c e
before_then a b c Memory same up (inl later) = inl (λ db it. same db (later db it))
before_then a b c Memory same up (inr more) = inr (omega (arith, up, more))
before_then a b c Disk same up h = tt
before_then a b c NotARegistry same up h = λ db it. same db (h db it)
before_then a b c AlreadyNew same up h = λ db it. same db (h db it)
before_then a b c (NewerLayout number) same up h = λ db it. same db (h db it)

-- the fault that closed the connection came before the migration
pub before_if_faulted : (old mid new : State) (e : MigrateError) → MoreFaults old.faults mid.faults → mid.faults ≤ new.faults → IsTrue (is_fault e) → KeepsCrashStates old new e
before_if_faulted old mid new Memory more up h = inr (omega (arith, more, up))
before_if_faulted old mid new Disk more up h = tt
before_if_faulted old mid new NotARegistry more up h = absurd (cc)
before_if_faulted old mid new AlreadyNew more up h = absurd (cc)
before_if_faulted old mid new (NewerLayout number) more up h = absurd (cc)

-- tables that spell a registry fail only because of memory or the disk
pub fault_over : (old new : State) (e : StoreError) → IsFaultOverLayoutOne old new e → IsMigrationFault old (migrate_error_of e)
fault_over old new e fault spells = told_fault e (fault_if_by old new e (go old.is_open refl))
  where
    go : (b : Bool) → old.is_open ≡ b → failures.IsFaultBy old new e
    go true is = let it = spells is in fault it.stored (λ _. it.spelled)
    go false shut = fault new_stored (λ is_open. absurd (both_ways _ shut is_open))
