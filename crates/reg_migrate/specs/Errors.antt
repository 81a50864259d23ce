-- Why `migrate` fails, and what it leaves then. (Everything here is this project's choice.)
use Rattle.std.specs.Prelude.{◌≡◌, ◌⊎◌, ◌<◌, ◌==◌, ℕ, Bool, true, false, IsTrue, Result, IfErr, OnErr, if◌then◌else◌}
use Rattle.sqlite_disk.specs.Disk.{MoreFaults}
use Rattle.sqlite.specs.Effect.{Database}
use Rattle.sqlite.specs.State.{State, HasCleanDisk}
use Rattle.reg_tables.specs.Layout.{HasFiveTables}
use Rattle.reg_tables.specs.Reads.{HasReadableMeta, OnlyReads}
use Rattle.reg_tables.specs.FailedCalls.{HasDiskFault}
use Rattle.reg_store.specs.declared.error.StoreError.{StoreError}
use Rattle.reg_store.specs.declared.error.StoreError.TheVariants as store
use Rattle.reg_store.specs.Opening.{NamesLayout, ShowsLayout}
use Rattle.reg_store.specs.Stores.{RecoversLastCommit, AddsNoCrashState}
use Rattle.reg_migrate.specs.declared.error.MigrateError.{MigrateError}
use Rattle.reg_migrate.specs.declared.error.MigrateError.TheVariants.{Memory, Disk, NotARegistry, AlreadyNew, NewerLayout}

-- The error of `migrate` for a store's error. `check_first` reports layout 2 as newer. `OldLayout` never occurs, as no layout is below 1.
abbrev pub migrate_error_of : StoreError → MigrateError
migrate_error_of store.Memory = Memory
migrate_error_of store.Disk = Disk
migrate_error_of store.NotARegistry = NotARegistry
migrate_error_of (store.OldLayout number) = NotARegistry
migrate_error_of (store.NewerLayout number) = if number == 2 then AlreadyNew else NewerLayout number

-- the error is `Memory` or `Disk`
abbrev pub is_fault : MigrateError → Bool
is_fault Memory = true
is_fault Disk = true
is_fault _ = false

-- if the error is `Disk`, a disk fault is the cause
abbrev pub HasDiskCause : State → State → MigrateError → Type 0
HasDiskCause old new Disk = HasDiskFault old new
HasDiskCause old new _ = Unit {0}

-- if the error is `AlreadyNew`, `meta` names layout 2; if it is `NewerLayout`, `meta` names a layout above 2 with the error's number
abbrev pub HasMetaNumber : Database → MigrateError → Type 0
HasMetaNumber db AlreadyNew = ShowsLayout db 2 × (HasFiveTables db.schema → NamesLayout db 2)
HasMetaNumber db (NewerLayout number) = (2 < number) × ShowsLayout db number × (HasFiveTables db.schema → NamesLayout db number)
HasMetaNumber db _ = Unit {0}

-- the error reports the layout with this number: `AlreadyNew` reports 2, `NewerLayout` its own number, and other errors none
abbrev pub IsErrorForLayout : ℕ → MigrateError → Type 0
IsErrorForLayout number AlreadyNew = number ≡ 2
IsErrorForLayout number (NewerLayout told) = told ≡ number
IsErrorForLayout number _ = ⊥

-- Let the database begin with the five tables, and let `meta` be readable and name a layout above 1. Then the error reports that layout, or it is
-- `Memory` or `Disk`. The other rows don't matter.
abbrev pub ReportsNewer : State → MigrateError → Type 0
ReportsNewer s e = (number : ℕ) → IsTrue s.is_open → 1 < number → HasReadableMeta s.now → NamesLayout s.now number → IsErrorForLayout number e ⊎ IsTrue (is_fault e)

-- after an error other than `Disk`, a crash leaves only what it could leave before, unless the disk failed together with an allocation
abbrev pub KeepsCrashStates : State → State → MigrateError → Type 0
KeepsCrashStates old new Disk = Unit {0}
KeepsCrashStates old new Memory = AddsNoCrashState old new ⊎ MoreFaults old.faults new.faults
KeepsCrashStates old new _ = AddsNoCrashState old new

-- What `migrate` keeps of the connection, for every result. The tests of what the disk returns stay in place (`IsShielded`). On a clean disk,
-- nothing has changed after an error. If the connection was open too, a crash after an error leaves what `KeepsCrashStates` allows, and only a disk
-- fault closes the connection.
pub record MigrationKeeps {T : Type 0} (old new : State) (result : Result T MigrateError) : Type 0 where
  pub shield : old.IsShielded → new.IsShielded
  pub nothing : HasCleanDisk new → OnErr result (OnlyReads old new)
  pub before : HasCleanDisk new → IfErr result (λ e. IsTrue old.is_open → KeepsCrashStates old new e)
  pub closes : HasCleanDisk new → IsTrue old.is_open → IsTrue new.is_open ⊎ MoreFaults old.faults new.faults
  pub settled : RecoversLastCommit new
