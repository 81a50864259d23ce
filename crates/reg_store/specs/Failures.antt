-- Why a call of a store fails.
use Rattle.std.specs.Prelude.{Bool, true, false}
use Rattle.sqlite.specs.State.{State}
use Rattle.sqlite.specs.declared.error.Error.{Error}
use Rattle.sqlite.specs.declared.error.Error.TheVariants.{SqliteFailure}
use Rattle.sqlite.specs.declared.error.ErrorCode.TheVariants as code
use Rattle.sqlite_schema.specs.declared.schema.Constraint.TheVariants.{PrimaryKey}
use Rattle.reg_tables.specs.FailedCalls.{HasDiskFault}
use Rattle.reg_store.specs.declared.error.StoreError.{StoreError}
use Rattle.reg_store.specs.declared.error.StoreError.TheVariants.{Memory, Disk, NotARegistry, OldLayout, NewerLayout}
use Rattle.reg_core.specs.Stored.{Stored}
use Rattle.reg_store.specs.Spells.{SpellsWhileOpen}

-- SQLite, result codes: allocation failed; the disk failed or a limit of the file was reached; or any other error, such as a statement or a value that
-- doesn't fit the tables
abbrev pub failure_of : Error → StoreError
failure_of (SqliteFailure code.OutOfMemory) = Memory
failure_of (SqliteFailure code.SystemIoFailure) = Disk
failure_of (SqliteFailure code.DatabaseCorrupt) = Disk
failure_of (SqliteFailure code.DiskFull) = Disk
failure_of (SqliteFailure code.TooBig) = Disk
failure_of (SqliteFailure code.NoRowid) = Disk
failure_of (SqliteFailure code.Closed) = Disk
-- SQLite chose a rowid that a row already has. In a file whose rows are in the order of their rowids this can't happen: the file is damaged
failure_of (SqliteFailure (code.ConstraintViolation PrimaryKey)) = Disk
failure_of _ = NotARegistry

-- this project's choice: memory or the disk
abbrev pub is_fault : StoreError → Bool
is_fault Memory = true
is_fault Disk = true
is_fault _ = false

-- this project's choice: the error is `Memory`, or it is `Disk` and a disk fault is the cause
abbrev pub IsFaultBy : State → State → StoreError → Type 0
IsFaultBy old new Memory = Unit {0}
IsFaultBy old new Disk = HasDiskFault old new
IsFaultBy old new _ = ⊥

-- this project's choice: if the error is `Disk`, a disk fault is the cause
abbrev pub HasDiskCause : State → State → StoreError → Type 0
HasDiskCause old new Disk = HasDiskFault old new
HasDiskCause old new _ = Unit {0}

-- this project's choice: the error has no layout number
abbrev pub HasNoLayoutNumber : StoreError → Type 0
HasNoLayoutNumber (OldLayout number) = ⊥
HasNoLayoutNumber (NewerLayout number) = ⊥
HasNoLayoutNumber _ = Unit {0}

-- this project's choice: if the connection was closed, or the tables spelled a registry, only failed allocation or a disk fault is the cause
abbrev pub IsFaultOver : State → State → StoreError → Type 0
IsFaultOver old new e = (was : Stored) → SpellsWhileOpen old was → IsFaultBy old new e
