-- Why a read of tables that spell a registry fails.
use Rattle.std.proofs.Common.{◌≡◌, ◌≤◌, ◌⊎◌, ℕ, inl, inr, None, Ok, Err, Result, IsTrue, refl, sym, subst}
use Rattle.std.specs.Prelude.{IfErr, IsErrAnd, IsSome}
use Rattle.sqlite.specs.declared.error.Error.{Error}
use Rattle.sqlite.specs.declared.error.Error.TheVariants.{SqliteFailure, SqlInputError, InvalidParameterCount, ExecuteReturnedResults, InvalidQuery, MultipleStatement, QueryReturnedNoRows, InvalidColumnIndex, InvalidColumnType, IntegralValueOutOfRange, Utf8Error}
use Rattle.sqlite.specs.declared.error.ErrorCode.{ErrorCode}
use Rattle.sqlite.specs.declared.error.ErrorCode.TheVariants.{ConstraintViolation, TypeMismatch, IntegerOverflow, NoRowid, ForeignKeyMismatch, TooDeep, NoClock, NameTaken, BadName, BadKey, BadText, SchemaTooBig, TransactionState, NoSuchSavepoint, OperationInterrupted, NotADatabase, DatabaseCorrupt, CannotOpen, DatabaseBusy, TooBig, OutOfMemory, SystemIoFailure, DiskFull, Closed}
use Rattle.sqlite_schema.specs.declared.schema.Constraint.TheVariants.{Datatype, NotNull, Check, PrimaryKey, Unique, ForeignKey}
use Rattle.sqlite.specs.Effect.{Database}
use Rattle.sqlite.specs.State.{State, store_error}
use Rattle.sqlite_trees.specs.declared.error.StoreError as trees
use Rattle.sqlite_trees.specs.declared.error.StoreError.TheVariants as stored
use Rattle.sqlite_disk.specs.Disk.{MoreFaults}
use Rattle.reg_tables.specs.FailedCalls.{HasDiskFault, HasReason, IsFault, IsRefused, IsUnreadable}
use Rattle.reg_tables.proofs.Reasons.{fault_until, fault_since}
use Rattle.reg_store.specs.declared.error.StoreError.{StoreError}
use Rattle.reg_store.specs.declared.error.StoreError.TheVariants.{Memory, Disk, NotARegistry, OldLayout, NewerLayout}
use Rattle.reg_store.specs.Failures.{failure_of, is_fault, IsFaultBy, HasDiskCause, HasNoLayoutNumber}
use Rattle.reg_store.specs.Opening.{HasMetaNumberOf}

pub fault_if_by : (old new : State) (e : StoreError) → IsFaultBy old new e → IsTrue (is_fault e)
fault_if_by old new Memory h = refl
fault_if_by old new Disk h = refl
fault_if_by old new NotARegistry h = absurd h
fault_if_by old new (OldLayout number) h = absurd h
fault_if_by old new (NewerLayout number) h = absurd h

-- the store's error for a failed call
pub fault_by : (old new : State) (e : Error) → old.step_limit ≡ None → IsFault old new e → IsFaultBy old new (failure_of e)
fault_by old new e unlimited (inl store) = subst (λ x. IsFaultBy old new (failure_of x)) (sym store.1) (go store.0 store.2)
  where
    go : (cause : trees.StoreError) → HasReason old new cause → IsFaultBy old new (failure_of (store_error cause))
    go stored.OutOfMemory h = tt
    go stored.Io h = h
    go stored.Corrupt h = h
    go stored.Full h = h
    go stored.Broken h = h
    go stored.Unstorable h = h
fault_by old new e unlimited (inr stopped) = absurd (let none = subst IsSome unlimited stopped.1 in cc)

-- facts about disk faults carry over to other states
by_fault : (a b c d : State) → (HasDiskFault a b → HasDiskFault c d) → (e : StoreError) → IsFaultBy a b e → IsFaultBy c d e
by_fault a b c d f Memory h = tt
by_fault a b c d f Disk h = f h
by_fault a b c d f NotARegistry h = h
by_fault a b c d f (OldLayout number) h = h
by_fault a b c d f (NewerLayout number) h = h

-- a fault also counts for later states
pub by_until : (old mid new : State) → mid.faults ≤ new.faults → (e : StoreError) → IsFaultBy old mid e → IsFaultBy old new e
by_until old mid new up = by_fault old mid old new (fault_until old mid new up)

-- the cause of a later call's error lies after the earlier state
pub by_since : (a b c : State) → (IsTrue a.is_open → IsTrue b.is_open ⊎ MoreFaults a.faults b.faults) → a.faults ≤ b.faults → b.faults ≤ c.faults → (e : StoreError) → IsFaultBy b c e → IsFaultBy a c e
by_since a b c closes up on = by_fault b c a c (fault_since a b c closes up on)

pub disk_cause_if_by : (old new : State) (e : StoreError) → IsFaultBy old new e → HasDiskCause old new e
disk_cause_if_by old new Memory h = tt
disk_cause_if_by old new Disk h = h
disk_cause_if_by old new NotARegistry h = tt
disk_cause_if_by old new (OldLayout number) h = tt
disk_cause_if_by old new (NewerLayout number) h = tt

pub plain_if_by : (old new : State) (e : StoreError) → IsFaultBy old new e → HasNoLayoutNumber e
plain_if_by old new Memory h = tt
plain_if_by old new Disk h = tt
plain_if_by old new NotARegistry h = absurd h
plain_if_by old new (OldLayout number) h = absurd h
plain_if_by old new (NewerLayout number) h = absurd h

-- an unreadable row isn't reported as `Disk`
pub disk_cause_by : (old new : State) (e : Error) → old.step_limit ≡ None → IsFault old new e ⊎ IsUnreadable e → HasDiskCause old new (failure_of e)
disk_cause_by old new e unlimited (inl fault) = disk_cause_if_by old new (failure_of e) (fault_by old new e unlimited fault)
disk_cause_by old new e unlimited (inr unread) = go e unread
  where
    go : (e : Error) → IsUnreadable e → HasDiskCause old new (failure_of e)
    go (InvalidColumnIndex at) h = tt
    go (InvalidColumnType at type) h = tt
    go (IntegralValueOutOfRange at) h = tt
    go (Utf8Error at) h = tt
    go (SqliteFailure code) h = absurd h
    go (SqlInputError e) h = absurd h
    go (InvalidParameterCount a b) h = absurd h
    go ExecuteReturnedResults h = absurd h
    go InvalidQuery h = absurd h
    go MultipleStatement h = absurd h
    go QueryReturnedNoRows h = absurd h

-- nor is a rejected statement reported as `Disk`
pub disk_cause_anywhere : (old new : State) (e : Error) → old.step_limit ≡ None → IsFault old new e ⊎ (IsRefused e ⊎ IsUnreadable e) → HasDiskCause old new (failure_of e)
disk_cause_anywhere old new e unlimited (inl fault) = disk_cause_by old new e unlimited (inl fault)
disk_cause_anywhere old new e unlimited (inr (inr unread)) = disk_cause_by old new e unlimited (inr unread)
disk_cause_anywhere old new e unlimited (inr (inl refused)) = go e refused
  where
    by_code : (kind : ErrorCode) → IsRefused (SqliteFailure kind) → HasDiskCause old new (failure_of (SqliteFailure kind))
    by_code (ConstraintViolation Datatype) h = absurd h
    by_code (ConstraintViolation NotNull) h = absurd h
    by_code (ConstraintViolation Check) h = absurd h
    by_code (ConstraintViolation PrimaryKey) h = absurd h
    by_code (ConstraintViolation Unique) h = absurd h
    by_code (ConstraintViolation ForeignKey) h = absurd h
    by_code TypeMismatch h = tt
    by_code IntegerOverflow h = tt
    by_code NoRowid h = absurd h
    by_code ForeignKeyMismatch h = absurd h
    by_code TooDeep h = absurd h
    by_code NoClock h = tt
    by_code NameTaken h = absurd h
    by_code BadName h = absurd h
    by_code BadKey h = absurd h
    by_code BadText h = absurd h
    by_code SchemaTooBig h = absurd h
    by_code TransactionState h = absurd h
    by_code NoSuchSavepoint h = absurd h
    by_code OperationInterrupted h = absurd h
    by_code NotADatabase h = absurd h
    by_code DatabaseCorrupt h = absurd h
    by_code CannotOpen h = absurd h
    by_code DatabaseBusy h = absurd h
    by_code TooBig h = absurd h
    by_code OutOfMemory h = absurd h
    by_code SystemIoFailure h = absurd h
    by_code DiskFull h = absurd h
    by_code Closed h = absurd h

    go : (e : Error) → IsRefused e → HasDiskCause old new (failure_of e)
    go (SqliteFailure kind) h = by_code kind h
    go (SqlInputError fault) h = tt
    go MultipleStatement h = tt
    go (InvalidParameterCount a b) h = tt
    go InvalidQuery h = tt
    go ExecuteReturnedResults h = absurd h
    go QueryReturnedNoRows h = absurd h
    go (InvalidColumnIndex at) h = absurd h
    go (InvalidColumnType at type) h = absurd h
    go (IntegralValueOutOfRange at) h = absurd h
    go (Utf8Error at) h = absurd h

pub disk_cause_since : (a b c : State) → (IsTrue a.is_open → IsTrue b.is_open ⊎ MoreFaults a.faults b.faults) → a.faults ≤ b.faults → b.faults ≤ c.faults → (e : StoreError) → HasDiskCause b c e → HasDiskCause a c e
disk_cause_since a b c closes up on Memory h = tt
disk_cause_since a b c closes up on Disk h = fault_since a b c closes up on h
disk_cause_since a b c closes up on NotARegistry h = tt
disk_cause_since a b c closes up on (OldLayout number) h = tt
disk_cause_since a b c closes up on (NewerLayout number) h = tt

pub passed : {X : Type 0} (P : StoreError → Type 0) (r : Result X StoreError) (first : StoreError) → IsErrAnd r (λ e. e ≡ first) → P first → IfErr r P
passed P (Ok x) first is h = tt
passed P (Err e) first is h = subst P (sym is) h

-- the same, and the result is an error
pub failure_passed : {X : Type 0} (P : StoreError → Type 0) (r : Result X StoreError) (first : StoreError) → IsErrAnd r (λ e. e ≡ first) → P first → IsErrAnd r P
failure_passed P (Ok x) first is h = is
failure_passed P (Err e) first is h = subst P (sym is) h

pub if_err_each : {X E : Type 0} {P : E → Type 0} (r : Result X E) → ((e : E) → P e) → IfErr r P
if_err_each (Ok x) f = tt
if_err_each (Err e) f = f e

pub numberless : (e : Error) → HasNoLayoutNumber (failure_of e)
numberless (SqliteFailure code) = go code
  where
    go : (code : ErrorCode) → HasNoLayoutNumber (failure_of (SqliteFailure code))
    go (ConstraintViolation Datatype) = tt
    go (ConstraintViolation NotNull) = tt
    go (ConstraintViolation Check) = tt
    go (ConstraintViolation PrimaryKey) = tt
    go (ConstraintViolation Unique) = tt
    go (ConstraintViolation ForeignKey) = tt
    go TypeMismatch = tt
    go IntegerOverflow = tt
    go NoRowid = tt
    go ForeignKeyMismatch = tt
    go TooDeep = tt
    go NoClock = tt
    go NameTaken = tt
    go BadName = tt
    go BadKey = tt
    go BadText = tt
    go SchemaTooBig = tt
    go TransactionState = tt
    go NoSuchSavepoint = tt
    go OperationInterrupted = tt
    go NotADatabase = tt
    go DatabaseCorrupt = tt
    go CannotOpen = tt
    go DatabaseBusy = tt
    go TooBig = tt
    go OutOfMemory = tt
    go SystemIoFailure = tt
    go DiskFull = tt
    go Closed = tt
numberless (SqlInputError e) = tt
numberless (InvalidParameterCount a b) = tt
numberless ExecuteReturnedResults = tt
numberless InvalidQuery = tt
numberless MultipleStatement = tt
numberless QueryReturnedNoRows = tt
numberless (InvalidColumnIndex at) = tt
numberless (InvalidColumnType at type) = tt
numberless (IntegralValueOutOfRange at) = tt
numberless (Utf8Error at) = tt

pub number_if_plain : (own : ℕ) (db : Database) (e : StoreError) → HasNoLayoutNumber e → HasMetaNumberOf own db e
number_if_plain own db Memory plain = tt
number_if_plain own db Disk plain = tt
number_if_plain own db NotARegistry plain = tt
number_if_plain own db (OldLayout number) plain = absurd plain
number_if_plain own db (NewerLayout number) plain = absurd plain
