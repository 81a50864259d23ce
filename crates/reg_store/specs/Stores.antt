-- A store's connection, and what each call keeps of it.
use Rattle.std.specs.Prelude.{◌≡◌, ◌⊎◌, ◌↔◌, ◌≤◌, Bool, false, IsTrue, Result, Err, OnOk, MatchResult}
use Rattle.reg_tables.specs.Layout.{empty_schema}
use Rattle.reg_tables.specs.Reads.{OnlyReads}
use Rattle.sqlite_disk.specs.Disk.{MoreFaults}
use Rattle.sqlite.specs.Held.{Held, state}
use Rattle.sqlite.specs.Tree.{Trees}
use Rattle.sqlite.specs.State.{State, HasCleanDisk}
use Rattle.sqlite_trees.specs.declared.store.Store.{Ghosts}
use Rattle.reg_store.specs.declared.error.StoreError.{StoreError}
use Rattle.reg_store.specs.declared.error.StoreError.TheVariants.{Memory, Disk}
use Rattle.reg_store.specs.declared.store.Store.{Store}
use Rattle.reg_store.specs.Failures.{IsFaultBy}
use Rattle.reg_core.specs.Stored.{Stored}
use Rattle.reg_store.specs.Spells.{SpellsWhileOpen}

-- SQLite, connections: the store's connection
abbrev pub connection_of : {S : Type 0} {g : Ghosts S} → Store S g → Held S
connection_of store = store.db.idle.conn

-- SQLite, transactions: the state of the store's connection
abbrev pub state_of : {S : Type 0} {g : Ghosts S} → Store S g → State
state_of {S} {g} store = state g (connection_of store)

-- this project's choice: the store has returned `Disk`
abbrev pub has_failed : {S : Type 0} {g : Ghosts S} → Store S g → Bool
has_failed store = store.failed

-- SQLite, transactions: while the connection is open, a crash leaves only its last commit
abbrev pub RecoversLastCommit : State → Type 0
RecoversLastCommit s = IsTrue s.is_open → (db : Trees) → s.may_leave db → db ≡ s.committed.trees

-- SQLite, transactions: a crash leaves only what it could leave before
abbrev pub AddsNoCrashState : State → State → Type 0
AddsNoCrashState old new = (db : Trees) → new.may_leave db → old.may_leave db

-- This project's choice: after an error other than `Disk`, a crash leaves only what it could leave before, unless the disk failed together with an
-- allocation.
abbrev pub KeepsCrashStates : State → State → StoreError → Type 0
KeepsCrashStates old new Disk = Unit {0}
KeepsCrashStates old new Memory = AddsNoCrashState old new ⊎ MoreFaults old.faults new.faults
KeepsCrashStates old new _ = AddsNoCrashState old new

-- SQLite, connections: the count of faults never falls; the tests of what the disk returns stay in place (`IsShielded`); on a clean disk, a closed
-- connection stays closed, and only a disk fault closes one
pub record KeepsOpen (old new : State) : Type 0 where
  pub counts : old.faults ≤ new.faults
  pub shield : old.IsShielded → new.IsShielded
  pub stays_closed : HasCleanDisk new → IsTrue new.is_open → IsTrue old.is_open
  pub closes : HasCleanDisk new → IsTrue old.is_open → IsTrue new.is_open ⊎ MoreFaults old.faults new.faults

-- This project's choice: what a failed call leaves of the connection that it returns. The tests of what the disk returns stay in place. On a clean
-- disk, nothing has changed. If the connection was open too, a crash leaves what `KeepsCrashStates` allows, and only a disk fault closes it.
pub record KeepsConnection (old new : State) (e : StoreError) : Type 0 where
  pub shield : old.IsShielded → new.IsShielded
  pub nothing : HasCleanDisk new → OnlyReads old new
  pub before : HasCleanDisk new → IsTrue old.is_open → KeepsCrashStates old new e
  pub closes : HasCleanDisk new → IsTrue old.is_open → IsTrue new.is_open ⊎ MoreFaults old.faults new.faults
  pub settled : RecoversLastCommit new

-- This project's choice: why `create` fails, and what it leaves, if the disk has returned what was written (`HasCleanDisk`). In an empty database,
-- memory or a disk fault is the cause. A crash leaves what it could leave before, or the new registry.
pub record IsCreateFailure (RecoversToNew : Trees → Type 0) (old new : State) (e : StoreError) : Type 0 where
  pub fault : HasCleanDisk new → old.now.schema ≡ empty_schema → IsFaultBy old new e
  pub leaves : KeepsConnection old new e
  pub crash : HasCleanDisk new → (db : Trees) → new.may_leave db → old.may_leave db ⊎ RecoversToNew db

-- this project's choice: what each call of a store keeps, for every result
pub record KeepsStore {S T : Type 0} {g : Ghosts S} (old new : Store S g) (result : Result T StoreError) : Type 0 where
  -- once the store has failed, a call does nothing
  pub failed_before : IsTrue (has_failed old) → (result ≡ Err Disk) × (new ≡ old)
  pub failed_now : (result ≡ Err Disk) ↔ IsTrue (has_failed new)
  pub clean : HasCleanDisk (state_of new) → HasCleanDisk (state_of old)
  -- on a clean disk, a call succeeds only over an open connection
  pub was_open : HasCleanDisk (state_of new) → OnOk result (IsTrue (state_of old).is_open)
  pub connection : KeepsOpen (state_of old) (state_of new)
  pub settled : RecoversLastCommit (state_of new)

-- This project's choice: what `Lines::next`, and `Store::line_after` for it, keep of the store that the lines borrow, for every result. Unlike
-- in `KeepsStore`, the store's failure flag never changes.
pub record LinesKeepStore {S T : Type 0} {g : Ghosts S} (old new : Store S g) (result : Result T StoreError) : Type 0 where
  -- the store's flag stays: only the lines remember a disk fault
  pub failed : has_failed new ≡ has_failed old
  pub clean : HasCleanDisk (state_of new) → HasCleanDisk (state_of old)
  -- on a clean disk, a call succeeds only over an open connection
  pub was_open : HasCleanDisk (state_of new) → OnOk result (IsTrue (state_of old).is_open)
  pub connection : KeepsOpen (state_of old) (state_of new)
  pub settled : RecoversLastCommit (state_of new)

-- this project's choice: while the connection is open, the tables still spell what they spelled
abbrev pub StillSpells : State → State → Type 0
StillSpells old new = (was : Stored) → SpellsWhileOpen old was → SpellsWhileOpen new was

-- This project's choice: what a call that only reads returns and leaves. If the tables spell a stored state while the connection is open, `Ok` has
-- facts about it. If the store `WasUsable` too, `Err` is a fault.
pub record AnswersFromStored {T : Type 0} (old new : State) (WasUsable : Type 0) (result : Result T StoreError) (IsAnswer : Stored → T → Type 0) : Type 0 where
  pub answers : (was : Stored) → SpellsWhileOpen old was → MatchResult result (IsAnswer was) (λ e. WasUsable → IsFaultBy old new e)
  pub same : StillSpells old new
  pub crash : AddsNoCrashState old new

-- this project's choice: what each call that only reads keeps and returns
pub record ReadsStore {S T : Type 0} {g : Ghosts S} (old new : Store S g) (result : Result T StoreError) (IsAnswer : Stored → T → Type 0) : Type 0 where
  pub frame : KeepsStore old new result
  pub tells : HasCleanDisk (state_of new) → AnswersFromStored (state_of old) (state_of new) (has_failed old ≡ false) result IsAnswer
