-- The registry of a database, or why it has none.
use Rattle.std.specs.Prelude.{◌≡◌, ◌≢◌, ◌⊎◌, Option, Some, IsTrue}
use Rattle.sqlite.specs.Held.{Held, state}
use Rattle.sqlite.specs.State.{State, HasCleanDisk}
use Rattle.sqlite.specs.Tree.{Trees}
use Rattle.sqlite_trees.specs.declared.store.Store.{Ghosts}
use Rattle.reg_core.specs.Stored.{new_stored}
use Rattle.reg_tables.specs.Layout.{empty_schema}
use Rattle.reg_store.specs.declared.error.StoreError.{StoreError}
use Rattle.reg_store.specs.declared.error.StoreError.TheVariants.{Disk, NotARegistry}
use Rattle.reg_store.specs.Failures.{IsFaultBy}
use Rattle.reg_store.specs.Opening.{IsIndexed, CrashKeepsStored}
use Rattle.reg_store.specs.Spells.{IsOpenOver}
use Rattle.reg_store.specs.Stores.{KeepsConnection, connection_of}
use Rattle.reg_store.specs.OpenFailures.{IsOpenFailure}
use Rattle.reg_store.specs.declared.store.Store.{Store}
use Rattle.reg_service.specs.declared.service.Service.{Service}
use Rattle.reg_service.specs.Services.{store_in}

-- a connection is returned, and if its disk is clean, P is true of its state
pub record ReturnsConnection {S : Type 0} (g : Ghosts S) (returned : Option (Held S)) (P : State → Type 0) : Type 0 where
  pub connection : Held S
  pub given : returned ≡ Some connection
  pub holds : HasCleanDisk (state g connection) → P (state g connection)

-- A service over the store served, and then returned its connection. `Served` is true of the service before and after.
pub record RunsOnStore {S : Type 0} {g : Ghosts S} (store : Store S g) (returned : Held S) (Served : Service S g → Service S g → Type 0) : Type 0 where
  pub before : Service S g
  pub after : Service S g
  pub begins : store_in before ≡ store
  pub ends : returned ≡ connection_of (store_in after)
  pub served : Served before after

-- the database was empty, and its tables now spell a new registry, without kept replies or evidence
pub record IsCreatedIn (old new : State) : Type 0 where
  pub empty : ¬ (old.now.schema ≢ empty_schema)
  pub spells : IsOpenOver new new_stored

-- why no registry was created: the database isn't empty (`NotARegistry`), or an allocation or the disk failed. Nothing is committed, and a
-- crash leaves nothing new unless the disk failed
pub record FailsToCreate (old new : State) (error : StoreError) : Type 0 where
  pub full : old.now.schema ≢ empty_schema → error ≡ NotARegistry
  pub fault : old.now.schema ≡ empty_schema → IsFaultBy old new error
  pub leaves : KeepsConnection old new error

-- Why no registry was opened. If the tables spell one, an allocation or the disk failed. Another layout is reported with its number, unless
-- memory or the disk fails. `Disk` always has a disk fault as its cause. Nothing is committed. A crash leaves what it could leave before, or
-- the tables with their index; either way what they spelled.
pub record FailsToOpen (old new : State) (error : StoreError) : Type 0 where
  pub fails : IsOpenFailure old new error
  pub leaves : KeepsConnection old new error
  pub found : CrashKeepsStored old new
  pub crash : (db : Trees) → new.may_leave db → old.may_leave db ⊎ IsIndexed old.now db

-- a transaction was open, and the error is `Disk`; or no registry was created for the reasons of `FailsToCreate`
abbrev pub CreatesNone : State → State → StoreError → Type 0
CreatesNone old new error = (IsTrue old.in_transaction × (error ≡ Disk)) ⊎ FailsToCreate old new error

-- a transaction was open, and the error is `Disk`; or no registry was opened for the reasons of `FailsToOpen`
abbrev pub OpensNone : State → State → StoreError → Type 0
OpensNone old new error = (IsTrue old.in_transaction × (error ≡ Disk)) ⊎ FailsToOpen old new error
