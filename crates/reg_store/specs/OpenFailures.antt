-- Why `Store::open` and `check_first` fail.
use Rattle.std.specs.Prelude.{IsTrue}
use Rattle.sqlite.specs.State.{State}
use Rattle.reg_core.specs.Stored.{Stored}
use Rattle.reg_store.specs.declared.error.StoreError.{StoreError}
use Rattle.reg_store.specs.Failures.{IsFaultBy, HasDiskCause}
use Rattle.reg_store.specs.Opening.{HasMetaNumberOf, ReportsOther, HasMetaNumber, ReportsLayout}
use Rattle.reg_store.specs.Spells.{SpellsLayoutOne, SpellsUnopened}

-- if the connection was closed, or the tables spelled a registry in layout 2, only failed allocation or a disk fault is the cause
abbrev pub IsFaultOverLayoutTwo : State → State → StoreError → Type 0
IsFaultOverLayoutTwo old new e = (was : Stored) → (IsTrue old.is_open → SpellsUnopened old.now was) → IsFaultBy old new e

-- if the connection was closed, or the tables spelled a registry in layout 1, only failed allocation or a disk fault is the cause
abbrev pub IsFaultOverLayoutOne : State → State → StoreError → Type 0
IsFaultOverLayoutOne old new e = (was : Stored) → (IsTrue old.is_open → SpellsLayoutOne old.now was) → IsFaultBy old new e

-- This project's choice: why `open` fails. In any database `Disk` has a disk fault as its cause, and a number comes from the rows of `meta`. A
-- registry in layout 2 fails to open only because of memory or the disk. For another layout (`HasOtherLayout`), the error has its number, or it is
-- `Memory` or `Disk`.
pub record IsOpenFailure (old new : State) (e : StoreError) : Type 0 where
  pub fault : IsFaultOverLayoutTwo old new e
  pub disk_cause : HasDiskCause old new e
  pub meta_number : HasMetaNumber old.now e
  pub other : ReportsLayout old e

-- this project's choice: why `check_first` fails, in the same way for layout 1
pub record IsCheckFailure (old new : State) (e : StoreError) : Type 0 where
  pub fault : IsFaultOverLayoutOne old new e
  pub disk_cause : HasDiskCause old new e
  pub meta_number : HasMetaNumberOf 1 old.now e
  pub other : ReportsOther 1 old e
