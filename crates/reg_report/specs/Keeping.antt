-- What a listing keeps of its store.
use Rattle.std.specs.Prelude.{◌≡◌, IsTrue, Result, OnOk}
use Rattle.sqlite.specs.State.{HasCleanDisk}
use Rattle.sqlite_trees.specs.declared.store.Store.{Ghosts}
use Rattle.reg_store.specs.declared.store.Store.{Store}
use Rattle.reg_store.specs.Stores.{state_of, has_failed, KeepsOpen, RecoversLastCommit}
use Rattle.reg_report.specs.declared.error.ReportError.{ReportError}

-- This project's choice: what a listing keeps, for every result. If a disk fault ends the listing, the store doesn't record a failure.
pub record PreservesListed {S T : Type 0} {g : Ghosts S} (old new : Store S g) (result : Result T ReportError) : Type 0 where
  pub failed : has_failed new ≡ has_failed old
  pub clean : HasCleanDisk (state_of new) → HasCleanDisk (state_of old)
  -- it succeeds only over an open connection
  pub was_open : HasCleanDisk (state_of new) → OnOk result (IsTrue (state_of old).is_open)
  pub connection : KeepsOpen (state_of old) (state_of new)
  pub settled : RecoversLastCommit (state_of new)
