-- How a call that writes changes the tables.
use Rattle.std.specs.Prelude.{◌≡◌, Result, OnOk, IfErr}
use Rattle.sqlite.specs.Schema.{Schema}
use Rattle.sqlite.specs.State.{State, HasCleanDisk}
use Rattle.sqlite.specs.Effect.{Database}
use Rattle.sqlite.specs.declared.error.Error.{Error}
use Rattle.sqlite.specs.declared.transaction.Transaction.{Transaction}
use Rattle.sqlite_trees.specs.declared.store.Store.{Ghosts}
use Rattle.reg_tables.specs.Layout.{empty_schema, IsIndexedLayoutTwo}
use Rattle.reg_tables.specs.Contents.{Contents, HoldsContents}
use Rattle.reg_tables.specs.Frames.{state_in, RunsInTransaction}

-- ---- in layout 2 with its index

-- If the tables have contents in layout 2 with its index, `P` is true of them. Otherwise this says nothing.
abbrev pub ForHeldContents : State → (Contents → Type 0) → Type 0
ForHeldContents s P = (schema : Schema) → IsIndexedLayoutTwo schema → (contents : Contents) → HoldsContents schema s.now contents → P contents

-- if the tables had contents in layout 2 with its index that satisfied `Was`, they now have the changed contents, in the same schema
abbrev pub ChangesIf : State → State → (Contents → Type 0) → (Contents → Contents) → Type 0
ChangesIf old new Was change = (schema : Schema) → IsIndexedLayoutTwo schema → (contents : Contents) → HoldsContents schema old.now contents → Was contents → HoldsContents schema new.now (change contents)

-- if the tables had some contents in layout 2 with its index, they now have the changed contents, in the same schema
abbrev pub Changes : State → State → (Contents → Contents) → Type 0
Changes old new change = (schema : Schema) → IsIndexedLayoutTwo schema → (contents : Contents) → HoldsContents schema old.now contents → HoldsContents schema new.now (change contents)

-- A call inside a transaction. After an Ok the contents are changed by `change`; an Err is a failure of this kind.
pub record AppliesChange {S X : Type 0} (IsFailure : State → State → Error → Type 0) (g : Ghosts S) (old new : Transaction S) (result : Result X Error) (change : Contents → Contents) : Type 0 where
  pub frame : RunsInTransaction g old new result
  pub changed : HasCleanDisk (state_in g new) → OnOk result (Changes (state_in g old) (state_in g new) change)
  pub fault : HasCleanDisk (state_in g new) → IfErr result (λ e. ForHeldContents (state_in g old) (λ contents. IsFailure (state_in g old) (state_in g new) e))

-- ---- in any database

-- A call inside a transaction. If the old database satisfied `From`, the new one satisfies `To` after an Ok, and an Err is a failure of this kind.
pub record Transforms {S X I : Type 0} (IsFailure : State → State → Error → Type 0) (g : Ghosts S) (old new : Transaction S) (result : Result X Error) (From To : I → Database → Type 0) : Type 0 where
  pub frame : RunsInTransaction g old new result
  pub made : HasCleanDisk (state_in g new) → OnOk result ((about : I) → From about (state_in g old).now → To about (state_in g new).now)
  pub fault : HasCleanDisk (state_in g new) → IfErr result (λ e. (about : I) → From about (state_in g old).now → IsFailure (state_in g old) (state_in g new) e)

-- the database has no table, index or view
abbrev pub IsEmpty : Unit {0} → Database → Type 0
IsEmpty _ db = db.schema ≡ empty_schema

-- the database has this schema and these contents
abbrev pub Holding : Schema → Contents → Database → Type 0
Holding schema contents db = HoldsContents schema db contents
