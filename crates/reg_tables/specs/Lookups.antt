-- What a call that reads the tables returns.
use Rattle.std.specs.Prelude.{◌⊎◌, List, Result, Vec, IfOk, IfErr}
use Rattle.std.specs.declared.alloc.Global.{Global}
use Rattle.sqlite.specs.Effect.{Database}
use Rattle.sqlite.specs.Schema.{Schema}
use Rattle.sqlite.specs.State.{State, HasCleanDisk}
use Rattle.sqlite_trees.specs.declared.store.Store.{Ghosts}
use Rattle.sqlite.specs.declared.error.Error.{Error}
use Rattle.reg_tables.specs.declared.autocommit.AutocommitConnection.{AutocommitConnection}
use Rattle.reg_tables.specs.Contents.{TableName, HasTable, Contents, HoldsContents}
use Rattle.reg_tables.specs.Frames.{conn_state, ReadsInAutocommit}
use Rattle.reg_tables.specs.Reads.{CanBeReadIn, HasTablesIn}
use Rattle.reg_tables.specs.FailedCalls.{IsFault, IsUnreadable}

-- On a clean disk, a call that reads this table commits nothing. If the schema has this table and the tables have some contents, an Ok is right for them.
-- An Err is a fault if the connection was closed, or if the schema has this table and the contents of all tables are readable.
pub record ReadsTable {S X : Type 0} {g : Ghosts S} (name : TableName) (old new : AutocommitConnection S g) (result : Result X Error) (IsRightFor : Contents → X → Type 0) : Type 0 where
  pub frame : ReadsInAutocommit g old.conn new.conn result
  pub found : HasCleanDisk (conn_state new) → IfOk result (λ x. (schema : Schema) → HasTable name schema → (contents : Contents) → HoldsContents schema (conn_state old).now contents → IsRightFor contents x)
  pub fault : HasCleanDisk (conn_state new) → IfErr result (λ e. CanBeReadIn (HasTable name) (conn_state old) → IsFault (conn_state old) (conn_state new) e)

-- On a clean disk, a call that lists a table commits nothing. If the table is declared, an Ok is right for the database. An Err is a fault if the
-- connection was closed or the table is readable. An Err is a fault or an unreadable row if the connection was closed or the table is declared.
pub record ListsTable {S L : Type 0} {g : Ghosts S} (old new : AutocommitConnection S g) (result : Result (Vec L Global) Error) (IsDeclared : Schema → Type 0) (IsReadable : State → Type 0) (IsRightFor : Database → List L → Type 0) : Type 0 where
  pub frame : ReadsInAutocommit g old.conn new.conn result
  pub listed : HasCleanDisk (conn_state new) → IfOk result (λ lines. IsDeclared (conn_state old).now.schema → IsRightFor (conn_state old).now lines.items)
  pub fault : HasCleanDisk (conn_state new) → IfErr result (λ e. IsReadable (conn_state old) → IsFault (conn_state old) (conn_state new) e)
  pub fault_or_unreadable : HasCleanDisk (conn_state new) → IfErr result (λ e. HasTablesIn IsDeclared (conn_state old) → IsFault (conn_state old) (conn_state new) e ⊎ IsUnreadable e)
