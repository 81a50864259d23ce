-- What every call keeps, for every result.
use Rattle.std.specs.Prelude.{◌≡◌, ◌⊎◌, IsTrue, Result, OnOk, IfErr, true}
use Rattle.sqlite.specs.declared.transaction.Transaction.{Transaction}
use Rattle.sqlite.specs.Held.{Held, state}
use Rattle.sqlite.specs.State.{State, HasCleanDisk, Survives, KeepsCommit}
use Rattle.sqlite_trees.specs.declared.store.Store.{Ghosts}
use Rattle.sqlite.specs.declared.error.Error.{Error}
use Rattle.reg_tables.specs.declared.autocommit.AutocommitConnection.{AutocommitConnection}
use Rattle.reg_tables.specs.Reads.{OnlyReads}
use Rattle.reg_tables.specs.FailedCalls.{IsWriteFault}

-- the state of a connection after it has begun a transaction
abbrev pub after_begin : {S : Type 0} → Ghosts S → Held S → State
after_begin g conn = state g (record conn { in_transaction = true })

-- the state of a transaction's connection
abbrev pub state_in : {S : Type 0} → Ghosts S → Transaction S → State
state_in g tx = state g tx.conn.now

-- the state of a connection outside a transaction
abbrev pub conn_state : {S : Type 0} {g : Ghosts S} → AutocommitConnection S g → State
conn_state {S} {g} db = state g db.conn

-- A call inside a transaction keeps the connection and commits nothing, so it adds no state that a crash may leave.
pub record KeepsTransaction {S : Type 0} (g : Ghosts S) (old new : Transaction S) : Type 0 where
  pub same_reference : new.conn.ghost_name ≡ old.conn.ghost_name
  pub commit_stays : HasCleanDisk (state_in g new) → KeepsCommit (state_in g old) (state_in g new)
  pub survives : Survives (state_in g old) (state_in g new) (λ _. ⊥)

-- A call that runs a statement inside a transaction. If it succeeds, the connection was open and the transaction continues.
-- Over a closed connection it fails with a fault, or because an earlier failure had ended the transaction.
pub record RunsInTransaction {S X : Type 0} (g : Ghosts S) (old new : Transaction S) (result : Result X Error) : Type 0 where
  pub keeps : KeepsTransaction g old new
  pub shut : HasCleanDisk (state_in g new) → IfErr result (λ e. IsTrue (state_in g old).is_open ⊎ IsWriteFault (state_in g old) (state_in g new) e)
  pub was_open : HasCleanDisk (state_in g new) → OnOk result (IsTrue (state_in g old).is_open)
  pub inside : HasCleanDisk (state_in g new) → OnOk result ((state_in g new).in_transaction ≡ true)

-- A call that only reads. It commits nothing and leaves nothing uncommitted, and it succeeds only over an open connection.
pub record ReadsInAutocommit {S X E : Type 0} (g : Ghosts S) (old new : Held S) (result : Result X E) : Type 0 where
  pub was_open : HasCleanDisk (state g new) → OnOk result (IsTrue (state g old).is_open)
  pub only_reads : HasCleanDisk (state g new) → OnlyReads (state g old) (state g new)
  pub survives : Survives (state g old) (state g new) (λ _. ⊥)
