-- The clauses of functions that only read the stored state.
use Rattle.std.specs.Prelude.{◌≡◌, IsTrue, Result, OnOk, MatchResult}
use Rattle.sqlite.specs.Schema.{Schema}
use Rattle.sqlite.specs.Effect.{Database}
use Rattle.sqlite.specs.Held.{state}
use Rattle.sqlite.specs.State.{State, HasCleanDisk, KeepsCommit, Survives}
use Rattle.sqlite_trees.specs.declared.store.Store.{Ghosts}
use Rattle.reg_store.specs.declared.error.StoreError.{StoreError}
use Rattle.reg_store.specs.declared.conn.Conn.{Conn}
use Rattle.reg_core.specs.Stored.{Stored}
use Rattle.reg_tables.specs.Layout.{HasFiveTables}
use Rattle.reg_tables.specs.Contents.{Contents, HoldsContents, AreReadable}
use Rattle.reg_store.specs.Spells.{IsSpelled, SpellsWhileOpen}
use Rattle.reg_store.specs.Failures.{IsFaultBy}

-- SQLite, transactions: the state of the connection
abbrev pub shown : {S : Type 0} {g : Ghosts S} → Conn S g → State
shown {S} {g} db = state g db.idle.conn

-- The five tables of both layouts come first and can be read. All but `meta` spell the kept replies, and the registry without
-- its modes and its global level.
pub record SpellsBase (db : Database) (was : Stored) : Type 0 where
  pub schema : Schema
  pub first : HasFiveTables schema
  pub contents : Contents
  pub holds : HoldsContents schema db contents
  pub readable : AreReadable contents
  pub spelled : IsSpelled contents was.registry was.replies

-- nothing is committed, and a connection that showed its last commit still shows it
pub record CommitsNothing (old new : State) : Type 0 where
  pub commit_stays : HasCleanDisk new → KeepsCommit old new
  pub settled : HasCleanDisk new → IsTrue new.is_open → old.now ≡ old.committed → new.now ≡ new.committed
  pub survives : Survives old new (λ _. ⊥)

-- A call that changes nothing and may read the stored state. If the tables spell it, `Ok` has facts about it, and `Err` is a fault.
pub record MayRead {S X : Type 0} {g : Ghosts S} (old new : Conn S g) (result : Result X StoreError) (IsAnswer : Stored → X → Type 0) : Type 0 where
  pub rests : CommitsNothing (shown old) (shown new)
  pub answers : HasCleanDisk (shown new) → (was : Stored) → SpellsWhileOpen (shown old) was → MatchResult result (IsAnswer was) (IsFaultBy (shown old) (shown new))

-- a call that reads the stored state on every path: it succeeds only over an open connection
pub record Reads {S X : Type 0} {g : Ghosts S} (old new : Conn S g) (result : Result X StoreError) (IsAnswer : Stored → X → Type 0) : Type 0 where
  pub may : MayRead old new result IsAnswer
  pub was_open : HasCleanDisk (shown new) → OnOk result (IsTrue (shown old).is_open)
