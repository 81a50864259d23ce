-- Views of a service, and the effect of its calls on the tables.
use Rattle.std.specs.Prelude.{◌≡◌, false, List, [], ◌∷◌, ◌++◌, IsTrue}
use Rattle.std.specs.List.{All}
use Rattle.sqlite.specs.State.{State, HasCleanDisk}
use Rattle.sqlite_trees.specs.declared.store.Store.{Ghosts}
use Rattle.reg_core.specs.Stored.{Stored, HasTrueEvidence}
use Rattle.reg_core.specs.Replies.{ReplyView, fault}
use Rattle.reg_core.specs.declared.code.Code.TheVariants.{BackendFault}
use Rattle.reg_store.specs.Spells.{SpellsWhileOpen}
use Rattle.reg_store.specs.Stores.{state_of, has_failed, KeepsOpen, AddsNoCrashState}
use Rattle.reg_store.specs.declared.store.Store.{Store}
use Rattle.reg_service.specs.declared.service.Service.{Service}
use Rattle.reg_service.specs.Deliveries.{Exchange, Serves, served}

-- this project's choice: the service's store
abbrev pub store_in : {S : Type 0} {g : Ghosts S} → Service S g → Store S g
store_in service = service.store

-- SQLite, transactions: the state of the store's connection
abbrev pub state_in : {S : Type 0} {g : Ghosts S} → Service S g → State
state_in service = state_of (store_in service)

-- this project's choice: the exchanges lead from `was` to what the tables spell while the connection is open
pub record ServesTo (was : Stored) (xs : List Exchange) (new : State) : Type 0 where
  pub now : Stored
  pub serves : Serves was xs now
  -- if all evidence was true, it still is
  pub stays_true : HasTrueEvidence was → HasTrueEvidence now
  pub spells : SpellsWhileOpen new now

-- this project's choice: the exchanges lead from what the tables spelled to what they spell now, each while the connection is open
abbrev pub ServesOver : State → State → List Exchange → Type 0
ServesOver old new xs = (was : Stored) → SpellsWhileOpen old was → ServesTo was xs new

-- this project's choice: each reply is 50001
abbrev pub AreBackendFaults : List ReplyView → Type 0
AreBackendFaults replies = All (λ reply. reply ≡ fault BackendFault) replies

-- This project's choice: a call doesn't change a failed store, and keeps an unclean disk unclean. On a clean disk, a closed connection stays closed,
-- and only a disk fault closes one. The call may change the tables of another store. `OnlyFaultReplies` says that every reply of the call is 50001.
pub record PreservesStore {S : Type 0} {g : Ghosts S} (old new : Store S g) (OnlyFaultReplies : Type 0) : Type 0 where
  -- if the store had failed, it is unchanged, and every reply is 50001
  pub failed : IsTrue (has_failed old) → OnlyFaultReplies × (new ≡ old)
  -- on a clean disk, if the connection was closed, every reply is 50001, and a crash leaves only what it could leave before
  pub closed : HasCleanDisk (state_of new) → (IsTrue (state_of old).is_open → ⊥) → OnlyFaultReplies × AddsNoCrashState (state_of old) (state_of new)
  -- an unclean disk stays unclean
  pub clean : HasCleanDisk (state_of new) → HasCleanDisk (state_of old)
  pub connection : KeepsOpen (state_of old) (state_of new)

-- this project's choice: the same for a call of a service
abbrev pub PreservesService : {S : Type 0} {g : Ghosts S} → Service S g → Service S g → Type 0 → Type 0
PreservesService old new OnlyFaultReplies = PreservesStore (store_in old) (store_in new) OnlyFaultReplies

-- This project's choice: from one exchange on, each reply is 50001. The services `reached` and `left` lie on the way from `old` to `new`. Each of
-- the three steps between these services preserves what a call preserves (`PreservesService`), for its part of the list. `reached` and `left`
-- needn't be the services before and after that exchange: the clause `each` of `Service::run` names those.
pub record SplitAt {S : Type 0} {g : Ghosts S} (old new : Service S g) (xs : List Exchange) : Type 0 where
  pub before : List Exchange
  pub exchange : Exchange
  pub after : List Exchange
  pub split : xs ≡ before ++ exchange ∷ after
  -- each reply from this exchange on is 50001
  pub unserved : served (exchange ∷ after) ≡ []
  pub reached : Service S g
  pub left : Service S g
  pub earlier : PreservesService old reached (served before ≡ [])
  pub here : PreservesService reached left (served (exchange ∷ []) ≡ [])
  pub later : PreservesService left new (served after ≡ [])

-- This project's choice: the list splits at an exchange, and each reply from it on is 50001 (`SplitAt`). On the way from `old` to `new`, the store
-- hasn't failed in the service `reached`, and has failed in the later service `left`. These needn't be the services before and after that exchange:
-- the clause `each` of `Service::run` names those.
pub record FailsDuring {S : Type 0} {g : Ghosts S} (old new : Service S g) (xs : List Exchange) : Type 0 where
  pub at : SplitAt old new xs
  pub not_failed : has_failed (store_in at.reached) ≡ false
  pub fails : IsTrue (has_failed (store_in at.left))
