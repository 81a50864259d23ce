-- What a crash may leave of the exchanges: every acknowledged one, with or without the delivery in progress.
use Rattle.std.specs.Prelude.{◌≡◌, ◌⊎◌, IsTrue, List, [], ◌∷◌, ◌++◌, Result, Ok, Err}
use Rattle.sqlite.specs.Tree.{Trees}
use Rattle.sqlite.specs.State.{State}
use Rattle.reg_core.specs.declared.code.Code.TheVariants.{BackendFault}
use Rattle.reg_core.specs.Replies.{ReplyView, fault}
use Rattle.reg_core.specs.Stored.{Stored, HasTrueEvidence}
use Rattle.sqlite_trees.specs.declared.store.Store.{Ghosts}
use Rattle.reg_store.specs.Spells.{RecoversTo, IsOpenOver}
use Rattle.reg_service.specs.declared.service.Service.{Service}
use Rattle.reg_service.specs.Services.{PreservesService, SplitAt, state_in}
use Rattle.reg_service.specs.Deliveries.{Exchange, LeadsTo, Serves, is_first, reply_after, served}

-- SQLite, transactions: the database that a crash leaves spells the result of these exchanges: registry, kept replies and evidence of
-- versions together
pub record RecoversExchanges (was : Stored) (xs : List Exchange) (db : Trees) : Type 0 where
  pub now : Stored
  pub leads : LeadsTo was xs now
  -- if all evidence was true, it still is
  pub stays_true : HasTrueEvidence was → HasTrueEvidence now
  pub leaves : RecoversTo db now

-- This project's choice: between `old` and `new`, the connection was open in the service `reached`, and is closed in the later `left` (`SplitAt`). One
-- first delivery (`is_first`) got 50001, and so did all deliveries after it. An earlier write with its key that got 50001 doesn't count. Each
-- database that a crash may leave has exactly the acknowledged exchanges, or exactly these and that delivery with the abstract machine's reply.
pub record RecoversInFlight {S : Type 0} {g : Ghosts S} (old new : Service S g) (was : Stored) (xs : List Exchange) : Type 0 where
  pub at : SplitAt old new xs
  -- the connection was open before, and is closed after
  pub was_open : IsTrue (state_in at.reached).is_open
  pub closed : IsTrue (state_in at.left).is_open → ⊥
  pub first : IsTrue (is_first was.replies (served at.before) at.exchange.0)
  pub leaves : (db : Trees) → (state_in new).may_leave db
      → RecoversExchanges was (served xs) db ⊎ RecoversExchanges was (served at.before ++ (at.exchange.0, reply_after was (served at.before) at.exchange.0.command) ∷ []) db

-- This project's choice: a crash preserves every acknowledged exchange, with or without one delivery in progress. That delivery is the same
-- for every database that the crash may leave.
abbrev pub RecoversAcknowledged : {S : Type 0} {g : Ghosts S} → Service S g → Service S g → Stored → List Exchange → Type 0
RecoversAcknowledged old new was xs = ((db : Trees) → (state_in new).may_leave db → RecoversExchanges was (served xs) db) ⊎ RecoversInFlight old new was xs

-- This project's choice: the exchanges other than those with reply 50001 lead from `was` to `now`, each with the reply that is due. They
-- are durable: if the connection was open over `was`, a crash preserves every acknowledged one, with or without one delivery in progress.
pub record ServesDurably {S : Type 0} {g : Ghosts S} (old new : Service S g) (was now : Stored) (xs : List Exchange) : Type 0 where
  pub serves : Serves was (served xs) now
  -- if all evidence was true, it still is
  pub stays_true : HasTrueEvidence was → HasTrueEvidence now
  -- if the store had failed, or on a clean disk the connection was closed, nothing is acknowledged
  pub keeps : PreservesService old new (served xs ≡ [])
  pub crash : IsOpenOver (state_in old) was → RecoversAcknowledged old new was xs

-- this project's choice: the reply to an error is 50001
abbrev pub reply_or_fault : {E : Type 0} → Result ReplyView E → ReplyView
reply_or_fault (Ok reply) = reply
reply_or_fault (Err e) = fault BackendFault

-- SQLite, transactions: if the connection is open, each database that a crash may leave spells what the tables spell
abbrev pub RecoversSpelled : State → Type 0
RecoversSpelled s = (was : Stored) → IsOpenOver s was → (db : Trees) → s.may_leave db → RecoversTo db was
