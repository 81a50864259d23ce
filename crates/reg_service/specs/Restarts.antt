-- A list of deliveries, a crash, a restart, and another list of deliveries.
use Rattle.std.specs.Prelude.{◌≡◌, ◌⊎◌, IsTrue, List, [], ◌∷◌, ◌++◌}
use Rattle.sqlite.specs.State.{HasCleanDisk}
use Rattle.sqlite.specs.Tree.{Trees}
use Rattle.sqlite_trees.specs.declared.store.Store.{Ghosts}
use Rattle.reg_core.specs.Stored.{Stored, HasTrueEvidence}
use Rattle.reg_store.specs.Spells.{IsOpenOver, RecoversTo}
use Rattle.reg_service.specs.declared.service.Service.{Service}
use Rattle.reg_service.specs.Deliveries.{Exchange, RepeatsAgree, Serves, is_first, reply_after, served}
use Rattle.reg_service.specs.Processing.{ProcessesEach}
use Rattle.reg_service.specs.Services.{state_in}
use Rattle.reg_service.specs.Transitions.{StoredSatisfies}

-- This project's choice: `one` is the delivery that was in progress when the crash came, with the abstract machine's reply. It is a first delivery of
-- the list (`is_first`). It got 50001, and so did all deliveries after it.
pub record WasInProgress (was : Stored) (xs : List Exchange) (one : Exchange) : Type 0 where
  pub before : List Exchange
  pub refused : Exchange
  pub after : List Exchange
  pub split : xs ≡ before ++ refused ∷ after
  pub unserved : served (refused ∷ after) ≡ []
  pub first : IsTrue (is_first was.replies (served before) refused.0)
  pub is : one ≡ (refused.0, reply_after was (served before) refused.0.command)

-- This project's choice: two lists of exchanges with a crash in between are one list, with at most one delivery between them (`WasInProgress`). So
-- each acknowledged first delivery is applied exactly once. A retry after the crash gets its reply, and a retry of that one delivery the machine's
-- reply.
pub record ServesAcross (was : Stored) (xs ys : List Exchange) (now : Stored) : Type 0 where
  pub between : List Exchange
  pub in_progress : (between ≡ []) ⊎ ((one : Exchange) × (between ≡ one ∷ []) × WasInProgress was xs one)
  pub serves : Serves was (served xs ++ (between ++ served ys)) now
  pub repeats : RepeatsAgree (served xs ++ (between ++ served ys))
  -- if all evidence was true, it still is
  pub stays_true : HasTrueEvidence was → HasTrueEvidence now

-- This project's choice: the database that a crash left spells the stored state `left`. If the service `next` starts over `left`, then on a clean
-- disk its exchanges up to `last` continue those before the crash.
pub record RestartsFrom {S : Type 0} {g : Ghosts S} (next last : Service S g) (was : Stored) (xs : List Exchange) (db : Trees) : Type 0 where
  pub left : Stored
  pub leaves : RecoversTo db left
  pub continues : (ys : List Exchange) → ProcessesEach next last ys → HasCleanDisk (state_in last) → IsOpenOver (state_in next) left
      → StoredSatisfies (state_in last) (ServesAcross was xs ys)

-- This project's choice: the deliveries xs took a service from `old` to `new`, over a connection that was open over `was`, on a clean disk. Then each
-- database that a crash may leave is one from which another service continues (`RestartsFrom`).
abbrev pub ContinuesAfterCrash : {S : Type 0} {g : Ghosts S} → Service S g → Service S g → Service S g → Service S g → Type 0
ContinuesAfterCrash old new next last = (was : Stored) (xs : List Exchange) (db : Trees) → ProcessesEach old new xs → HasCleanDisk (state_in new)
    → IsOpenOver (state_in old) was → (state_in new).may_leave db → RestartsFrom next last was xs db
