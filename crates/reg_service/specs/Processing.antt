-- One delivery after another: the guarantees of `Service::answer` for one delivery, a list as a chain of such steps, and its guarantees as a whole.
use Rattle.std.specs.Prelude.{◌≡◌, IsTrue, List, [], ◌∷◌}
use Rattle.sqlite.specs.State.{HasCleanDisk}
use Rattle.sqlite_trees.specs.declared.store.Store.{Ghosts}
use Rattle.reg_core.specs.declared.code.Code.TheVariants.{BackendFault}
use Rattle.reg_core.specs.Replies.{fault}
use Rattle.reg_core.specs.Stored.{Stored}
use Rattle.reg_store.specs.Spells.{IsOpenOver}
use Rattle.reg_store.specs.Stores.{has_failed}
use Rattle.reg_service.specs.declared.service.Service.{Service}
use Rattle.reg_service.specs.Deliveries.{Exchange, served}
use Rattle.reg_service.specs.Admissions.{AllAdmitted}
use Rattle.reg_service.specs.Services.{store_in, state_in, ServesOver, PreservesService}
use Rattle.reg_service.specs.Crashes.{RecoversAcknowledged, RecoversSpelled, ServesDurably}
use Rattle.reg_service.specs.Transitions.{StoredTransition}

-- This project's choice: the guarantees of one call of `Service::answer`. The call got the delivery `exchange.0`, took the service from `old` to
-- `new`, and returned the reply `exchange.1`, which may be 50001.
pub record Processes {S : Type 0} {g : Ghosts S} (old new : Service S g) (exchange : Exchange) : Type 0 where
  -- If the store had failed, or on a clean disk the connection was closed, the reply is 50001. A failed store doesn't change, and an unclean disk
  -- stays unclean. On a clean disk, only a disk fault closes the connection.
  pub frame : PreservesService old new (exchange.1 ≡ fault BackendFault)
  -- if the store has failed now, the reply is 50001
  pub fails : IsTrue (has_failed (store_in new)) → exchange.1 ≡ fault BackendFault
  -- an added version was admitted by its subject's level
  pub admitted : HasCleanDisk (state_in new) → (was : Stored) → IsOpenOver (state_in old) was → AllAdmitted was (served (exchange ∷ []))
  -- On a clean disk, if the connection was open: a crash preserves the exchange unless its reply is 50001. If a first delivery got 50001 and its
  -- call closed the connection, a crash may preserve the delivery. Version, reply and evidence survive together.
  pub crash : HasCleanDisk (state_in new) → (was : Stored) → IsOpenOver (state_in old) was → RecoversAcknowledged old new was (exchange ∷ [])
  -- if the connection is open, a crash leaves exactly what the tables spell
  pub crash_while_open : RecoversSpelled (state_in new)
  -- On a clean disk, if the connection was open before the call: a reply other than 50001 is due, also if the call closed the connection. If
  -- the connection is still open: after 50001 the tables spell what they spelled, and after another reply a first delivery was applied once. The
  -- evidence of an added version has the level in force and the ids that the version was compared with. If all evidence was true, it still is.
  pub exactly_once : HasCleanDisk (state_in new) → ServesOver (state_in old) (state_in new) (served (exchange ∷ []))

-- This project's choice: the service processed each delivery of a list, in the state that the previous one left.
abbrev pub ProcessesEach : {S : Type 0} {g : Ghosts S} → Service S g → Service S g → List Exchange → Type 0
ProcessesEach old new [] = new ≡ old
ProcessesEach {S} {g} old new (x ∷ xs) = (mid : Service S g) × Processes old mid x × ProcessesEach mid new xs

-- This project's choice: the service processed each delivery of a list, and the list is durable as a whole.
pub record ServesEach {S : Type 0} {g : Ghosts S} (old new : Service S g) (xs : List Exchange) : Type 0 where
  -- Each delivery was processed as by `Service::answer`. This is also true of a disk that is unclean at the end: the guarantees of `Processes` that
  -- require a clean disk are true of each delivery up to the first one after which the disk is unclean. Once the store has failed, each later
  -- reply is 50001.
  pub each : ProcessesEach old new xs
  -- if the disk is clean at the end
  pub durably : HasCleanDisk (state_in new) → StoredTransition (state_in old) (state_in new) (λ was now. ServesDurably old new was now xs)
