use Rattle.std.proofs.Common.{◌≡◌, ◌≤◌, ◌⊎◌, [], IsTrue, take, vec_len, length}
use Rattle.std.specs.Prelude.{vec_capacity, zip}
use Rattle.sqlite.specs.State.{HasCleanDisk}
use Rattle.reg_core.specs.Stored.{Stored}
use Rattle.reg_store.specs.Spells.{IsOpenOver}
use Rattle.reg_service.specs.Crashes.{RecoversAcknowledged}
use Rattle.reg_service.specs.Deliveries.{served}
use Rattle.reg_service.specs.Processing.{ProcessesEach}
use Rattle.reg_store.specs.Stores.{has_failed}
use Rattle.reg_service.specs.Services.{store_in, state_in, ServesOver, AreBackendFaults, FailsDuring, PreservesService}
use Rattle.reg_service.proofs.service.Service.run.Given as goal

abbrev pub invariant-loop-delivery : goal.invariant-loop-delivery
invariant-loop-delivery g l = record {
  len : vec_len l.replies ≡ l.delivery-index;
  count : length l.replies.items ≡ l.delivery-index;
  each : ProcessesEach l.fn.self l.self (zip (take l.delivery-index l.list) l.replies.items);
  room : length l.list ≤ vec_capacity l.replies;
  frame : PreservesService l.fn.self l.self (AreBackendFaults l.replies.items);
  passed : PreservesService l.fn.self l.self (served (zip (take l.delivery-index l.list) l.replies.items) ≡ []);
  fails : IsTrue (has_failed (store_in l.self)) → IsTrue (has_failed (store_in l.fn.self)) ⊎ FailsDuring l.fn.self l.self (zip (take l.delivery-index l.list) l.replies.items);
  served : HasCleanDisk (state_in l.self) → ServesOver (state_in l.fn.self) (state_in l.self) (served (zip (take l.delivery-index l.list) l.replies.items));
  crash : HasCleanDisk (state_in l.self) → (was : Stored) → IsOpenOver (state_in l.fn.self) was
      → RecoversAcknowledged l.fn.self l.self was (zip (take l.delivery-index l.list) l.replies.items);
}
