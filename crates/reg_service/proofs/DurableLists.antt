-- Lists of deliveries that were processed one after another are durable.
use Rattle.std.proofs.Common.{◌≡◌, List, [], ◌∷◌, inl, refl, sym, subst}
use Rattle.sqlite.specs.State.{HasCleanDisk}
use Rattle.sqlite_trees.specs.declared.store.Store.{Ghosts}
use Rattle.reg_core.specs.declared.code.Code.TheVariants.{BackendFault}
use Rattle.reg_core.specs.declared.delivery.Delivery.{Delivery}
use Rattle.reg_core.specs.Replies.{ReplyView, fault}
use Rattle.reg_service.specs.declared.service.Service.{Service}
use Rattle.reg_service.specs.Deliveries.{Exchange}
use Rattle.reg_service.specs.Services.{state_in}
use Rattle.reg_service.specs.Crashes.{RecoversExchanges, RecoversSpelled, ServesDurably}
use Rattle.reg_service.specs.Transitions.{StoredSatisfies, StoredTransition}
use Rattle.reg_service.specs.Processing.{Processes, ProcessesEach, ServesEach}
use Rattle.reg_service.proofs.AdmissionLemmas.{all_admitted}
use Rattle.reg_service.proofs.CrashLemmas.{leaves_none}
use Rattle.reg_service.proofs.OpenConnections.{keeps_still}
use Rattle.reg_service.proofs.OverTables.{refused_over}
use Rattle.reg_service.proofs.RecoveredLists.{durable_none, durable_one, durable_both}
use Rattle.reg_service.proofs.SingleDeliveries.{served_fault}

module _ {S : Type 0} {g : Ghosts S} where
  -- a delivery that wasn't executed got 50001, and the service is untouched
  pub processes_fault : (s : Service S g) (d : Delivery) (reply : ReplyView) → reply ≡ fault BackendFault → RecoversSpelled (state_in s) → Processes s s (d, reply)
  processes_fault s d reply is spelled = record {
    frame = keeps_still s (reply ≡ fault BackendFault) is;
    fails = λ failed. is;
    admitted = λ clean was over. all_admitted was over.spells.spelled.base.registry _;
    crash = λ clean was over. inl (λ db it.
        let P : List Exchange → Type 0 = λ xs. RecoversExchanges was xs db in
        subst P (sym (served_fault d reply is)) (leaves_none was db (spelled was over db it)));
    crash_while_open = spelled;
    exactly_once = λ clean. refused_over (state_in s) (state_in s) d reply is (λ was over. over);
  }

  -- an unclean disk stays unclean
  pub clean_each : (old new : Service S g) (xs : List Exchange) → ProcessesEach old new xs → HasCleanDisk (state_in new) → HasCleanDisk (state_in old)
  clean_each old new [] same clean = subst (λ (s : Service S g). HasCleanDisk (state_in s)) same clean
  clean_each old new (x ∷ xs) (mid, first, rest) clean = first.frame.clean (clean_each mid new xs rest clean)

  -- on a clean disk, deliveries that were processed one after another are durable
  pub durable_each : (old new : Service S g) (xs : List Exchange) → RecoversSpelled (state_in old) → ProcessesEach old new xs → HasCleanDisk (state_in new)
      → StoredTransition (state_in old) (state_in new) (λ was now. ServesDurably old new was now xs)
  durable_each old new [] spelled same clean was over =
      let P : Service S g → Type 0 = λ s. StoredSatisfies (state_in s) (λ now. ServesDurably old s was now []) in
      let still : P old = record { stored = was; spells = over; holds = durable_none old was [] refl spelled } in
      subst P (sym same) still
  durable_each old new (x ∷ xs) spelled (mid, first, rest) clean was over =
      let early = clean_each mid new xs rest clean in
      let it = first.exactly_once early was over in
      let one = durable_one old mid was x.0 x.1 it first.frame (first.crash early was) in
      let later = durable_each mid new xs first.crash_while_open rest clean it.now it.spells in
      record { stored = later.stored; spells = later.spells; holds = durable_both old mid new was it.now later.stored clean it.spells (x ∷ []) xs one later.holds }

  pub serves_each : (old new : Service S g) (xs : List Exchange) → RecoversSpelled (state_in old) → ProcessesEach old new xs → ServesEach old new xs
  serves_each old new xs spelled each = record { each = each; durably = durable_each old new xs spelled each }
