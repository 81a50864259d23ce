use Rattle.std.proofs.Common.{◌≡◌, ◌⊎◌, inl, List, [], ◌∷◌, IsTrue, length, take, zip, refl, ap, sym, subst, arith, length-append}
use Rattle.std.proofs.lemmas.List.{take_all}
use Rattle.std.proofs.lemmas.List.Elements.{All-nil}
use Rattle.reg_core.specs.declared.code.Code.TheVariants.{BackendFault}
use Rattle.reg_core.specs.Replies.{fault}
use Rattle.reg_core.specs.declared.delivery.Delivery.{Delivery}
use Rattle.reg_store.specs.Stores.{has_failed}
use Rattle.reg_service.specs.Deliveries.{Exchange, served}
use Rattle.reg_service.specs.Crashes.{RecoversAcknowledged}
use Rattle.reg_service.specs.Processing.{ProcessesEach, ServesEach}
use Rattle.reg_service.proofs.Chains.{processes_next}
use Rattle.reg_service.proofs.DurableLists.{serves_each}
use Rattle.reg_service.proofs.DueReplies.{repeats_agree, no_other_answers}
use Rattle.reg_service.specs.Services.{store_in, state_in, AreBackendFaults, FailsDuring, PreservesService}
use Rattle.reg_service.proofs.OverTables.{none_over, next_over}
use Rattle.reg_service.proofs.AdmissionLemmas.{all_admitted}
use Rattle.reg_service.proofs.CrashLemmas.{leaves_open}
use Rattle.reg_service.proofs.RecoveredLists.{fails_next, found_next, found_none, passes_next, zip_next}
use Rattle.reg_service.proofs.OpenConnections.{keeps_still, keeps_next}
use Rattle.reg_service.proofs.service.Service.run.Goals as goal

pub loop-delivery-init : goal.loop-delivery-init
loop-delivery-init g c =
    let new = c.in_ok-replies.ensures in
    record {
      len = new.len;
      count = ap length new.items;
      each = refl;
      room = new.capacity;
      frame = subst (λ items. PreservesService c.args.self.now c.args.self.now (AreBackendFaults items)) (sym new.items) (keeps_still c.args.self.now (AreBackendFaults []) (All-nil (λ reply. reply ≡ fault BackendFault)));
      passed = keeps_still c.args.self.now ([] ≡ []) refl;
      fails = λ failed. inl failed;
      served = λ h. none_over _;
      crash = λ h was over. found_none c.args.self.now was (leaves_open (state_in c.args.self.now) (g.met.S.Store.settled c.args.self.now.store.db.idle.conn.store) was over);
    }

pub loop-delivery-preserved : goal.loop-delivery-preserved
loop-delivery-preserved g c =
    let i = c.loop-delivery.invariant in
    let more = c.push_reserved.ensures in
    let one = c.answer-reply.ensures in
    let all = zip (take c.loop-delivery.delivery-index c.args.list.now) c.loop-delivery.replies.items in
    let next = sym (zip_next c.args.list.now c.loop-delivery.delivery-index c.delivery-item.result c.loop-delivery.replies.items c.push_reserved.new.self.items c.answer-reply.result c.loop-delivery-test.true c.delivery-item.is i.count more.items) in
    let Passed : List Exchange → Type 0 = λ xs. PreservesService c.args.self.now c.answer-reply.new.self (served xs ≡ []) in
    let Fails : List Exchange → Type 0 = λ xs. IsTrue (has_failed (store_in c.args.self.now)) ⊎ FailsDuring c.args.self.now c.answer-reply.new.self xs in
    record {
      len = omega (arith, i.len, more.len);
      count = omega (arith, i.count, ap length more.items, length-append c.loop-delivery.replies.items (c.answer-reply.result ∷ []));
      each = subst (λ (xs : List Exchange). ProcessesEach c.args.self.now c.answer-reply.new.self xs) next (processes_next c.args.self.now c.loop-delivery.self c.answer-reply.new.self all (c.delivery-item.result, c.answer-reply.result) i.each one);
      room = omega (arith, i.room, more.capacity);
      frame = keeps_next c.args.self.now c.loop-delivery.self c.answer-reply.new.self c.loop-delivery.replies.items c.push_reserved.new.self.items c.answer-reply.result more.items i.frame one.frame;
      passed = subst Passed next (passes_next c.args.self.now c.loop-delivery.self c.answer-reply.new.self all c.delivery-item.result c.answer-reply.result i.passed one.frame);
      fails = λ failed. subst Fails next (fails_next c.args.self.now c.loop-delivery.self c.answer-reply.new.self all c.delivery-item.result c.answer-reply.result i.passed one.frame one.fails i.fails failed);
      served = λ h. next_over _ _ _ c.args.list.now c.loop-delivery.delivery-index c.delivery-item.result c.loop-delivery.replies.items c.push_reserved.new.self.items c.answer-reply.result
          c.loop-delivery-test.true c.delivery-item.is i.count more.items (i.served (one.frame.clean h)) (one.exactly_once h);
      crash = λ h was over. subst (λ (xs : List Exchange). RecoversAcknowledged c.args.self.now c.answer-reply.new.self was xs) next
          (found_next c.args.self.now c.loop-delivery.self c.answer-reply.new.self all c.delivery-item.result c.answer-reply.result was over (i.served (one.frame.clean h)) i.passed one.frame h (i.crash (one.frame.clean h) was over) (one.crash h));
    }

pub returns-clause-exactly_once : goal.returns-clause-exactly_once
returns-clause-exactly_once g c clean was over =
    let all : take c.loop-delivery.delivery-index c.args.list.now ≡ c.args.list.now = take_all c.loop-delivery.delivery-index c.args.list.now c.loop-delivery-test.false in
    rw all at (c.loop-delivery.invariant.served clean was over)

pub returns-clause-each : goal.returns-clause-each
returns-clause-each g c =
    let all : take c.loop-delivery.delivery-index c.args.list.now ≡ c.args.list.now = take_all c.loop-delivery.delivery-index c.args.list.now c.loop-delivery-test.false in
    let spelled = leaves_open (state_in c.args.self.now) (g.met.S.Store.settled c.args.self.now.store.db.idle.conn.store) in
    let each = serves_each c.args.self.now c.loop-delivery.self _ spelled c.loop-delivery.invariant.each in
    subst (λ (list : List Delivery). ServesEach c.args.self.now c.loop-delivery.self (zip list c.loop-delivery.replies.items)) all each

pub returns-clause-repeats : goal.returns-clause-repeats
returns-clause-repeats g c clean was over =
    repeats_agree _ (served (zip c.args.list.now c.loop-delivery.replies.items)) (returns-clause-exactly_once g c clean was over).serves.replies

pub returns-clause-no_other_replies : goal.returns-clause-no_other_replies
returns-clause-no_other_replies g c clean was over =
    no_other_answers _ (served (zip c.args.list.now c.loop-delivery.replies.items)) (returns-clause-exactly_once g c clean was over).serves.replies

pub returns-clause-crash : goal.returns-clause-crash
returns-clause-crash g c clean was over =
    let all : take c.loop-delivery.delivery-index c.args.list.now ≡ c.args.list.now = take_all c.loop-delivery.delivery-index c.args.list.now c.loop-delivery-test.false in
    subst (λ (list : List Delivery). RecoversAcknowledged c.args.self.now c.loop-delivery.self was (zip list c.loop-delivery.replies.items)) all (c.loop-delivery.invariant.crash clean was over)

pub returns-clause-fails : goal.returns-clause-fails
returns-clause-fails g c failed =
    let all : take c.loop-delivery.delivery-index c.args.list.now ≡ c.args.list.now = take_all c.loop-delivery.delivery-index c.args.list.now c.loop-delivery-test.false in
    subst (λ (list : List Delivery). IsTrue (has_failed (store_in c.args.self.now)) ⊎ FailsDuring c.args.self.now c.loop-delivery.self (zip list c.loop-delivery.replies.items)) all (c.loop-delivery.invariant.fails failed)

pub returns-in_err-replies-clause-crash_while_open : goal.returns-in_err-replies-clause-crash_while_open
returns-in_err-replies-clause-crash_while_open g c = leaves_open (state_in c.args.self.now) (g.met.S.Store.settled c.args.self.now.store.db.idle.conn.store)

pub returns-clause-crash_while_open : goal.returns-clause-crash_while_open
returns-clause-crash_while_open g c = leaves_open (state_in c.loop-delivery.self) (g.met.S.Store.settled c.loop-delivery.self.store.db.idle.conn.store)

pub returns-clause-admitted : goal.returns-clause-admitted
returns-clause-admitted g c clean was over = all_admitted was over.spells.spelled.base.registry _
