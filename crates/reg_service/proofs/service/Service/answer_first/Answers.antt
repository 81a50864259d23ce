use Rattle.std.proofs.Common.{Some, inl, inr, refl, ap, rules}
use Rattle.std.specs.Prelude.{OnOk}
use Rattle.reg_core.specs.Replies.{ReplyView}
use Rattle.reg_core.specs.KeptReplies.{kept_with, entry_with}
use Rattle.reg_core.specs.Stored.{Stored}
use Rattle.reg_store.specs.Spells.{RecoversTo, SpellsWhileOpen}
use Rattle.reg_store.specs.Stores.{state_of}
use Rattle.reg_store.proofs.Committing.{leaves_if_open}
use Rattle.reg_service.proofs.StoreCalls.{on_then, fits, taken_as, makes}
use Rattle.reg_service.proofs.CrashLemmas.{carries_failed}
use Rattle.reg_service.proofs.OpenConnections.{goes_on}
use Rattle.reg_service.proofs.service.Service.answer_first.Goals as goal

pub returns-in_err-changes-clause-executes : goal.returns-in_err-changes-clause-executes
returns-in_err-changes-clause-executes g c clean =
    let none : OnOk c.from_residual.result ⊥ = search rules in
    carries_failed c.from_residual.result _ _ _ (Some (c.args.key.now, c.args.text.now)) none (c.decision.ensures.same clean) (λ was over free db it. inl (c.decision.ensures.crash clean db it))

pub returns-in_err-apply-clause-executes : goal.returns-in_err-apply-clause-executes
returns-in_err-apply-clause-executes g c clean =
    let early = c.apply.ensures.frame.clean clean in
    let d = c.in_ok-changes.field-0 in
    let kept = λ (was : Stored) (t : ReplyView). kept_with was.replies c.args.key.now (entry_with c.args.text.now t) in
    let none : OnOk c.from_residual-in_err-apply.result ⊥ = search rules in
    carries_failed c.from_residual-in_err-apply.result _ _ _ (Some (c.args.key.now, c.args.text.now)) none (on_then _ _ _ (c.in_ok-changes.ensures.same early) (c.in_err-apply.ensures.nothing clean))
    (λ was over free db it.
    let decided = c.in_ok-changes.ensures.decided early was over in
    let fit = fits was c.args.command.now d decided c.deref.result.now c.deref.ensures.value in
    elim (c.apply.ensures.crash clean was (c.in_ok-changes.ensures.same early was over) (record { fit = fit; fresh = free }) (inr (inr refl)) db it) [
      | inl before ↦ inl (c.in_ok-changes.ensures.crash early db before.0)
      | inr made ↦ inr (makes was c.args.command.now d decided c.deref.result.now _ _ (RecoversTo db) c.deref.ensures.value made (ap (kept was) decided.reply))
    ])

pub returns-clause-executes : goal.returns-clause-executes
returns-clause-executes g c clean =
    let early = c.apply.ensures.frame.clean clean in
    let d = c.in_ok-changes.field-0 in
    let kept = λ (was : Stored) (t : ReplyView). kept_with was.replies c.args.key.now (entry_with c.args.text.now t) in
    record {
      done = λ was over free.
          let decided = c.in_ok-changes.ensures.decided early was over in
          let fit = fits was c.args.command.now d decided c.deref.result.now c.deref.ensures.value in
          let made = c.in_ok-apply.ensures.done clean was (c.in_ok-changes.ensures.same early was over) (record { fit = fit; fresh = free }) in
          (decided.reply, makes was c.args.command.now d decided c.deref.result.now _ _ (SpellsWhileOpen (state_of c.apply.new.self)) c.deref.ensures.value (taken_as (λ now over _. over) made) refl);
      own = c.in_ok-changes.ensures.own;
      fails = tt;
      crash = λ was over free db it.
          let decided = c.in_ok-changes.ensures.decided early was over in
          let fit = fits was c.args.command.now d decided c.deref.result.now c.deref.ensures.value in
          let made = c.in_ok-apply.ensures.done clean was (c.in_ok-changes.ensures.same early was over) (record { fit = fit; fresh = free }) in
          makes was c.args.command.now d decided c.deref.result.now _ _ (RecoversTo db) c.deref.ensures.value (taken_as (λ now over. leaves_if_open _ now c.in_ok-apply.ensures.frame.settled over db it) made) (ap (kept was) decided.reply);
    }

pub returns-clause-fails : goal.returns-clause-fails
returns-clause-fails g c failed = goes_on c.in_ok-apply.ensures.frame failed
