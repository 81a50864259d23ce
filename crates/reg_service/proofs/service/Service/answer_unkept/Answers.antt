use Rattle.std.proofs.Common.{None, inl, inr, refl, sym, ◌∙◌, rules}
use Rattle.std.specs.Prelude.{OnOk}
use Rattle.reg_store.specs.Spells.{RecoversTo, SpellsWhileOpen}
use Rattle.reg_store.specs.Stores.{state_of}
use Rattle.reg_store.proofs.Committing.{leaves_if_open}
use Rattle.reg_service.specs.Services.{state_in}
use Rattle.reg_service.proofs.StoreCalls.{on_then, no_changes, some_changes, fits, taken_as, makes, makes_nothing}
use Rattle.reg_service.proofs.OpenConnections.{goes_on, was_open}
use Rattle.reg_service.proofs.CrashLemmas.{leaves_open, carries_failed}
use Rattle.reg_service.proofs.service.Service.answer_unkept.Goals as goal
use Rattle.reg_service.proofs.service.Service.answer_unkept.Goals.{then-not-is_empty+in_ok-apply, else-not-is_empty}

pub returns-in_err-changes-clause-executes : goal.returns-in_err-changes-clause-executes
returns-in_err-changes-clause-executes g c clean =
    let none : OnOk c.from_residual.result ⊥ = search rules in
    carries_failed c.from_residual.result _ _ _ None none (c.decision.ensures.same clean) (λ was over free db it. inl (c.decision.ensures.crash clean db it))

pub returns-in_err-apply-clause-executes : goal.returns-in_err-apply-clause-executes
returns-in_err-apply-clause-executes g c clean =
    let early = c.apply.ensures.frame.clean clean in
    let d = c.in_ok-changes.field-0 in
    let some = some_changes d.changes (sym c.is_empty.ensures ∙ c.if-not-is_empty.true) in
    let none : OnOk c.from_residual-in_err-apply.result ⊥ = search rules in
    carries_failed c.from_residual-in_err-apply.result _ _ _ None none (on_then _ _ _ (c.in_ok-changes.ensures.same early) (c.in_err-apply.ensures.nothing clean))
    (λ was over free db it.
    let decided = c.in_ok-changes.ensures.decided early was over in
    elim (c.apply.ensures.crash clean was (c.in_ok-changes.ensures.same early was over) (record { fit = fits was c.args.command.now d decided c.deref.result.now c.deref.ensures.value; fresh = tt }) (inr (inl (λ e. some (sym c.deref.ensures.value ∙ e)))) db it) [
      | inl before ↦ inl (c.in_ok-changes.ensures.crash early db before.0)
      | inr made ↦ inr (makes was c.args.command.now d decided c.deref.result.now None was.replies (RecoversTo db) c.deref.ensures.value made refl)
    ])

pub returns-clause-executes : goal.returns-clause-executes
returns-clause-executes g c =
    let d = c.in_ok-changes.field-0 in
    elim c.if-not-is_empty.branch [
      | then-not-is_empty+in_ok-apply w ↦ rw w.self-is (λ clean.
          let early = w.in_ok-apply.ensures.frame.clean clean in
          let settled = w.in_ok-apply.ensures.frame.settled in
          record {
            done = λ was over free.
                let decided = c.in_ok-changes.ensures.decided early was over in
                let made = w.in_ok-apply.ensures.done clean was (c.in_ok-changes.ensures.same early was over) (record { fit = fits was c.args.command.now d decided w.deref.result.now w.deref.ensures.value; fresh = tt }) in
                (decided.reply, makes was c.args.command.now d decided w.deref.result.now None was.replies (SpellsWhileOpen (state_of w.apply.new.self)) w.deref.ensures.value (taken_as (λ now over _. over) made) refl);
            own = c.in_ok-changes.ensures.own;
            fails = tt;
            crash = λ was over free db it.
                let decided = c.in_ok-changes.ensures.decided early was over in
                let made = w.in_ok-apply.ensures.done clean was (c.in_ok-changes.ensures.same early was over) (record { fit = fits was c.args.command.now d decided w.deref.result.now w.deref.ensures.value; fresh = tt }) in
                makes was c.args.command.now d decided w.deref.result.now None was.replies (RecoversTo db) w.deref.ensures.value (taken_as (λ now over. leaves_if_open (state_of w.apply.new.self) now settled over db it) made) refl;
          })
      | else-not-is_empty w ↦ rw w.self-is (λ clean.
          let none = no_changes d.changes (sym c.is_empty.ensures ∙ w.if-not-is_empty.false) in
          record {
            done = λ was over free.
                let decided = c.in_ok-changes.ensures.decided clean was over in
                (decided.reply, makes_nothing was c.args.command.now d decided (SpellsWhileOpen (state_in c.decision.new.self)) none (c.in_ok-changes.ensures.same clean was over));
            own = c.in_ok-changes.ensures.own;
            fails = tt;
            crash = λ was over free db it.
                let decided = c.in_ok-changes.ensures.decided clean was over in
                let old = over (was_open c.args.self.now c.decision.new.self c.in_ok-changes.ensures.frame clean) in
                let left = leaves_open (state_in c.args.self.now) (g.met.S.Store.settled c.args.self.now.store.db.idle.conn.store) was old db (c.in_ok-changes.ensures.crash clean db it) in
                makes_nothing was c.args.command.now d decided (RecoversTo db) none left;
          })
    ]

pub returns-clause-fails : goal.returns-clause-fails
returns-clause-fails g c = elim c.if-not-is_empty.branch [
  | then-not-is_empty+in_ok-apply w ↦ rw w.self-is (λ failed. goes_on w.in_ok-apply.ensures.frame failed)
  | else-not-is_empty w ↦ rw w.self-is (λ failed. c.in_ok-changes.ensures.fails failed)
]
