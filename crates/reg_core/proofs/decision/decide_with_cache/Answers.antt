use Rattle.std.proofs.Common.{◌≡◌, ◌≢◌, ◌∙◌, false, List, [], ap, sym, subst}
use Rattle.std.specs.Prelude.{IfOk, Option, Result, Ok, Err}
use Rattle.avro_nodes.specs.Nodes.{NodeView}
use Rattle.reg_core.specs.declared.command.Command.{Command}
use Rattle.reg_core.specs.declared.decision.Change.{Change}
use Rattle.reg_core.specs.declared.decision.Decision.{Decision}
use Rattle.reg_core.specs.declared.decision.View.{View}
use Rattle.reg_core.specs.Machine.{permitted_step, is_write}
use Rattle.reg_core.specs.Modes.{is_read_only}
use Rattle.reg_core.specs.Registry.{Registry}
use Rattle.reg_core.specs.Replies.{IsCommandReply, ReplyView}
use Rattle.reg_core.specs.Evidence.{IsEvidenceUpdate, IsEvidenceAfter}
use Rattle.reg_core.specs.Inside.Evidence.{UpdateEvidence}
use Rattle.reg_core.specs.Views.{ChangesFit, IsDecisionFor, IsDecisionInput, after_changes, evidence_after_changes, mode_of_view, schema_if_supported}
use Rattle.reg_core.proofs.EvidenceLemmas.{add_none-tell}
use Rattle.reg_core.proofs.ModeLemmas.{step-read_only, step-permitted}
use Rattle.reg_core.proofs.OwnReplies.{not_permitted-IsCommandReply}
use Rattle.reg_core.proofs.decision.decide_with_cache.Goals as goal

-- if no mode forbids the command, the decision for the permitted step is the decision for the step
carried : (command : Command) (schema : Option (List NodeView)) (view : View) {E : Type 0} (result : Result Decision E) → is_read_only (mode_of_view view command) ≡ false
    → IfOk result (λ d. (g : Registry) → IsDecisionInput g command (schema_if_supported command schema) view → d.reply ≡ (permitted_step g command).1)
    → IfOk result (λ d. (g : Registry) → IsDecisionInput g command (schema_if_supported command schema) view → after_changes d.changes.items g ≡ (permitted_step g command).0)
    → IfOk result (λ d. (g : Registry) → IsDecisionInput g command (schema_if_supported command schema) view → ChangesFit d.changes.items g)
    → IfOk result (λ d. (g : Registry) → IsDecisionInput g command (schema_if_supported command schema) view → UpdateEvidence d.changes.items g)
    → IfOk result (λ d. is_write command ≡ false → d.changes.items ≡ [])
    → IfOk result (λ d. d.reply.status ≢ 200 → d.changes.items ≡ [])
    → IfOk result (λ d. IsCommandReply d.reply)
    → IfOk result (IsDecisionFor command schema view)
carried command schema view (Ok d) free reply changes fit evidence read refusal own = record {
  reply = λ g input. reply g input ∙ ap (λ (after : Registry × ReplyView). after.1) (sym (step-permitted g command view input.shows free));
  changes = λ g input. changes g input ∙ ap (λ (after : Registry × ReplyView). after.0) (sym (step-permitted g command view input.shows free));
  evidence = λ g input had ok. subst (λ (after : Registry). IsEvidenceUpdate g after had (evidence_after_changes d.changes.items had))
      (changes g input ∙ ap (λ (after : Registry × ReplyView). after.0) (sym (step-permitted g command view input.shows free))) (evidence g input had ok);
  fit = fit;
  read = read;
  refusal = refusal;
  own = own;
}
carried command schema view (Err e) free reply changes fit evidence read refusal own = tt

pub returns-then-is_forbidden_by_mode : goal.returns-then-is_forbidden_by_mode
returns-then-is_forbidden_by_mode c =
    let read_only = sym c.is_forbidden_by_mode.ensures ∙ c.if-is_forbidden_by_mode.true in
    let told = c.unchanged.ensures.reply ∙ c.fault.ensures in
    let none = c.unchanged.ensures.changes in
    record {
      reply = λ g input. told ∙ ap (λ (after : Registry × ReplyView). after.1) (sym (step-read_only g c.args.command.now c.args.view.now input.shows read_only));
      changes = λ g input. rw none (ap (λ (after : Registry × ReplyView). after.0) (sym (step-read_only g c.args.command.now c.args.view.now input.shows read_only)));
      evidence = λ g input had ok. subst (λ (items : List Change). IsEvidenceAfter g c.args.command.now had (evidence_after_changes items had)) (sym none)
          (subst (λ (after : Registry). IsEvidenceUpdate g after had had) (sym (ap (λ (after : Registry × ReplyView). after.0) (step-read_only g c.args.command.now c.args.view.now input.shows read_only))) (add_none-tell [] tt g had ok));
      fit = λ g input. rw none tt;
      read = λ _. none;
      refusal = λ _. none;
      own = subst IsCommandReply (sym told) not_permitted-IsCommandReply;
    }

pub returns : goal.returns
returns c =
    let free = sym c.is_forbidden_by_mode.ensures ∙ c.if-is_forbidden_by_mode.false in
    let done = rw c.schema_if_supported.ensures at c.decide_permitted.ensures in
    carried c.args.command.now _ c.args.view.now c.decide_permitted.result free done.reply done.changes done.fit done.evidence done.read done.refusal done.own
