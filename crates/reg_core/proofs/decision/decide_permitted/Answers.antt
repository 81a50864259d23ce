use Rattle.std.proofs.Common.{List, [], sym, subst}
use Rattle.std.specs.Prelude.{None, Some, option_copied, option_map}
use Rattle.std.proofs.lemmas.Result.{IfOk-weaker}
use Rattle.avro_nodes.specs.Nodes.{nodes_view}
use Rattle.reg_core.specs.declared.decision.Change.{Change}
use Rattle.reg_core.specs.Inside.Evidence.{UpdateEvidence}
use Rattle.reg_core.specs.Levels.{level_of}
use Rattle.reg_core.specs.Modes.{mode_of}
use Rattle.reg_core.specs.Registry.{new_registry}
use Rattle.reg_core.specs.Replies.{IsCommandReply}
use Rattle.reg_core.proofs.EvidenceLemmas.{add_none-tell}
use Rattle.reg_core.proofs.OwnReplies.{set_level-IsCommandReply, set_mode-IsCommandReply}
use Rattle.reg_core.proofs.decision.decide_permitted.Goals as goal

pub returns-in-SetGlobal-clause-own : goal.returns-in-SetGlobal-clause-own
returns-in-SetGlobal-clause-own c =
    IfOk-weaker c.set.result _ _
    (λ d h. subst IsCommandReply (sym (h new_registry)) (set_level-IsCommandReply new_registry None (level_of c.as_str.result.now)))
    c.set.ensures.reply

pub returns-in-SetLevel-clause-own : goal.returns-in-SetLevel-clause-own
returns-in-SetLevel-clause-own c =
    IfOk-weaker c.set-in-SetLevel.result _ _
    (λ d h. subst IsCommandReply (sym (h new_registry)) (set_level-IsCommandReply new_registry (Some c.in-SetLevel.subject) (level_of c.as_str-in-SetLevel.result.now)))
    c.set-in-SetLevel.ensures.reply

pub returns-in-DeleteVersion-clause-reply : goal.returns-in-DeleteVersion-clause-reply
returns-in-DeleteVersion-clause-reply c =
    rw c.in-DeleteVersion.is
    (IfOk-weaker c.delete_version.result _ _ (λ decision told g input. told g (option_map nodes_view (option_copied c.args.schema)) input)
    (rw c.as_str-in-DeleteVersion.ensures at c.delete_version.ensures.reply))

pub returns-in-DeleteVersion-clause-changes : goal.returns-in-DeleteVersion-clause-changes
returns-in-DeleteVersion-clause-changes c =
    rw c.in-DeleteVersion.is
    (IfOk-weaker c.delete_version.result _ _ (λ decision changes g input. changes g (option_map nodes_view (option_copied c.args.schema)) input)
    (rw c.as_str-in-DeleteVersion.ensures at c.delete_version.ensures.changes))

pub returns-in-SetGlobalMode-clause-own : goal.returns-in-SetGlobalMode-clause-own
returns-in-SetGlobalMode-clause-own c =
    IfOk-weaker c.set-in-SetGlobalMode.result _ _
    (λ d h. subst IsCommandReply (sym (h new_registry)) (set_mode-IsCommandReply new_registry None (mode_of c.as_str-in-SetGlobalMode.result.now)))
    c.set-in-SetGlobalMode.ensures.reply

pub returns-in-SetMode-clause-own : goal.returns-in-SetMode-clause-own
returns-in-SetMode-clause-own c =
    IfOk-weaker c.set-in-SetMode.result _ _
    (λ d h. subst IsCommandReply (sym (h new_registry)) (set_mode-IsCommandReply new_registry (Some c.in-SetMode.subject) (mode_of c.as_str-in-SetMode.result.now)))
    c.set-in-SetMode.ensures.reply

pub returns-in-SetGlobal-clause-evidence : goal.returns-in-SetGlobal-clause-evidence
returns-in-SetGlobal-clause-evidence c = IfOk-weaker c.set.result _ _ (λ d none g input. add_none-tell d.changes.items none g) c.set.ensures.adds_no_version

pub returns-in-SetLevel-clause-evidence : goal.returns-in-SetLevel-clause-evidence
returns-in-SetLevel-clause-evidence c = IfOk-weaker c.set-in-SetLevel.result _ _ (λ d none g input. add_none-tell d.changes.items none g) c.set-in-SetLevel.ensures.adds_no_version

pub returns-in-SetGlobalMode-clause-evidence : goal.returns-in-SetGlobalMode-clause-evidence
returns-in-SetGlobalMode-clause-evidence c = IfOk-weaker c.set-in-SetGlobalMode.result _ _ (λ d none g input. add_none-tell d.changes.items none g) c.set-in-SetGlobalMode.ensures.adds_no_version

pub returns-in-SetMode-clause-evidence : goal.returns-in-SetMode-clause-evidence
returns-in-SetMode-clause-evidence c = IfOk-weaker c.set-in-SetMode.result _ _ (λ d none g input. add_none-tell d.changes.items none g) c.set-in-SetMode.ensures.adds_no_version

pub returns-in-DeleteVersion-clause-evidence : goal.returns-in-DeleteVersion-clause-evidence
returns-in-DeleteVersion-clause-evidence c = IfOk-weaker c.delete_version.result _ _ (λ d none g input. add_none-tell d.changes.items none g) c.delete_version.ensures.adds_no_version

pub returns-in-DeleteSubject-clause-evidence : goal.returns-in-DeleteSubject-clause-evidence
returns-in-DeleteSubject-clause-evidence c = IfOk-weaker c.delete_subject.result _ _ (λ d none g input. add_none-tell d.changes.items none g) c.delete_subject.ensures.adds_no_version

pub returns-in_ok-reply-in_default-clause-evidence : goal.returns-in_ok-reply-in_default-clause-evidence
returns-in_ok-reply-in_default-clause-evidence c g input = subst (λ (items : List Change). UpdateEvidence items g) (sym c.unchanged.ensures.changes) (add_none-tell [] tt g)
