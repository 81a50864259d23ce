use Rattle.std.proofs.Common.{◌≡◌, ◌∙◌, ◌∷◌, [], List, ℕ, Bool, true, Ok, Err, map, sym, ap, subst}
use Rattle.std.specs.Prelude.{Option, Result}
use Rattle.std.specs.Borrow.{Bor}
use Rattle.std.proofs.lemmas.Result.{IfOk-weaker}
use Rattle.reg_core.specs.declared.code.Code.{Code}
use Rattle.reg_core.specs.declared.decision.Change.{Change}
use Rattle.reg_core.specs.declared.number.VersionChoice.{VersionChoice}
use Rattle.reg_core.specs.Bodies.{number_body}
use Rattle.reg_core.specs.DeletionCommands.{row_to_delete}
use Rattle.reg_core.specs.Inside.Deleting.{version_change}
use Rattle.reg_core.specs.Numbers.{parse_choice}
use Rattle.reg_core.specs.Registry.{Registry, Row}
use Rattle.reg_core.specs.Replies.{ReplyView, IsCommandReply, success}
use Rattle.reg_core.specs.Rows.{live_rows, visible_rows}
use Rattle.reg_core.specs.Views.{after_changes}
use Rattle.reg_core.proofs.DeletionSteps.{deletion_refused, version_gone, all_shown}
use Rattle.reg_core.proofs.OwnReplies.{HasOwnFault, row_to_delete-fault}
use Rattle.reg_core.proofs.decision.deleting.delete_version.Goals as goal

-- the version found among the collected ones is the version found in the view
in_view : (permanent : Bool) (chosen : List ℕ) (choice : Option VersionChoice) (found : Result Row Code) (all : List Row) (rows live : List Row) → rows ≡ visible_rows true all → live ≡ live_rows all → choice ≡ parse_choice chosen
    → (live ≡ live_rows rows → found ≡ row_to_delete permanent choice rows) → found ≡ row_to_delete permanent (parse_choice chosen) all
in_view permanent chosen choice found all rows live are alive is seen =
    let same = are ∙ all_shown all in
    seen (alive ∙ ap live_rows (sym same)) ∙ (ap (λ (choice : Option VersionChoice). row_to_delete permanent choice rows) is ∙ ap (row_to_delete permanent (parse_choice chosen)) same)

pub returns-in-Ok-clause-reply : goal.returns-in-Ok-clause-reply
returns-in-Ok-clause-reply c =
    let found = in_view c.args.permanent c.args.version.now c.parse_choice.result (Ok c.in-Ok.row.now) c.args.view.now.rows.items _ _
    (ap (map (λ (row : Bor Row). row.now)) c.deref-3.ensures.value ∙ (c.in_ok-rows.ensures ∙ ap (visible_rows true) c.deref.ensures.value))
    (ap (map (λ (row : Bor Row). row.now)) c.deref-4.ensures.value ∙ (c.in_ok-live.ensures ∙ ap live_rows c.deref-2.ensures.value)) c.parse_choice.ensures c.in-Ok.ensures in
    IfOk-weaker c.delete_one.result _ _
    (λ decision h g schema input.
    h ∙ (ap (λ n. success (number_body n)) c.version.ensures
    ∙ ap (λ (s : Registry × ReplyView). s.1) (sym (version_gone g c.args.subject.now c.args.version.now c.args.permanent c.args.view.now schema input c.in-Ok.row.now found))))
    c.delete_one.ensures.reply

pub returns-in-Ok-clause-changes : goal.returns-in-Ok-clause-changes
returns-in-Ok-clause-changes c =
    let found = in_view c.args.permanent c.args.version.now c.parse_choice.result (Ok c.in-Ok.row.now) c.args.view.now.rows.items _ _
    (ap (map (λ (row : Bor Row). row.now)) c.deref-3.ensures.value ∙ (c.in_ok-rows.ensures ∙ ap (visible_rows true) c.deref.ensures.value))
    (ap (map (λ (row : Bor Row). row.now)) c.deref-4.ensures.value ∙ (c.in_ok-live.ensures ∙ ap live_rows c.deref-2.ensures.value)) c.parse_choice.ensures c.in-Ok.ensures in
    IfOk-weaker c.delete_one.result _ _
    (λ decision h g schema input.
    ap (λ (changes : List Change). after_changes changes g) (h ∙ ap (λ n. version_change c.args.permanent c.args.subject.now n ∷ []) c.version.ensures)
    ∙ ap (λ (s : Registry × ReplyView). s.0) (sym (version_gone g c.args.subject.now c.args.version.now c.args.permanent c.args.view.now schema input c.in-Ok.row.now found)))
    c.delete_one.ensures.changes

pub returns-clause-reply : goal.returns-clause-reply
returns-clause-reply c g schema input =
    let why = in_view c.args.permanent c.args.version.now c.parse_choice.result (Err c.in-Err.code) c.args.view.now.rows.items _ _
    (ap (map (λ (row : Bor Row). row.now)) c.deref-3.ensures.value ∙ (c.in_ok-rows.ensures ∙ ap (visible_rows true) c.deref.ensures.value))
    (ap (map (λ (row : Bor Row). row.now)) c.deref-4.ensures.value ∙ (c.in_ok-live.ensures ∙ ap live_rows c.deref-2.ensures.value)) c.parse_choice.ensures c.in-Err.ensures in
    c.unchanged.ensures.reply ∙ (c.fault.ensures
    ∙ ap (λ (s : Registry × ReplyView). s.1) (sym (deletion_refused g c.args.subject.now c.args.version.now c.args.permanent c.args.view.now schema input c.in-Err.code why)))

pub returns-clause-changes : goal.returns-clause-changes
returns-clause-changes c g schema input =
    let why = in_view c.args.permanent c.args.version.now c.parse_choice.result (Err c.in-Err.code) c.args.view.now.rows.items _ _
    (ap (map (λ (row : Bor Row). row.now)) c.deref-3.ensures.value ∙ (c.in_ok-rows.ensures ∙ ap (visible_rows true) c.deref.ensures.value))
    (ap (map (λ (row : Bor Row). row.now)) c.deref-4.ensures.value ∙ (c.in_ok-live.ensures ∙ ap live_rows c.deref-2.ensures.value)) c.parse_choice.ensures c.in-Err.ensures in
    ap (λ (changes : List Change). after_changes changes g) c.unchanged.ensures.changes
    ∙ ap (λ (s : Registry × ReplyView). s.0) (sym (deletion_refused g c.args.subject.now c.args.version.now c.args.permanent c.args.view.now schema input c.in-Err.code why))

pub returns-clause-own : goal.returns-clause-own
returns-clause-own c =
    let why = in_view c.args.permanent c.args.version.now c.parse_choice.result (Err c.in-Err.code) c.args.view.now.rows.items _ _
    (ap (map (λ (row : Bor Row). row.now)) c.deref-3.ensures.value ∙ (c.in_ok-rows.ensures ∙ ap (visible_rows true) c.deref.ensures.value))
    (ap (map (λ (row : Bor Row). row.now)) c.deref-4.ensures.value ∙ (c.in_ok-live.ensures ∙ ap live_rows c.deref-2.ensures.value)) c.parse_choice.ensures c.in-Err.ensures in
    subst IsCommandReply (sym (c.unchanged.ensures.reply ∙ c.fault.ensures))
    (subst HasOwnFault (sym why) (row_to_delete-fault c.args.permanent (parse_choice c.args.version.now) c.args.view.now.rows.items))
