use Rattle.std.proofs.Common.{◌≡◌, [], ◌∷◌, map, Bool, Some, None, refl, sym, ap, subst, ◌∙◌}
use Rattle.std.specs.Prelude.{option_map, option_copied}
use Rattle.std.proofs.lemmas.Result.{IfOk-weaker}
use Rattle.avro_nodes.specs.Nodes.{nodes_view}
use Rattle.reg_core.specs.Replies.{ReplyView, IsCommandReply, success}
use Rattle.reg_core.specs.Bodies.{verdict_body}
use Rattle.reg_core.specs.Registry.{Registry, Row}
use Rattle.reg_core.specs.Rows.{live_rows}
use Rattle.std.specs.Borrow.{Bor}
use Rattle.reg_core.specs.Numbers.{parse_choice}
use Rattle.reg_core.specs.ReadCommands.{found_row}
use Rattle.reg_core.proofs.OwnReplies.{invalid_schema-IsCommandReply, invalid_version-IsCommandReply, HasOwnFault, found_row-fault}
use Rattle.reg_core.proofs.CheckLemmas.{check_no_choice, check_none, check_fault, check_shown}
use Rattle.reg_core.proofs.VersionVerdicts.{verdict_of}
use Rattle.reg_core.proofs.decision.registering.check.Goals as goal

pub returns-in_default-clause-reply : goal.returns-in_default-clause-reply
returns-in_default-clause-reply c = λ g subject text supported input.
    let none : parse_choice c.args.version.now ≡ None = sym c.parse_choice.ensures ∙ c.in_default.is in
    c.fault.ensures ∙ ap (λ (s : Registry × ReplyView). s.1) (sym (check_no_choice g subject c.args.version.now text supported c.args.view.now _ input none))

pub returns-in_default-clause-own : goal.returns-in_default-clause-own
returns-in_default-clause-own c = subst IsCommandReply (sym c.fault.ensures) invalid_version-IsCommandReply

pub returns-in_default-schema-clause-reply : goal.returns-in_default-schema-clause-reply
returns-in_default-schema-clause-reply c = λ g subject text supported input.
    let chosen : parse_choice c.args.version.now ≡ Some c.in-Some.choice = sym c.parse_choice.ensures ∙ c.in-Some.is in
    let none : option_map nodes_view (option_copied c.args.schema) ≡ None = rw c.in_default-schema.is refl in
    c.fault-in_default-schema.ensures
    ∙ ap (λ (s : Registry × ReplyView). s.1) (sym (check_none g subject c.args.version.now text supported c.args.view.now _ input c.in-Some.choice chosen none))

pub returns-in_default-schema-clause-own : goal.returns-in_default-schema-clause-own
returns-in_default-schema-clause-own c = subst IsCommandReply (sym c.fault-in_default-schema.ensures) invalid_schema-IsCommandReply

pub returns-in-Ok-clause-reply : goal.returns-in-Ok-clause-reply
returns-in-Ok-clause-reply c =
    let view = c.args.view.now in
    let new = nodes_view c.in-Some-schema.new.now in
    let row = c.in-Ok.row.now in
    let chosen : parse_choice c.args.version.now ≡ Some c.in-Some.choice = sym c.parse_choice.ensures ∙ c.in-Some.is in
    let some : option_map nodes_view (option_copied c.args.schema) ≡ Some new = rw c.in-Some-schema.is refl in
    let live : map (λ (r : Bor Row). r.now) c.deref-2.result.now ≡ live_rows view.rows.items =
    ap (map (λ (r : Bor Row). r.now)) c.deref-2.ensures.value ∙ (c.in_ok-live.ensures ∙ ap live_rows c.deref.ensures.value) in
    let found = c.in-Ok.ensures ∙ ap (found_row (Some c.in-Some.choice)) live in
    let compatible = verdict_of view new c.level_in_force.result (row ∷ []) (row ∷ []) c.level_in_force.ensures refl c.in_ok-compatible-in-Ok.compatible c.in_ok-compatible-in-Ok.ensures in
    IfOk-weaker c.verdict_reply.result _ _
    (λ reply h g subject text supported input.
    h ∙ (ap (λ (b : Bool). success (verdict_body b)) compatible
    ∙ ap (λ (s : Registry × ReplyView). s.1) (sym (check_shown g subject c.args.version.now text supported view _ input c.in-Some.choice chosen new some row found))))
    c.verdict_reply.ensures

pub returns-clause-reply : goal.returns-clause-reply
returns-clause-reply c = λ g subject text supported input.
    let view = c.args.view.now in
    let new = nodes_view c.in-Some-schema.new.now in
    let chosen : parse_choice c.args.version.now ≡ Some c.in-Some.choice = sym c.parse_choice.ensures ∙ c.in-Some.is in
    let some : option_map nodes_view (option_copied c.args.schema) ≡ Some new = rw c.in-Some-schema.is refl in
    let live : map (λ (r : Bor Row). r.now) c.deref-2.result.now ≡ live_rows view.rows.items =
    ap (map (λ (r : Bor Row). r.now)) c.deref-2.ensures.value ∙ (c.in_ok-live.ensures ∙ ap live_rows c.deref.ensures.value) in
    let found = c.in-Err.ensures ∙ ap (found_row (Some c.in-Some.choice)) live in
    c.fault-in-Err.ensures
    ∙ ap (λ (s : Registry × ReplyView). s.1) (sym (check_fault g subject c.args.version.now text supported view _ input c.in-Some.choice chosen new some c.in-Err.code found))

pub returns-clause-own : goal.returns-clause-own
returns-clause-own c =
    let rows = map (λ (r : Bor Row). r.now) c.deref-2.result.now in
    subst IsCommandReply (sym c.fault-in-Err.ensures) (subst HasOwnFault (sym c.in-Err.ensures) (found_row-fault (Some c.in-Some.choice) rows))
