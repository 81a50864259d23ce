use Rattle.std.proofs.Common.{◌≡◌, map, Bool, Some, None, refl, sym, ap, subst, ◌∙◌}
use Rattle.std.specs.Prelude.{option_map, option_copied}
use Rattle.std.proofs.lemmas.Result.{IfOk-weaker}
use Rattle.avro_nodes.specs.Nodes.{nodes_view}
use Rattle.reg_core.specs.Replies.{ReplyView, IsCommandReply, success}
use Rattle.reg_core.specs.Bodies.{verdict_body}
use Rattle.reg_core.specs.Registry.{Registry, Row}
use Rattle.reg_core.specs.Rows.{live_rows}
use Rattle.std.specs.Borrow.{Bor}
use Rattle.reg_core.proofs.OwnReplies.{invalid_schema-IsCommandReply}
use Rattle.reg_core.proofs.CheckLemmas.{check_all_none, check_all_shown}
use Rattle.reg_core.proofs.VersionVerdicts.{verdict_of}
use Rattle.reg_core.proofs.decision.registering.check_all.Goals as goal

pub returns-in_default-clause-reply : goal.returns-in_default-clause-reply
returns-in_default-clause-reply c = λ g subject text supported input.
    let none : option_map nodes_view (option_copied c.args.schema) ≡ None = rw c.in_default.is refl in
    c.fault.ensures ∙ ap (λ (s : Registry × ReplyView). s.1) (sym (check_all_none g subject text supported c.args.view.now _ input none))

pub returns-in_default-clause-own : goal.returns-in_default-clause-own
returns-in_default-clause-own c = subst IsCommandReply (sym c.fault.ensures) invalid_schema-IsCommandReply

pub returns-clause-reply : goal.returns-clause-reply
returns-clause-reply c =
    let view = c.args.view.now in
    let new = nodes_view c.in-Some.new.now in
    let some : option_map nodes_view (option_copied c.args.schema) ≡ Some new = rw c.in-Some.is refl in
    let live : map (λ (row : Bor Row). row.now) c.deref-2.result.now ≡ live_rows view.rows.items =
    ap (map (λ (row : Bor Row). row.now)) c.deref-2.ensures.value ∙ (c.in_ok-live.ensures ∙ ap live_rows c.deref.ensures.value) in
    let compatible = verdict_of view new c.level_in_force.result (map (λ (row : Bor Row). row.now) c.deref-2.result.now) (live_rows view.rows.items) c.level_in_force.ensures live c.in_ok-compatible.compatible c.in_ok-compatible.ensures in
    IfOk-weaker c.verdict_reply.result _ _
    (λ reply h g subject text supported input.
    h ∙ (ap (λ (b : Bool). success (verdict_body b)) compatible
    ∙ ap (λ (s : Registry × ReplyView). s.1) (sym (check_all_shown g subject text supported view _ input new some))))
    c.verdict_reply.ensures
