use Rattle.std.proofs.Common.{◌∙◌, ap, sym, subst}
use Rattle.std.specs.Prelude.{option_copied, option_map}
use Rattle.std.proofs.lemmas.Result.{IfOk-weaker}
use Rattle.avro_nodes.specs.Nodes.{nodes_view}
use Rattle.reg_core.specs.declared.command.Command.TheVariants.{Lookup, Version, Text, ById}
use Rattle.reg_core.specs.Numbers.{parse_choice, parse_id}
use Rattle.reg_core.specs.ReadCommands.{found_row, version_reply, version_text_reply, id_reply}
use Rattle.reg_core.specs.Replies.{IsCommandReply}
use Rattle.reg_core.specs.Rows.{visible_rows}
use Rattle.reg_core.specs.Views.{view_text}
use Rattle.reg_core.proofs.OwnReplies.{found_row-fault, version_reply-IsCommandReply, version_text_reply-IsCommandReply, id_reply-IsCommandReply, id_versions_reply-IsCommandReply, lookup_reply-IsCommandReply}
use Rattle.reg_core.proofs.ViewLemmas.{at_command, told_version, told_text, told_id, told_lookup}
use Rattle.reg_core.proofs.decision.reply_to_read.Goals as goal

pub returns-in-Lookup-clause-reply : goal.returns-in-Lookup-clause-reply
returns-in-Lookup-clause-reply c =
    IfOk-weaker c.lookup.result _ _
    (λ reply is g input.
    is ∙ at_command g _ c.args.view.now _ c.args.command.now (Lookup c.in-Lookup.subject c.in-Lookup.text c.in-Lookup.supported c.in-Lookup.deleted) c.in-Lookup.is
    (λ at. told_lookup g c.args.view.now _ c.in-Lookup.subject c.in-Lookup.text c.in-Lookup.supported c.in-Lookup.deleted at.sent at.shows) input)
    c.lookup.ensures

pub returns-in-Lookup-clause-own : goal.returns-in-Lookup-clause-own
returns-in-Lookup-clause-own c =
    IfOk-weaker c.lookup.result _ _
    (λ reply is. subst IsCommandReply (sym is)
    (lookup_reply-IsCommandReply (view_text c.args.view.now) (option_map nodes_view (option_copied c.args.schema)) c.args.view.now.known (visible_rows c.in-Lookup.deleted c.args.view.now.rows.items)))
    c.lookup.ensures

pub returns-in-Version-clause-reply : goal.returns-in-Version-clause-reply
returns-in-Version-clause-reply c =
    IfOk-weaker c.version.result _ _
    (λ reply is g input.
    is ∙ (ap (λ text. version_reply (view_text c.args.view.now) (found_row (parse_choice text) (visible_rows c.in-Version.deleted c.args.view.now.rows.items))) c.as_str.ensures ∙
    at_command g _ c.args.view.now _ c.args.command.now (Version c.in-Version.subject c.in-Version.chosen c.in-Version.deleted) c.in-Version.is
    (λ at. told_version g c.args.view.now c.in-Version.subject c.in-Version.chosen c.in-Version.deleted at.shows) input))
    c.version.ensures

pub returns-in-Version-clause-own : goal.returns-in-Version-clause-own
returns-in-Version-clause-own c =
    IfOk-weaker c.version.result _ _
    (λ reply is. subst IsCommandReply (sym is)
    (version_reply-IsCommandReply (view_text c.args.view.now) _ (found_row-fault (parse_choice c.as_str.result.now) (visible_rows c.in-Version.deleted c.args.view.now.rows.items))))
    c.version.ensures

pub returns-in-Text-clause-reply : goal.returns-in-Text-clause-reply
returns-in-Text-clause-reply c =
    IfOk-weaker c.version_text.result _ _
    (λ reply is g input.
    is ∙ (ap (λ text. version_text_reply (view_text c.args.view.now) (found_row (parse_choice text) (visible_rows c.in-Text.deleted c.args.view.now.rows.items))) c.as_str-in-Text.ensures ∙
    at_command g _ c.args.view.now _ c.args.command.now (Text c.in-Text.subject c.in-Text.chosen c.in-Text.deleted) c.in-Text.is
    (λ at. told_text g c.args.view.now c.in-Text.subject c.in-Text.chosen c.in-Text.deleted at.shows) input))
    c.version_text.ensures

pub returns-in-Text-clause-own : goal.returns-in-Text-clause-own
returns-in-Text-clause-own c =
    IfOk-weaker c.version_text.result _ _
    (λ reply is. subst IsCommandReply (sym is)
    (version_text_reply-IsCommandReply (view_text c.args.view.now) _ (found_row-fault (parse_choice c.as_str-in-Text.result.now) (visible_rows c.in-Text.deleted c.args.view.now.rows.items))))
    c.version_text.ensures

pub returns-in-ById-clause-reply : goal.returns-in-ById-clause-reply
returns-in-ById-clause-reply c =
    IfOk-weaker c.by_id.result _ _
    (λ reply is g input.
    is ∙ (ap (λ text. id_reply (view_text c.args.view.now) (parse_id text) c.args.view.now.rows.items) c.as_str-in-ById.ensures ∙
    at_command g _ c.args.view.now _ c.args.command.now (ById c.in-ById.id) c.in-ById.is
    (λ at. told_id g c.args.view.now c.in-ById.id at.shows) input))
    c.by_id.ensures

pub returns-in-ById-clause-own : goal.returns-in-ById-clause-own
returns-in-ById-clause-own c =
    IfOk-weaker c.by_id.result _ _
    (λ reply is. subst IsCommandReply (sym is) (id_reply-IsCommandReply (view_text c.args.view.now) (parse_id c.as_str-in-ById.result.now) c.args.view.now.rows.items))
    c.by_id.ensures

pub returns-in-VersionsOfId-clause-own : goal.returns-in-VersionsOfId-clause-own
returns-in-VersionsOfId-clause-own c =
    IfOk-weaker c.versions_of_id.result _ _
    (λ reply is. subst IsCommandReply (sym is) (id_versions_reply-IsCommandReply (parse_id c.as_str-in-VersionsOfId.result.now) c.in-VersionsOfId.deleted c.as_slice-in-VersionsOfId.result.now))
    c.versions_of_id.ensures
