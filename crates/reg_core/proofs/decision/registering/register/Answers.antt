use Rattle.std.proofs.Common.{◌≡◌, ℕ, List, map, true, false, Some, None, refl, sym, ap, subst, ◌∙◌}
use Rattle.std.specs.Prelude.{option_map, option_copied}
use Rattle.avro_nodes.specs.Nodes.{nodes_view}
use Rattle.reg_core.specs.Replies.{ReplyView, IsCommandReply, success}
use Rattle.reg_core.specs.Bodies.{id_body}
use Rattle.reg_core.specs.Evidence.{Evidence}
use Rattle.reg_core.specs.Inside.Evidence.{UpdateEvidence}
use Rattle.reg_core.specs.Registry.{Registry, Row}
use Rattle.reg_core.specs.Rows.{live_rows}
use Rattle.std.specs.Borrow.{Bor}
use Rattle.reg_core.specs.Inside.Registering.{id_among, id_by_view, has_numbers_by_view, row_by_view, evidence_by_view, version_added}
use Rattle.reg_core.specs.Views.{after_changes, ChangesFit}
use Rattle.reg_core.specs.declared.decision.Change.{Change}
use Rattle.reg_core.proofs.OwnReplies.{invalid_schema-IsCommandReply, no_number_left-IsCommandReply}
use Rattle.reg_core.proofs.RegisterLemmas.{register_none, register_known, register_refused, register_full, register_added, added_changes, added_fit, added_evidence, not_among, no_row, some_row}
use Rattle.reg_core.proofs.VersionVerdicts.{verdict_of}
use Rattle.reg_core.proofs.decision.registering.register.Goals as goal

pub returns-in_default-clause-reply : goal.returns-in_default-clause-reply
returns-in_default-clause-reply c = λ g text supported input.
    let none : option_map nodes_view (option_copied c.args.schema) ≡ None = rw c.in_default.is refl in
    c.unchanged.ensures.reply ∙ (c.fault.ensures ∙ ap (λ (s : Registry × ReplyView). s.1) (sym (register_none g c.args.subject.now text supported c.args.view.now _ input none)))

pub returns-in_default-clause-changes : goal.returns-in_default-clause-changes
returns-in_default-clause-changes c = λ g text supported input.
    let none : option_map nodes_view (option_copied c.args.schema) ≡ None = rw c.in_default.is refl in
    ap (λ (changes : List Change). after_changes changes g) c.unchanged.ensures.changes
    ∙ ap (λ (s : Registry × ReplyView). s.0) (sym (register_none g c.args.subject.now text supported c.args.view.now _ input none))

pub returns-in_default-clause-own : goal.returns-in_default-clause-own
returns-in_default-clause-own c = subst IsCommandReply (sym (c.unchanged.ensures.reply ∙ c.fault.ensures)) invalid_schema-IsCommandReply

pub returns-in-Some-id_among-clause-reply : goal.returns-in-Some-id_among-clause-reply
returns-in-Some-id_among-clause-reply c =
    let view = c.args.view.now in
    let new = nodes_view c.in-Some.new.now in
    let some : option_map nodes_view (option_copied c.args.schema) ≡ Some new = rw c.in-Some.is refl in
    let live : map (λ (row : Bor Row). row.now) c.deref-2.result.now ≡ live_rows view.rows.items =
    ap (map (λ (row : Bor Row). row.now)) c.deref-2.ensures.value ∙ (c.in_ok-live.ensures ∙ ap live_rows c.deref.ensures.value) in
    let among = c.in-Some-id_among.ensures ∙ ap (id_among view.known) live in
    λ g text supported input.
    c.unchanged-in-Some-id_among.ensures.reply ∙ (c.in_ok-reply.ensures
    ∙ ap (λ (s : Registry × ReplyView). s.1) (sym (register_known g c.args.subject.now text supported view _ input new some c.in-Some-id_among.id among)))

pub returns-in-Some-id_among-clause-changes : goal.returns-in-Some-id_among-clause-changes
returns-in-Some-id_among-clause-changes c =
    let view = c.args.view.now in
    let new = nodes_view c.in-Some.new.now in
    let some : option_map nodes_view (option_copied c.args.schema) ≡ Some new = rw c.in-Some.is refl in
    let live : map (λ (row : Bor Row). row.now) c.deref-2.result.now ≡ live_rows view.rows.items =
    ap (map (λ (row : Bor Row). row.now)) c.deref-2.ensures.value ∙ (c.in_ok-live.ensures ∙ ap live_rows c.deref.ensures.value) in
    let among = c.in-Some-id_among.ensures ∙ ap (id_among view.known) live in
    λ g text supported input.
    ap (λ (changes : List Change). after_changes changes g) c.unchanged-in-Some-id_among.ensures.changes
    ∙ ap (λ (s : Registry × ReplyView). s.0) (sym (register_known g c.args.subject.now text supported view _ input new some c.in-Some-id_among.id among))

pub returns-then-not-branch-clause-reply : goal.returns-then-not-branch-clause-reply
returns-then-not-branch-clause-reply c =
    let view = c.args.view.now in
    let new = nodes_view c.in-Some.new.now in
    let some : option_map nodes_view (option_copied c.args.schema) ≡ Some new = rw c.in-Some.is refl in
    let shown = c.in_ok-live.ensures ∙ ap live_rows c.deref.ensures.value in
    let live : map (λ (row : Bor Row). row.now) c.deref-2.result.now ≡ live_rows view.rows.items = ap (map (λ (row : Bor Row). row.now)) c.deref-2.ensures.value ∙ shown in
    let again : map (λ (row : Bor Row). row.now) c.deref-3.result.now ≡ live_rows view.rows.items = ap (map (λ (row : Bor Row). row.now)) c.deref-3.ensures.value ∙ shown in
    let unknown = not_among view.known (live_rows view.rows.items) (sym c.in_default-id_among.is ∙ (c.id_among.ensures ∙ ap (id_among view.known) live)) in
    let refused = verdict_of view new c.level_in_force.result (map (λ (row : Bor Row). row.now) c.deref-3.result.now) (live_rows view.rows.items) c.level_in_force.ensures again false (sym c.if-not-branch.true ∙ c.in_ok-is_admitted_in_view.ensures) in
    λ g text supported input.
    c.unchanged-then-not-branch.ensures.reply ∙ (c.fault-then-not-branch.ensures
    ∙ ap (λ (s : Registry × ReplyView). s.1) (sym (register_refused g c.args.subject.now text supported view _ input new some unknown refused)))

pub returns-then-not-branch-clause-changes : goal.returns-then-not-branch-clause-changes
returns-then-not-branch-clause-changes c =
    let view = c.args.view.now in
    let new = nodes_view c.in-Some.new.now in
    let some : option_map nodes_view (option_copied c.args.schema) ≡ Some new = rw c.in-Some.is refl in
    let shown = c.in_ok-live.ensures ∙ ap live_rows c.deref.ensures.value in
    let live : map (λ (row : Bor Row). row.now) c.deref-2.result.now ≡ live_rows view.rows.items = ap (map (λ (row : Bor Row). row.now)) c.deref-2.ensures.value ∙ shown in
    let again : map (λ (row : Bor Row). row.now) c.deref-3.result.now ≡ live_rows view.rows.items = ap (map (λ (row : Bor Row). row.now)) c.deref-3.ensures.value ∙ shown in
    let unknown = not_among view.known (live_rows view.rows.items) (sym c.in_default-id_among.is ∙ (c.id_among.ensures ∙ ap (id_among view.known) live)) in
    let refused = verdict_of view new c.level_in_force.result (map (λ (row : Bor Row). row.now) c.deref-3.result.now) (live_rows view.rows.items) c.level_in_force.ensures again false (sym c.if-not-branch.true ∙ c.in_ok-is_admitted_in_view.ensures) in
    λ g text supported input.
    ap (λ (changes : List Change). after_changes changes g) c.unchanged-then-not-branch.ensures.changes
    ∙ ap (λ (s : Registry × ReplyView). s.0) (sym (register_refused g c.args.subject.now text supported view _ input new some unknown refused))

pub returns-in_default-2-clause-reply : goal.returns-in_default-2-clause-reply
returns-in_default-2-clause-reply c =
    let view = c.args.view.now in
    let new = nodes_view c.in-Some.new.now in
    let some : option_map nodes_view (option_copied c.args.schema) ≡ Some new = rw c.in-Some.is refl in
    let shown = c.in_ok-live.ensures ∙ ap live_rows c.deref.ensures.value in
    let live : map (λ (row : Bor Row). row.now) c.deref-2.result.now ≡ live_rows view.rows.items = ap (map (λ (row : Bor Row). row.now)) c.deref-2.ensures.value ∙ shown in
    let again : map (λ (row : Bor Row). row.now) c.deref-3.result.now ≡ live_rows view.rows.items = ap (map (λ (row : Bor Row). row.now)) c.deref-3.ensures.value ∙ shown in
    let unknown = not_among view.known (live_rows view.rows.items) (sym c.in_default-id_among.is ∙ (c.id_among.ensures ∙ ap (id_among view.known) live)) in
    let admitted = verdict_of view new c.level_in_force.result (map (λ (row : Bor Row). row.now) c.deref-3.result.now) (live_rows view.rows.items) c.level_in_force.ensures again true (sym c.if-not-branch.false ∙ c.in_ok-is_admitted_in_view.ensures) in
    let full = no_row (has_numbers_by_view view) (row_by_view view c.args.subject.now) (sym c.in_default-2.is ∙ c.in_ok-row.ensures) in
    λ g text supported input.
    c.unchanged-in_default-2.ensures.reply ∙ (c.fault-in_default-2.ensures
    ∙ ap (λ (s : Registry × ReplyView). s.1) (sym (register_full g c.args.subject.now text supported view _ input new some unknown admitted full)))

pub returns-in_default-2-clause-changes : goal.returns-in_default-2-clause-changes
returns-in_default-2-clause-changes c =
    let view = c.args.view.now in
    let new = nodes_view c.in-Some.new.now in
    let some : option_map nodes_view (option_copied c.args.schema) ≡ Some new = rw c.in-Some.is refl in
    let shown = c.in_ok-live.ensures ∙ ap live_rows c.deref.ensures.value in
    let live : map (λ (row : Bor Row). row.now) c.deref-2.result.now ≡ live_rows view.rows.items = ap (map (λ (row : Bor Row). row.now)) c.deref-2.ensures.value ∙ shown in
    let again : map (λ (row : Bor Row). row.now) c.deref-3.result.now ≡ live_rows view.rows.items = ap (map (λ (row : Bor Row). row.now)) c.deref-3.ensures.value ∙ shown in
    let unknown = not_among view.known (live_rows view.rows.items) (sym c.in_default-id_among.is ∙ (c.id_among.ensures ∙ ap (id_among view.known) live)) in
    let admitted = verdict_of view new c.level_in_force.result (map (λ (row : Bor Row). row.now) c.deref-3.result.now) (live_rows view.rows.items) c.level_in_force.ensures again true (sym c.if-not-branch.false ∙ c.in_ok-is_admitted_in_view.ensures) in
    let full = no_row (has_numbers_by_view view) (row_by_view view c.args.subject.now) (sym c.in_default-2.is ∙ c.in_ok-row.ensures) in
    λ g text supported input.
    ap (λ (changes : List Change). after_changes changes g) c.unchanged-in_default-2.ensures.changes
    ∙ ap (λ (s : Registry × ReplyView). s.0) (sym (register_full g c.args.subject.now text supported view _ input new some unknown admitted full))

pub returns-in_default-2-clause-own : goal.returns-in_default-2-clause-own
returns-in_default-2-clause-own c = subst IsCommandReply (sym (c.unchanged-in_default-2.ensures.reply ∙ c.fault-in_default-2.ensures)) no_number_left-IsCommandReply

pub returns-clause-reply : goal.returns-clause-reply
returns-clause-reply c =
    let view = c.args.view.now in
    let new = nodes_view c.in-Some.new.now in
    let some : option_map nodes_view (option_copied c.args.schema) ≡ Some new = rw c.in-Some.is refl in
    let shown = c.in_ok-live.ensures ∙ ap live_rows c.deref.ensures.value in
    let live : map (λ (row : Bor Row). row.now) c.deref-2.result.now ≡ live_rows view.rows.items = ap (map (λ (row : Bor Row). row.now)) c.deref-2.ensures.value ∙ shown in
    let again : map (λ (row : Bor Row). row.now) c.deref-3.result.now ≡ live_rows view.rows.items = ap (map (λ (row : Bor Row). row.now)) c.deref-3.ensures.value ∙ shown in
    let unknown = not_among view.known (live_rows view.rows.items) (sym c.in_default-id_among.is ∙ (c.id_among.ensures ∙ ap (id_among view.known) live)) in
    let admitted = verdict_of view new c.level_in_force.result (map (λ (row : Bor Row). row.now) c.deref-3.result.now) (live_rows view.rows.items) c.level_in_force.ensures again true (sym c.if-not-branch.false ∙ c.in_ok-is_admitted_in_view.ensures) in
    let left = some_row (has_numbers_by_view view) (row_by_view view c.args.subject.now) c.in-Some-2.row (sym c.in-Some-2.is ∙ c.in_ok-row.ensures) in
    let id : c.id.result ≡ id_by_view view = c.id.ensures ∙ ap (λ (row : Row). row.1.id) left.1 in
    λ g text supported input.
    c.in_ok-reply-2.ensures ∙ (ap (λ (n : ℕ). success (id_body n)) id
    ∙ ap (λ (s : Registry × ReplyView). s.1) (sym (register_added g c.args.subject.now text supported view _ input new some unknown admitted left.0)))

pub returns-clause-changes : goal.returns-clause-changes
returns-clause-changes c =
    let view = c.args.view.now in
    let new = nodes_view c.in-Some.new.now in
    let some : option_map nodes_view (option_copied c.args.schema) ≡ Some new = rw c.in-Some.is refl in
    let shown = c.in_ok-live.ensures ∙ ap live_rows c.deref.ensures.value in
    let live : map (λ (row : Bor Row). row.now) c.deref-2.result.now ≡ live_rows view.rows.items = ap (map (λ (row : Bor Row). row.now)) c.deref-2.ensures.value ∙ shown in
    let again : map (λ (row : Bor Row). row.now) c.deref-3.result.now ≡ live_rows view.rows.items = ap (map (λ (row : Bor Row). row.now)) c.deref-3.ensures.value ∙ shown in
    let unknown = not_among view.known (live_rows view.rows.items) (sym c.in_default-id_among.is ∙ (c.id_among.ensures ∙ ap (id_among view.known) live)) in
    let admitted = verdict_of view new c.level_in_force.result (map (λ (row : Bor Row). row.now) c.deref-3.result.now) (live_rows view.rows.items) c.level_in_force.ensures again true (sym c.if-not-branch.false ∙ c.in_ok-is_admitted_in_view.ensures) in
    let left = some_row (has_numbers_by_view view) (row_by_view view c.args.subject.now) c.in-Some-2.row (sym c.in-Some-2.is ∙ c.in_ok-row.ensures) in
    let alive : map (λ (row : Bor Row). row.now) c.deref-4.result.now ≡ live_rows view.rows.items = ap (map (λ (row : Bor Row). row.now)) c.deref-4.ensures.value ∙ shown in
    let evidence = c.in_ok-evidence.ensures ∙ ap (evidence_by_view view) alive in
    let changes = c.in_ok-changes.ensures ∙ (ap (λ (row : Row). version_added view.known row c.in_ok-evidence.evidence new) left.1 ∙ ap (λ (e : Evidence). version_added view.known (row_by_view view c.args.subject.now) e new) evidence) in
    λ g text supported input.
    ap (λ (items : List Change). after_changes items g) changes ∙ (added_changes g c.args.subject.now text supported view _ input new some unknown admitted
    ∙ ap (λ (s : Registry × ReplyView). s.0) (sym (register_added g c.args.subject.now text supported view _ input new some unknown admitted left.0)))

pub returns-clause-fit : goal.returns-clause-fit
returns-clause-fit c =
    let view = c.args.view.now in
    let new = nodes_view c.in-Some.new.now in
    let some : option_map nodes_view (option_copied c.args.schema) ≡ Some new = rw c.in-Some.is refl in
    let shown = c.in_ok-live.ensures ∙ ap live_rows c.deref.ensures.value in
    let live : map (λ (row : Bor Row). row.now) c.deref-2.result.now ≡ live_rows view.rows.items = ap (map (λ (row : Bor Row). row.now)) c.deref-2.ensures.value ∙ shown in
    let again : map (λ (row : Bor Row). row.now) c.deref-3.result.now ≡ live_rows view.rows.items = ap (map (λ (row : Bor Row). row.now)) c.deref-3.ensures.value ∙ shown in
    let unknown = not_among view.known (live_rows view.rows.items) (sym c.in_default-id_among.is ∙ (c.id_among.ensures ∙ ap (id_among view.known) live)) in
    let admitted = verdict_of view new c.level_in_force.result (map (λ (row : Bor Row). row.now) c.deref-3.result.now) (live_rows view.rows.items) c.level_in_force.ensures again true (sym c.if-not-branch.false ∙ c.in_ok-is_admitted_in_view.ensures) in
    let left = some_row (has_numbers_by_view view) (row_by_view view c.args.subject.now) c.in-Some-2.row (sym c.in-Some-2.is ∙ c.in_ok-row.ensures) in
    let alive : map (λ (row : Bor Row). row.now) c.deref-4.result.now ≡ live_rows view.rows.items = ap (map (λ (row : Bor Row). row.now)) c.deref-4.ensures.value ∙ shown in
    let evidence = c.in_ok-evidence.ensures ∙ ap (evidence_by_view view) alive in
    let changes = c.in_ok-changes.ensures ∙ (ap (λ (row : Row). version_added view.known row c.in_ok-evidence.evidence new) left.1 ∙ ap (λ (e : Evidence). version_added view.known (row_by_view view c.args.subject.now) e new) evidence) in
    λ g text supported input.
    subst (λ (items : List Change). ChangesFit items g) (sym changes) (added_fit g c.args.subject.now text supported view _ input new some unknown admitted left.0)

pub returns-clause-evidence : goal.returns-clause-evidence
returns-clause-evidence c =
    let view = c.args.view.now in
    let new = nodes_view c.in-Some.new.now in
    let some : option_map nodes_view (option_copied c.args.schema) ≡ Some new = rw c.in-Some.is refl in
    let shown = c.in_ok-live.ensures ∙ ap live_rows c.deref.ensures.value in
    let live : map (λ (row : Bor Row). row.now) c.deref-2.result.now ≡ live_rows view.rows.items = ap (map (λ (row : Bor Row). row.now)) c.deref-2.ensures.value ∙ shown in
    let again : map (λ (row : Bor Row). row.now) c.deref-3.result.now ≡ live_rows view.rows.items = ap (map (λ (row : Bor Row). row.now)) c.deref-3.ensures.value ∙ shown in
    let unknown = not_among view.known (live_rows view.rows.items) (sym c.in_default-id_among.is ∙ (c.id_among.ensures ∙ ap (id_among view.known) live)) in
    let admitted = verdict_of view new c.level_in_force.result (map (λ (row : Bor Row). row.now) c.deref-3.result.now) (live_rows view.rows.items) c.level_in_force.ensures again true (sym c.if-not-branch.false ∙ c.in_ok-is_admitted_in_view.ensures) in
    let left = some_row (has_numbers_by_view view) (row_by_view view c.args.subject.now) c.in-Some-2.row (sym c.in-Some-2.is ∙ c.in_ok-row.ensures) in
    let alive : map (λ (row : Bor Row). row.now) c.deref-4.result.now ≡ live_rows view.rows.items = ap (map (λ (row : Bor Row). row.now)) c.deref-4.ensures.value ∙ shown in
    let evidence = c.in_ok-evidence.ensures ∙ ap (evidence_by_view view) alive in
    let changes = c.in_ok-changes.ensures ∙ (ap (λ (row : Row). version_added view.known row c.in_ok-evidence.evidence new) left.1 ∙ ap (λ (e : Evidence). version_added view.known (row_by_view view c.args.subject.now) e new) evidence) in
    λ g text supported input.
    subst (λ (items : List Change). UpdateEvidence items g) (sym changes) (added_evidence g c.args.subject.now text supported view _ input new some unknown admitted)
