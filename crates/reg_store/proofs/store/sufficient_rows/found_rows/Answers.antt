use Rattle.std.proofs.Common.{◌≡◌, ◌∙◌, None, Some, sym, ap}
use Rattle.std.specs.Prelude.{option_map}
use Rattle.std.specs.List.{last_or}
use Rattle.reg_core.specs.ReadCommands.{lookup_row}
use Rattle.reg_core.specs.Rows.{rows_of, rows_with, visible_rows}
use Rattle.reg_core.proofs.FewRows.{looks_up_found, looks_up_none}
use Rattle.reg_tables.specs.declared.listed.SubjectVersion.{SubjectVersion}
use Rattle.reg_tables.specs.Entries.{subject_version_view}
use Rattle.reg_store.specs.Inside.Viewing.{row_numbered}
use Rattle.reg_store.proofs.FewLemmas.{found_has, found_is_shown}
use Rattle.reg_store.proofs.ReadLemmas.{fail, go_on, match_each, refuse, tell}
use Rattle.reg_store.proofs.store.sufficient_rows.found_rows.Goals as goal

pub returns-in_err-line : goal.returns-in_err-line
returns-in_err-line g c = fail c.in_err-line.ensures c.from_residual.ensures.1

pub returns-in_err-row_list-in-Some : goal.returns-in_err-row_list-in-Some
returns-in_err-row_list-in-Some g c = refuse c.in_ok-line.ensures c.from_residual-in_err-row_list-in-Some.ensures.1

pub returns-in_ok-row_list-in-Some : goal.returns-in_ok-row_list-in-Some
returns-in_ok-row_list-in-Some g c =
    tell c.in_ok-line.ensures (λ was over found.
    let subject = c.args.subject.now in
    let deleted = c.args.shows_deleted in
    let all = rows_of was.registry subject in
    let row = row_numbered subject (subject_version_view c.in-Some.line) in
    let last : last_or None (rows_with c.args.id (visible_rows deleted all)) ≡ Some row =
    sym found ∙ ap (option_map (λ (line : SubjectVersion). row_numbered subject (subject_version_view line))) c.in-Some.is in
    ap (λ items. lookup_row (Some c.args.id) (visible_rows deleted items)) c.in_ok-row_list-in-Some.ensures
    ∙ looks_up_found deleted c.args.id row all last (found_is_shown c.args.id deleted all row last) (found_has c.args.id deleted all row last))

pub returns-in-None : goal.returns-in-None
returns-in-None g c =
    go_on c.in_ok-line.ensures c.last_rows.ensures.may (λ was over found.
    let subject = c.args.subject.now in
    let deleted = c.args.shows_deleted in
    let all = rows_of was.registry subject in
    let none : last_or None (rows_with c.args.id (visible_rows deleted all)) ≡ None =
    sym found ∙ ap (option_map (λ (line : SubjectVersion). row_numbered subject (subject_version_view line))) c.in-None.is in
    match_each c.last_rows.result (λ rows is. ap (λ items. lookup_row (Some c.args.id) (visible_rows deleted items)) is ∙ looks_up_none deleted (Some c.args.id) all none) (λ e h. h))
