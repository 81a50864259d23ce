use Rattle.std.proofs.Common.{◌≡◌, ◌∙◌, false, None, Some, List, sym, ap, subst}
use Rattle.std.specs.Prelude.{option_map}
use Rattle.std.specs.List.{last_or}
use Rattle.std.proofs.lemmas.Bool.{not-true}
use Rattle.reg_core.specs.Needs.{SufficeToRegister}
use Rattle.reg_core.specs.Registry.{Row}
use Rattle.reg_core.specs.Rows.{live_rows, rows_of, rows_with, visible_rows}
use Rattle.reg_core.proofs.FewRows.{registers_found}
use Rattle.reg_tables.specs.declared.listed.SubjectVersion.{SubjectVersion}
use Rattle.reg_tables.specs.Entries.{subject_version_view}
use Rattle.reg_store.specs.Inside.Viewing.{row_numbered}
use Rattle.reg_store.proofs.FewLemmas.{found_has, found_is_shown, found_there, none_among}
use Rattle.reg_store.proofs.ReadLemmas.{fail, go_on, match_each, refuse, tell}
use Rattle.reg_store.proofs.store.sufficient_rows.known_schema_rows.Goals as goal

pub returns-in_err-line : goal.returns-in_err-line
returns-in_err-line g c = fail c.in_err-line.ensures c.from_residual.ensures.1

pub returns-in_err-row_list-in-Some : goal.returns-in_err-row_list-in-Some
returns-in_err-row_list-in-Some g c = refuse c.in_ok-line.ensures c.from_residual-in_err-row_list-in-Some.ensures.1

pub returns-in_ok-row_list-in-Some : goal.returns-in_ok-row_list-in-Some
returns-in_ok-row_list-in-Some g c =
    tell c.in_ok-line.ensures (λ was over found.
    let subject = c.args.subject.now in
    let all = rows_of was.registry subject in
    let row = row_numbered subject (subject_version_view c.in-Some.line) in
    let last : last_or None (rows_with c.args.id (visible_rows false all)) ≡ Some row =
    sym found ∙ ap (option_map (λ (line : SubjectVersion). row_numbered subject (subject_version_view line))) c.in-Some.is in
    subst (λ (rows : List Row). SufficeToRegister c.args.level (Some c.args.id) rows all) (sym c.in_ok-row_list-in-Some.ensures)
    (registers_found c.args.level c.args.id row all (found_there c.args.id false all row last) (found_has c.args.id false all row last) (not-true row.1.deleted (found_is_shown c.args.id false all row last))))

pub returns-in-None : goal.returns-in-None
returns-in-None g c =
    go_on c.in_ok-line.ensures c.new_schema_rows.ensures.may (λ was over found.
    let subject = c.args.subject.now in
    let all = rows_of was.registry subject in
    let none : last_or None (rows_with c.args.id (live_rows all)) ≡ None =
    sym found ∙ ap (option_map (λ (line : SubjectVersion). row_numbered subject (subject_version_view line))) c.in-None.is in
    match_each c.new_schema_rows.result (λ rows told. told (Some c.args.id) (none_among c.args.id (live_rows all) none)) (λ e h. h))
