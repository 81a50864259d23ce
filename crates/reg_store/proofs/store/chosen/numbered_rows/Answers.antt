use Rattle.std.proofs.Common.{◌≡◌, ◌∙◌, [], ◌∷◌, Some, ap, subst}
use Rattle.reg_core.specs.declared.number.VersionChoice.TheVariants.{Numbered}
use Rattle.reg_core.specs.ReadCommands.{found_row}
use Rattle.reg_core.specs.Rows.{rows_of, visible_rows}
use Rattle.reg_core.proofs.ChosenRows.{absent_told, number_told}
use Rattle.reg_tables.specs.Entries.{subject_version_view}
use Rattle.reg_store.specs.Inside.Viewing.{row_numbered}
use Rattle.reg_store.proofs.ReadLemmas.{may_fail, tell, refuse, may_go_on, match_each}
use Rattle.reg_store.proofs.store.chosen.numbered_rows.Goals as goal

pub returns-in_err-line : goal.returns-in_err-line
returns-in_err-line g c = may_fail c.in_err-line.ensures.may c.from_residual.ensures.1

pub returns-in_err-row_list-in-Some : goal.returns-in_err-row_list-in-Some
returns-in_err-row_list-in-Some g c = (refuse c.in_ok-line.ensures c.from_residual-in_err-row_list-in-Some.ensures.1).may

pub returns-in_ok-row_list-in-Some : goal.returns-in_ok-row_list-in-Some
returns-in_ok-row_list-in-Some g c =
    (tell c.in_ok-line.ensures (λ was over line.
    let subject = c.args.subject.now in
    let row = row_numbered subject (subject_version_view c.in-Some.line) in
    let rows = rows_of was.registry subject in
    let found = rw c.in-Some.is at line in
    let told = number_told was.registry subject c.in-Some.line.number c.args.deleted row.1 found.0 found.2 in
    ap (λ items. found_row (Some (Numbered c.args.number)) (visible_rows c.args.deleted items)) c.in_ok-row_list-in-Some.ensures
    ∙ subst (λ n. found_row (Some (Numbered n)) (visible_rows c.args.deleted (row ∷ [])) ≡ found_row (Some (Numbered n)) (visible_rows c.args.deleted rows)) found.1 told)).may

pub returns-in-None : goal.returns-in-None
returns-in-None g c =
    may_go_on c.in_ok-line.ensures.may c.last_rows.ensures.may (λ was over line.
    let hidden = rw c.in-None.is at line in
    match_each c.last_rows.result (λ rows is. ap (λ items. found_row (Some (Numbered c.args.number)) (visible_rows c.args.deleted items)) is ∙ absent_told was.registry c.args.subject.now c.args.number c.args.deleted hidden) (λ e h. h))
