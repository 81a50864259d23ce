use Rattle.std.proofs.Common.{rules, ◌≡◌, ◌∙◌, Some, sym, ap, subst}
use Rattle.std.specs.Prelude.{Option}
use Rattle.reg_core.specs.declared.number.VersionChoice.{VersionChoice}
use Rattle.reg_core.specs.declared.number.VersionChoice.TheVariants.{Latest}
use Rattle.reg_core.specs.ReadCommands.{found_row}
use Rattle.reg_core.specs.Rows.{rows_of, visible_rows}
use Rattle.reg_core.proofs.ChosenRows.{latest_tells}
use Rattle.reg_store.proofs.ReadLemmas.{may_retell}
use Rattle.reg_store.proofs.store.chosen.chosen_rows.Goals as goal

pub returns-in-Latest : goal.returns-in-Latest
returns-in-Latest g c =
    may_retell c.last_rows.ensures.may (λ was rows is.
    let all = rows_of was.registry c.args.subject.now in
    subst (λ (choice : Option VersionChoice). found_row choice (visible_rows c.args.deleted rows.items) ≡ found_row choice (visible_rows c.args.deleted all)) (sym (c.in-Some.is ∙ ap Some c.in-Latest.is))
    (ap (λ items. found_row (Some Latest) (visible_rows c.args.deleted items)) is ∙ latest_tells c.args.deleted all))

pub returns-in-Numbered : goal.returns-in-Numbered
returns-in-Numbered g c = may_retell c.numbered_rows.ensures (λ was rows is. search rules)
