use Rattle.std.proofs.Common.{◌≡◌, ◌∙◌, ℕ, None, refl, sym, ap, subst}
use Rattle.std.specs.Prelude.{Option}
use Rattle.reg_core.specs.ReadCommands.{lookup_row}
use Rattle.reg_core.specs.Rows.{rows_of, visible_rows}
use Rattle.reg_core.proofs.FewRows.{looks_up_none}
use Rattle.reg_store.proofs.ReadLemmas.{retell}
use Rattle.reg_store.proofs.store.sufficient_rows.looked_up_rows.Goals as goal

pub returns-in-Some : goal.returns-in-Some
returns-in-Some g c =
    retell c.found_rows.ensures (λ was over rows told.
    let all = rows_of was.registry c.args.subject.now in
    subst (λ (known : Option ℕ). lookup_row known (visible_rows c.args.shows_deleted rows.items) ≡ lookup_row known (visible_rows c.args.shows_deleted all)) (sym c.in-Some.is) told)

pub returns-in-None : goal.returns-in-None
returns-in-None g c =
    retell c.last_rows.ensures (λ was over rows is.
    let all = rows_of was.registry c.args.subject.now in
    subst (λ (known : Option ℕ). lookup_row known (visible_rows c.args.shows_deleted rows.items) ≡ lookup_row known (visible_rows c.args.shows_deleted all)) (sym c.in-None.is)
    (ap (λ items. lookup_row None (visible_rows c.args.shows_deleted items)) is ∙ looks_up_none c.args.shows_deleted None all refl))
