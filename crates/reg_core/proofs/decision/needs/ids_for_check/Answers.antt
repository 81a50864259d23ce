use Rattle.std.proofs.Common.{◌≡◌, [], ◌∷◌, map, ap, ◌∙◌}
use Rattle.std.specs.Prelude.{Option}
use Rattle.std.specs.Borrow.{Bor}
use Rattle.std.proofs.lemmas.Result.{IfOk-weaker}
use Rattle.reg_core.specs.declared.number.VersionChoice.{VersionChoice}
use Rattle.reg_core.specs.Registry.{Row}
use Rattle.reg_core.specs.Rows.{live_rows}
use Rattle.reg_core.specs.Views.{level_of_view, found_as_list}
use Rattle.reg_core.specs.ReadCommands.{found_row}
use Rattle.reg_core.specs.Numbers.{parse_choice}
use Rattle.reg_core.proofs.VersionVerdicts.{named_ids}
use Rattle.reg_core.proofs.decision.needs.ids_for_check.Goals as goal

pub returns-in-Ok : goal.returns-in-Ok
returns-in-Ok c =
    let view = c.args.view.now in
    let shown = c.in_ok-live.ensures ∙ ap live_rows c.deref.ensures.value in
    let live : map (λ (row : Bor Row). row.now) c.deref-2.result.now ≡ live_rows view.rows.items = ap (map (λ (row : Bor Row). row.now)) c.deref-2.ensures.value ∙ shown in
    let found = c.in-Ok.ensures ∙ (ap (λ (choice : Option VersionChoice). found_row choice (map (λ (row : Bor Row). row.now) c.deref-2.result.now)) c.parse_choice.ensures ∙ ap (found_row (parse_choice c.args.version.now)) live) in
    let rows : map (λ (row : Bor Row). row.now) (c.in-Ok.row ∷ []) ≡ found_as_list (found_row (parse_choice c.args.version.now) (live_rows view.rows.items)) = ap found_as_list found in
    let ids = named_ids (λ (row : Bor Row). row.now) c.level_in_force.result (level_of_view view) (c.in-Ok.row ∷ []) c.named_versions.result.now _ c.level_in_force.ensures rows c.named_versions.ensures in
    IfOk-weaker c.ids_of.result _ _ (λ v h. h ∙ ids) c.ids_of.ensures
