use Rattle.std.proofs.Common.{◌≡◌, map, ap, ◌∙◌}
use Rattle.std.specs.Borrow.{Bor}
use Rattle.std.proofs.lemmas.Result.{IfOk-weaker}
use Rattle.reg_core.specs.Registry.{Row}
use Rattle.reg_core.specs.Rows.{live_rows}
use Rattle.reg_core.specs.Views.{level_of_view}
use Rattle.reg_core.proofs.VersionVerdicts.{named_ids}
use Rattle.reg_core.proofs.decision.needs.ids_for_check_all.Goals as goal

pub returns : goal.returns
returns c =
    let view = c.args.view.now in
    let shown = c.in_ok-live.ensures ∙ ap live_rows c.deref.ensures.value in
    let live : map (λ (row : Bor Row). row.now) c.deref-2.result.now ≡ live_rows view.rows.items = ap (map (λ (row : Bor Row). row.now)) c.deref-2.ensures.value ∙ shown in
    let ids = named_ids (λ (row : Bor Row). row.now) c.level_in_force.result (level_of_view view) c.deref-2.result.now c.named_versions.result.now (live_rows view.rows.items) c.level_in_force.ensures live c.named_versions.ensures in
    IfOk-weaker c.ids_of.result _ _ (λ v h. h ∙ ids) c.ids_of.ensures
