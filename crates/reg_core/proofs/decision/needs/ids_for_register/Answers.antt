use Rattle.std.proofs.Common.{◌≡◌, [], map, false, refl, sym, ap, ◌∙◌}
use Rattle.std.specs.Prelude.{if◌then◌else◌}
use Rattle.std.specs.Borrow.{Bor}
use Rattle.std.proofs.lemmas.Result.{IfOk-weaker}
use Rattle.reg_core.specs.Registry.{Row}
use Rattle.reg_core.specs.Rows.{live_rows}
use Rattle.reg_core.specs.Views.{level_of_view}
use Rattle.reg_core.specs.Compatibility.{named_versions}
use Rattle.reg_core.specs.Inside.Registering.{id_among}
use Rattle.reg_core.proofs.RegisterLemmas.{not_told}
use Rattle.reg_core.proofs.VersionVerdicts.{named_ids}
use Rattle.std.specs.Prelude.{is_some}
use Rattle.reg_core.specs.RegisterCommands.{is_among}
use Rattle.reg_core.proofs.decision.needs.ids_for_register.Goals as goal

pub returns : goal.returns
returns c =
    let view = c.args.view.now in
    let shown = c.in_ok-live.ensures ∙ ap live_rows c.deref.ensures.value in
    let live : map (λ (row : Bor Row). row.now) c.deref-2.result.now ≡ live_rows view.rows.items = ap (map (λ (row : Bor Row). row.now)) c.deref-2.ensures.value ∙ shown in
    let again : map (λ (row : Bor Row). row.now) c.deref-3.result.now ≡ live_rows view.rows.items = ap (map (λ (row : Bor Row). row.now)) c.deref-3.ensures.value ∙ shown in
    let told = sym (c.id_among.ensures ∙ ap (id_among view.known) live) in
    let unknown : is_among view.known (live_rows view.rows.items) ≡ false =
    not_told view.known (live_rows view.rows.items) (ap is_some told ∙ (sym c.is_some.ensures ∙ c.if-is_some.false)) in
    let ids = named_ids (λ (row : Bor Row). row.now) c.level_in_force.result (level_of_view view) c.deref-3.result.now c.named_versions.result.now (live_rows view.rows.items) c.level_in_force.ensures again c.named_versions.ensures in
    let all : map (λ (row : Row). row.1.id) (named_versions (level_of_view view) (live_rows view.rows.items))
    ≡ map (λ (row : Row). row.1.id) (if is_among view.known (live_rows view.rows.items) then [] else named_versions (level_of_view view) (live_rows view.rows.items)) = rw unknown refl in
    IfOk-weaker c.ids_of.result _ _ (λ v h. h ∙ (ids ∙ all)) c.ids_of.ensures
