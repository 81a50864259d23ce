use Rattle.std.proofs.Common.{◌∙◌, ℕ, List, map, refl, ap}
use Rattle.std.specs.Borrow.{Bor}
use Rattle.reg_core.specs.declared.level.Level.{Level}
use Rattle.reg_core.specs.Evidence.{Evidence}
use Rattle.reg_core.specs.Registry.{Row}
use Rattle.reg_core.specs.Views.{level_of_view}
use Rattle.reg_core.proofs.VersionVerdicts.{named_ids}
use Rattle.reg_core.proofs.decision.registering.evidence_after.Goals as goal

pub returns : goal.returns
returns c =
    let view = c.args.view.now in
    let ids = named_ids (λ (row : Bor Row). row.now) _ (level_of_view view) c.args.live.now c.named_versions.result.now (map (λ (row : Bor Row). row.now) c.args.live.now) c.level_in_force-level.ensures refl c.named_versions.ensures in
    c.new.ensures
    ∙ (ap (λ (level : Level). evidence_of level c.in_ok-against.against.items) c.level_in_force-level.ensures
    ∙ ap (evidence_of (level_of_view view)) (c.in_ok-against.ensures ∙ ids))
  where
    evidence_of : Level → List ℕ → Evidence
    evidence_of level against = record { level = level; against = against }
