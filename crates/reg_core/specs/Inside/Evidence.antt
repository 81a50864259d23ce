-- The evidence of versions after changes.
use Rattle.std.specs.Prelude.{⊤, List, [], ◌∷◌}
use Rattle.reg_core.specs.declared.decision.Change.{Change}
use Rattle.reg_core.specs.declared.decision.Change.TheVariants as change
use Rattle.reg_core.specs.Evidence.{EvidenceMap, HasOnlyVersions, IsEvidenceUpdate}
use Rattle.reg_core.specs.Registry.{Registry}
use Rattle.reg_core.specs.Views.{after_changes, evidence_after_changes}

-- the change adds no version
abbrev pub AddsNoVersion : Change → Type 0
AddsNoVersion (change.SetGlobal level) = ⊤
AddsNoVersion (change.SetLevel subject level) = ⊤
AddsNoVersion (change.AddText id text) = ⊤
AddsNoVersion (change.AddRow row evidence) = ⊥
AddsNoVersion (change.MarkDeleted subject version) = ⊤
AddsNoVersion (change.Remove subject version) = ⊤
AddsNoVersion (change.DropLevel subject) = ⊤
AddsNoVersion (change.SetGlobalMode mode) = ⊤
AddsNoVersion (change.SetMode subject mode) = ⊤
AddsNoVersion (change.DropMode subject) = ⊤

-- no change adds a version
abbrev pub AddNoVersion : List Change → Type 0
AddNoVersion [] = ⊤
AddNoVersion (change ∷ changes) = AddsNoVersion change × AddNoVersion changes

-- the changes update the evidence as they update this registry (`IsEvidenceUpdate`)
abbrev pub UpdateEvidence : List Change → Registry → Type 0
UpdateEvidence changes g = (had : EvidenceMap) → HasOnlyVersions g had → IsEvidenceUpdate g (after_changes changes g) had (evidence_after_changes changes had)
