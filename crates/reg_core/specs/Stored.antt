-- The stored state (this project's choice).
use Rattle.std.specs.FinMap.{empty}
use Rattle.reg_core.specs.Evidence.{EvidenceMap, IsTrueEvidence}
use Rattle.reg_core.specs.KeptReplies.{Kept, nothing_kept}
use Rattle.reg_core.specs.Registry.{Registry, new_registry}

-- a registry, the kept replies, and the evidence of its versions
pub record Stored : Type 0 where
  pub registry : Registry
  pub replies : Kept
  pub evidence : EvidenceMap

-- a new registry, with no kept replies and no evidence
abbrev pub new_stored : Stored
new_stored = record { registry = new_registry; replies = nothing_kept; evidence = empty }

-- the evidence of its versions is true
abbrev pub HasTrueEvidence : Stored → Type 0
HasTrueEvidence was = IsTrueEvidence was.registry was.evidence
