-- Which earlier versions a level compares a new schema with, and which schemas it admits.
use Rattle.std.specs.Prelude.{Bool, true, false, List, [], All, None, option_to_list}
use Rattle.std.specs.List.{last_or}
use Rattle.avro_nodes.specs.Nodes.{NodeView}
use Rattle.avro_resolve.specs.Resolution.{Resolves}
use Rattle.reg_core.specs.declared.level.Level.{Level}
use Rattle.reg_core.specs.declared.level.Level.TheVariants.{Backward, BackwardTransitive, Forward, ForwardTransitive, Full, FullTransitive, Off}

-- a list of only the last version, empty if there is none; if `live` is in order of number, this is the latest
abbrev pub latest : {X : Type 0} → List X → List X
latest live = option_to_list (last_or None live)

-- Schema Registry API reference, Compatibility; Schema Evolution and Compatibility, Compatibility Types: the live versions that a level compares
-- a new schema with: all for a transitive level, none for NONE, else the latest. `live` must be in order of number.
abbrev pub named_versions : {X : Type 0} → Level → List X → List X
named_versions Backward live = latest live
named_versions BackwardTransitive live = live
named_versions Forward live = latest live
named_versions ForwardTransitive live = live
named_versions Full live = latest live
named_versions FullTransitive live = live
named_versions Off live = []

-- Schema Registry API reference, Compatibility: whether a level compares with all live versions
abbrev pub is_transitive : Level → Bool
is_transitive BackwardTransitive = true
is_transitive ForwardTransitive = true
is_transitive FullTransitive = true
is_transitive Backward = false
is_transitive Forward = false
is_transitive Full = false
is_transitive Off = false

-- Schema Evolution and Compatibility, Compatibility Types: the new schema reads what the earlier one wrote (backward), the earlier one reads what
-- the new one writes (forward), or both (full); NONE sets no condition
abbrev pub Compatible : Level → List NodeView → List NodeView → Type 0
Compatible Backward earlier new = Resolves earlier new
Compatible BackwardTransitive earlier new = Resolves earlier new
Compatible Forward earlier new = Resolves new earlier
Compatible ForwardTransitive earlier new = Resolves new earlier
Compatible Full earlier new = Resolves earlier new × Resolves new earlier
Compatible FullTransitive earlier new = Resolves earlier new × Resolves new earlier
Compatible Off earlier new = Unit {0}

-- Schema Registry API reference, Compatibility; Schema Evolution and Compatibility, Compatibility Types: the level admits the new schema after
-- these live versions, which are in order of number. The new schema is `Compatible` with each one that the level compares with (`named_versions`).
-- If there is none to compare with, the level admits every schema.
abbrev pub Admits : Level → List (List NodeView) → List NodeView → Type 0
Admits level live new = All (λ earlier. Compatible level earlier new) (named_versions level live)
