-- The evidence for each accepted version (this project's choice).
use Rattle.std.specs.Prelude.{◌≡◌, ℕ, All, List, map, Option, None, Some}
use Rattle.std.specs.FinMap.{FinMap, get}
use Rattle.avro_nodes.specs.Nodes.{NodeView}
use Rattle.reg_core.specs.declared.level.Level.{Level}
use Rattle.reg_core.specs.declared.command.Command.{Command}
use Rattle.reg_core.specs.Compatibility.{Compatible, named_versions}
use Rattle.reg_core.specs.Registry.{Registry, Row, RowKey, Schemas, Version, row_cmp, schema_at}
use Rattle.reg_core.specs.RegisterCommands.{level_in}
use Rattle.reg_core.specs.Rows.{rows_of, live_rows}
use Rattle.reg_core.specs.Machine.{step}

-- why a version was accepted: the level in force then, and the schema ids of the versions that the level compared with, in order
pub record Evidence : Type 0 where
  pub level : Level
  pub against : List ℕ

-- the evidence of versions, by subject and number; a version may have none
abbrev pub EvidenceMap : Type 0
EvidenceMap = FinMap row_cmp Evidence

-- only versions of the registry have evidence
abbrev pub HasOnlyVersions : Registry → EvidenceMap → Type 0
HasOnlyVersions g evidence = (key : RowKey) → get g.rows key ≡ None → get evidence key ≡ None

-- ---- true evidence

-- Schema Evolution and Compatibility, Compatibility Types: the schema with the id is compatible with the new one, in the level's directions
abbrev pub IsCompatibleWith : Schemas → Level → List NodeView → ℕ → Type 0
IsCompatibleWith schemas level new id = (earlier : List NodeView) × (schema_at schemas id ≡ Some earlier) × Compatible level earlier new

-- the evidence for a schema is true: each schema whose id it lists is compatible with this one, in its level's directions
abbrev pub IsTrueForSchema : Schemas → List NodeView → Evidence → Type 0
IsTrueForSchema schemas new evidence = All (IsCompatibleWith schemas evidence.level new) evidence.against

-- each version's evidence, if it has some, is true
abbrev pub IsTrueEvidence : Registry → EvidenceMap → Type 0
IsTrueEvidence g evidence = (key : RowKey) (version : Version) (one : Evidence) (nodes : List NodeView) → get g.rows key ≡ Some version → get evidence key ≡ Some one
    → schema_at g.schemas version.id ≡ Some nodes → IsTrueForSchema g.schemas nodes one

-- ---- evidence after a command

-- the evidence of the version that is registered next for the subject
abbrev pub next_evidence : Registry → List ℕ → Evidence
next_evidence g subject = record {
  level = level_in g subject;
  against = map (λ (row : Row). row.1.id) (named_versions (level_in g subject) (live_rows (rows_of g subject)));
}

-- a removed version has no evidence, an existing one keeps its evidence, and a new one gets its own
abbrev pub kept_or_new : Option Version → Option Version → Option Evidence → Evidence → Option Evidence
kept_or_new before None had own = None
kept_or_new (Some version) (Some after) had own = had
kept_or_new None (Some after) had own = Some own

-- `new` is the evidence after registry `g` changed to `after` (`kept_or_new`): each new version has the `next_evidence` of `g`
abbrev pub IsEvidenceUpdate : Registry → Registry → EvidenceMap → EvidenceMap → Type 0
IsEvidenceUpdate g after old new = (key : RowKey) → get new key ≡ kept_or_new (get g.rows key) (get after.rows key) (get old key) (next_evidence g key.0)

-- `new` is the evidence after a command
abbrev pub IsEvidenceAfter : Registry → Command → EvidenceMap → EvidenceMap → Type 0
IsEvidenceAfter g command old new = IsEvidenceUpdate g (step g command).0 old new
