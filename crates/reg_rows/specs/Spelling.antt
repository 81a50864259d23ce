-- Which rows of the tables spell a registry and its kept replies. This project's choice, except where a public document is named. The tables
-- themselves enforce that keys and texts are unique, that each id belongs to a text, and that each row of `evidence` and `against` has its
-- version.
use Rattle.std.specs.Prelude.{◌≡◌, ◌⊎◌, ℕ, ◌+◌, ◌<◌, ◌≤◌, Bool, IsTrue, List, [], ◌∷◌, length, map, is_some, String, string_bytes, ⊤}
use Rattle.std.specs.declared.alloc.Global.{Global}
use Rattle.std.specs.List.{AllByRecursion}
use Rattle.avro_nodes.specs.Nodes.{NodeView}
use Rattle.avro_nodes.specs.Identity.{identity}
use Rattle.avro_schema.specs.Texts.{IsSchema}
use Rattle.reg_core.specs.Keys.{IsKey}
use Rattle.reg_core.specs.Levels.{level_of}
use Rattle.reg_core.specs.Modes.{mode_of}
use Rattle.reg_core.specs.Replies.{IsKeptStatus}
use Rattle.reg_core.specs.Registry.{RowKey, max_number}
use Rattle.reg_core.specs.Subjects.{is_subject}
use Rattle.reg_rows.specs.Meta.{MetaPair, is_layout_one_meta, is_layout_two_meta}
use Rattle.reg_rows.specs.Positions.{PositionKey, AreContiguous, HaveEvidence}
use Rattle.reg_rows.specs.declared.tables.Tables.{Tables}

-- a text in a row
abbrev pub Text : Type 0
Text = String Global

-- ---- texts

-- the text is the identity text of a schema
pub record IsIdentity (text : List ℕ) : Type 0 where
  pub nodes : List NodeView
  pub schema : IsSchema nodes
  pub is : text ≡ identity nodes

abbrev pub IsTextRow : ℕ × Text → Type 0
IsTextRow row = IsIdentity (string_bytes row.1)

-- the numbers are `first`, `first + 1`, .. in this order
abbrev pub AreConsecutive : ℕ → List ℕ → Type 0
AreConsecutive first [] = ⊤
AreConsecutive first (number ∷ numbers) = (number ≡ first) × AreConsecutive (first + 1) numbers

-- each row has the identity text of a schema, and the ids are 1, 2, .. in this order, and at most `max_number`
pub record AreTexts (rows : List (ℕ × Text)) : Type 0 where
  pub numbered : AreConsecutive 1 (map (λ row. row.0) rows)
  pub few : length rows ≤ max_number
  pub identities : AllByRecursion IsTextRow rows

-- ---- versions

-- a valid subject, and a version number from 1 to the maximum
pub record FitsVersions (subject_text : List ℕ) (number : ℕ) : Type 0 where
  pub subject : IsTrue (is_subject subject_text)
  pub within : (0 < number) × (number ≤ max_number)

abbrev pub IsVersionRow : Text × ℕ × ℕ × Bool → Type 0
IsVersionRow row = FitsVersions (string_bytes row.0) row.1

-- ---- levels

-- Schema Registry API reference, Config: the text is the name of one of the seven levels
abbrev pub IsLevelName : List ℕ → Type 0
IsLevelName text = IsTrue (is_some (level_of text))

-- a valid subject, and the name of a level
pub record FitsLevels (subject_text level_text : List ℕ) : Type 0 where
  pub subject : IsTrue (is_subject subject_text)
  pub level : IsLevelName level_text

abbrev pub IsLevelRow : Text × Text → Type 0
IsLevelRow row = FitsLevels (string_bytes row.0) (string_bytes row.1)

-- ---- kept replies

-- a valid retry key, and a status whose replies are kept; the command and the body may be any texts
pub record FitsKept (key_text : List ℕ) (status_code : ℕ) : Type 0 where
  pub key : IsKey key_text
  pub status : IsKeptStatus status_code

abbrev pub IsKeptRow : Text × Text × ℕ × Text → Type 0
IsKeptRow row = FitsKept (string_bytes row.0) row.2

-- ---- modes

-- Schema Registry API reference, Mode: a valid subject, and the name of one of the two modes
pub record FitsModes (subject_text mode_text : List ℕ) : Type 0 where
  pub subject : IsTrue (is_subject subject_text)
  pub mode : IsTrue (is_some (mode_of mode_text))

abbrev pub IsModeRow : Text × Text → Type 0
IsModeRow row = FitsModes (string_bytes row.0) (string_bytes row.1)

-- ---- evidence, and the ids that a version was checked against

-- the third column is the name of a level; subject and number aren't tested, since the table enforces that the version exists
abbrev pub IsEvidenceRow : Text × ℕ × Text → Type 0
IsEvidenceRow row = IsLevelName (string_bytes row.2)

-- the version (subject and number) of a row of `evidence`
abbrev pub version_of : Text × ℕ × Text → RowKey
version_of row = (string_bytes row.0, row.1)

-- the version and the position of a row of `against`
abbrev pub version_position : Text × ℕ × ℕ × ℕ → PositionKey
version_position row = ((string_bytes row.0, row.1), row.2)

-- ---- meta

abbrev pub meta_pair : Text × Text → MetaPair
meta_pair row = (string_bytes row.0, string_bytes row.1)

-- ---- all tables

-- The rows of each table: those of `texts` in the order of their ids, all others in any order.
pub record Rows : Type 0 where
  pub texts : List (ℕ × Text)
  pub versions : List (Text × ℕ × ℕ × Bool)
  pub levels : List (Text × Text)
  pub kept : List (Text × Text × ℕ × Text)
  pub meta : List (Text × Text)
  pub modes : List (Text × Text)
  pub evidence : List (Text × ℕ × Text)
  pub against : List (Text × ℕ × ℕ × ℕ)

abbrev pub rows_in : Tables → Rows
rows_in t = record {
  texts = t.texts.items;
  versions = t.versions.items;
  levels = t.levels.items;
  kept = t.kept.items;
  meta = t.meta.items;
  modes = t.modes.items;
  evidence = t.evidence.items;
  against = t.against.items;
}

-- the tables with the same rules in both layouts: the rows of `texts`, `versions`, `levels` and `kept` are valid
pub record FitsBase (rows : Rows) : Type 0 where
  pub texts : AreTexts rows.texts
  pub versions : AllByRecursion IsVersionRow rows.versions
  pub levels : AllByRecursion IsLevelRow rows.levels
  pub kept : AllByRecursion IsKeptRow rows.kept

-- the rest of layout 1, which has no modes and no evidence
pub record FitsLayoutOne (rows : Rows) : Type 0 where
  pub meta : IsTrue (is_layout_one_meta (map meta_pair rows.meta))
  pub modes : rows.modes ≡ []
  pub evidence : rows.evidence ≡ []
  pub against : rows.against ≡ []

-- the rest of layout 2
pub record FitsLayoutTwo (rows : Rows) : Type 0 where
  pub meta : IsTrue (is_layout_two_meta (map meta_pair rows.meta))
  pub modes : AllByRecursion IsModeRow rows.modes
  pub evidence : AllByRecursion IsEvidenceRow rows.evidence
  pub tested : HaveEvidence (map version_of rows.evidence) (map version_position rows.against)
  pub positions : AreContiguous (map version_position rows.against)

-- the rows spell a registry and its kept replies, in layout 1 or layout 2
pub record IsSpelling (rows : Rows) : Type 0 where
  pub base : FitsBase rows
  pub layout : FitsLayoutOne rows ⊎ FitsLayoutTwo rows
