-- The rows of all tables as they are read, and the contents that they make up.
use Rattle.std.specs.Prelude.{◌≡◌, List, [], Option, None, Some, slice_get, ℤ, map}
use Rattle.std.specs.FinMap.{from_entries}
use Rattle.sqlite.specs.Table.{Table}
use Rattle.sqlite.specs.Schema.{Schema}
use Rattle.sqlite.specs.Tree.{Trees}
use Rattle.reg_tables.specs.declared.raw_texts.RawText.{RawText}
use Rattle.reg_tables.specs.declared.versions.RawVersion.{RawVersion}
use Rattle.reg_tables.specs.declared.levels.RawLevel.{RawLevel}
use Rattle.reg_tables.specs.declared.kept.RawKept.{RawKept}
use Rattle.reg_tables.specs.declared.meta.RawMeta.{RawMeta}
use Rattle.reg_tables.specs.declared.modes.RawMode.{RawMode}
use Rattle.reg_tables.specs.declared.evidence.RawEvidence.{RawEvidence}
use Rattle.reg_tables.specs.declared.evidence.RawAgainst.{RawAgainst}
use Rattle.reg_tables.specs.TableMaps.{RowForm}
use Rattle.reg_tables.specs.Contents.{TableName, Texts, Versions, Levels, Kept, Meta, Modes, Evidence, Against, ordinal_of, KeyOf, ValueOf, cmp_of, form_of, Contents, MapOf}
use Rattle.reg_tables.specs.Listings.{HasNoDuplicates, Lists, kept_entry, level_entry, meta_entry, text_entry, version_entry, mode_entry, evidence_entry, against_entry, without_rowid}

abbrev pub RawRowOf : TableName → Type 0
RawRowOf Texts = RawText
RawRowOf Versions = RawVersion
RawRowOf Levels = RawLevel
RawRowOf Kept = RawKept
RawRowOf Meta = RawMeta
RawRowOf Modes = RawMode
RawRowOf Evidence = RawEvidence
RawRowOf Against = RawAgainst

abbrev pub entry_of : (name : TableName) → RawRowOf name → ℤ × KeyOf name × ValueOf name
entry_of Texts = text_entry
entry_of Versions = version_entry
entry_of Levels = level_entry
entry_of Kept = kept_entry
entry_of Meta = meta_entry
entry_of Modes = mode_entry
entry_of Evidence = evidence_entry
entry_of Against = against_entry

-- the rows of each table
abbrev pub RawRows : Type 0
RawRows = (name : TableName) → List (RawRowOf name)

-- the entries are those of the table's rows, each once, in any order; without a table there is no entry
abbrev pub ListsIn : {K V : Type 0} → RowForm K V → Trees → Option Table → List (ℤ × K × V) → Type 0
ListsIn form trees (Some table) entries = Lists form (trees table.tree) entries
ListsIn form trees None entries = entries ≡ []

abbrev pub ListsAll : Schema → Trees → RawRows → Type 0
ListsAll schema trees lines = (name : TableName) → ListsIn (form_of name) trees (slice_get schema.tables (ordinal_of name)) (map (entry_of name) (lines name))

abbrev pub HaveNoDuplicates : RawRows → Type 0
HaveNoDuplicates lines = (name : TableName) → HasNoDuplicates (cmp_of name) (map (entry_of name) (lines name))

-- the map that the rows make up
abbrev pub map_in : (name : TableName) → RawRows → MapOf name
map_in name lines = from_entries (map without_rowid (map (entry_of name) (lines name)))

abbrev pub contents_of : RawRows → Contents
contents_of lines = record {
  texts = map_in Texts lines;
  versions = map_in Versions lines;
  levels = map_in Levels lines;
  kept = map_in Kept lines;
  meta = map_in Meta lines;
  modes = map_in Modes lines;
  evidence = map_in Evidence lines;
  against = map_in Against lines;
}
