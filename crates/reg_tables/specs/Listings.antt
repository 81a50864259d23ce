-- Lists that have each row of a table once, in any order.
use Rattle.std.specs.Prelude.{◌≡◌, ℕ, ℤ, pos, min, Bool, not, ◌&&◌, List, map, filter, find, length, bytes_eq, string_bytes, Option, option_map, IsPermutation}
use Rattle.std.specs.declared.cmp.Ordering.{Ordering}
use Rattle.std.specs.Ordering.{is_eq, is_lt, is_gt, int_cmp, eq_by_cmp}
use Rattle.std.specs.List.{IsDistinct}
use Rattle.sqlite.specs.declared.types.Value.{Value}
use Rattle.sqlite.specs.declared.types.Value.TheVariants.{Int, Text}
use Rattle.sqlite.specs.Order.{Row, column, value_cmp}
use Rattle.sqlite.specs.Tree.{rowid}
use Rattle.sqlite.specs.Effect.{Database}
use Rattle.reg_tables.specs.declared.raw_texts.RawText.{RawText}
use Rattle.reg_tables.specs.declared.versions.RawVersion.{RawVersion}
use Rattle.reg_tables.specs.declared.levels.RawLevel.{RawLevel}
use Rattle.reg_tables.specs.declared.kept.RawKept.{RawKept}
use Rattle.reg_tables.specs.declared.meta.RawMeta.{RawMeta}
use Rattle.reg_tables.specs.declared.modes.RawMode.{RawMode}
use Rattle.reg_tables.specs.declared.evidence.RawEvidence.{RawEvidence}
use Rattle.reg_tables.specs.declared.evidence.RawAgainst.{RawAgainst}
use Rattle.reg_tables.specs.Layout.{texts, versions, levels, kept, meta, table_at}
use Rattle.reg_tables.specs.TableMaps.{RowForm}
use Rattle.reg_tables.specs.Contents.{PositionKey, VersionEntryView, KeptReplyView, text_form, version_form, pair_form, kept_form, evidence_form, against_form}
use Rattle.reg_tables.specs.KeptReplyViews.{kept_reply_view}

-- the cells of a rowid, of a key and of a value
abbrev pub RowParts : Type 0
RowParts = Value × Row × Row

abbrev pub parts_of : {K V : Type 0} → RowForm K V → Row → RowParts
parts_of form row = (rowid row, form.key_of row, form.value_of row)

-- the cells of an entry: its rowid, its key and its value
abbrev pub entry_parts : {K V : Type 0} → RowForm K V → ℤ × K × V → RowParts
entry_parts form entry = (Int entry.0, form.key_cells entry.1, form.value_cells entry.2)

abbrev pub Lists : {K V : Type 0} → RowForm K V → List Row → List (ℤ × K × V) → Type 0
Lists form rows entries = IsPermutation (map (parts_of form) rows) (map (entry_parts form) entries)

-- no rowid and no key occurs twice
pub record HasNoDuplicates {K V : Type 0} (R : K → K → Ordering) (entries : List (ℤ × K × V)) : Type 0 where
  pub rowids : IsDistinct (eq_by_cmp int_cmp) (map (λ entry. entry.0) entries)
  pub keys : IsDistinct (eq_by_cmp R) (map (λ entry. entry.1) entries)

abbrev pub without_rowid : {K V : Type 0} → ℤ × K × V → K × V
without_rowid entry = (entry.1, entry.2)

-- ---- the rows of the tables

-- each `x_entry` is the entry of a row as read: its rowid, its key and its value
abbrev pub text_entry : RawText → ℤ × ℕ × List ℕ
text_entry line = (pos line.id, line.id, string_bytes line.text)

abbrev pub version_entry : RawVersion → ℤ × (List ℕ × ℕ) × VersionEntryView
version_entry line = (line.rowid, (string_bytes line.subject, line.version), record { id = line.id; deleted = line.deleted })

abbrev pub level_entry : RawLevel → ℤ × List ℕ × List ℕ
level_entry line = (line.rowid, string_bytes line.subject, string_bytes line.level)

abbrev pub kept_entry : RawKept → ℤ × List ℕ × KeptReplyView
kept_entry line = (line.rowid, string_bytes line.key, kept_reply_view line.reply)

abbrev pub meta_entry : RawMeta → ℤ × List ℕ × List ℕ
meta_entry line = (line.rowid, string_bytes line.name, string_bytes line.value)

-- the value of the first row of `meta` with this name; `None` without such a row
abbrev pub meta_value : List ℕ → List RawMeta → Option (List ℕ)
meta_value name lines = option_map (λ (line : RawMeta). string_bytes line.value) (find (λ (line : RawMeta). bytes_eq (string_bytes line.name) name) lines)

abbrev pub ListsTexts : Database → List RawText → Type 0
ListsTexts db lines = Lists text_form (db.trees texts.tree) (map text_entry lines)

abbrev pub ListsVersions : Database → List RawVersion → Type 0
ListsVersions db lines = Lists version_form (db.trees versions.tree) (map version_entry lines)

abbrev pub ListsLevels : Database → List RawLevel → Type 0
ListsLevels db lines = Lists pair_form (db.trees levels.tree) (map level_entry lines)

abbrev pub ListsKept : Database → List RawKept → Type 0
ListsKept db lines = Lists kept_form (db.trees kept.tree) (map kept_entry lines)

abbrev pub ListsMeta : Database → List RawMeta → Type 0
ListsMeta db lines = Lists pair_form (db.trees meta.tree) (map meta_entry lines)

abbrev pub mode_entry : RawMode → ℤ × List ℕ × List ℕ
mode_entry line = (line.rowid, string_bytes line.subject, string_bytes line.mode)

abbrev pub ListsModes : Database → List RawMode → Type 0
ListsModes db lines = Lists pair_form (db.trees (table_at db.schema 5).tree) (map mode_entry lines)

abbrev pub evidence_entry : RawEvidence → ℤ × (List ℕ × ℕ) × List ℕ
evidence_entry line = (line.rowid, (string_bytes line.subject, line.version), string_bytes line.level)

abbrev pub against_entry : RawAgainst → ℤ × PositionKey × ℕ
against_entry line = (line.rowid, ((string_bytes line.subject, line.version), line.position), line.id)

abbrev pub ListsEvidence : Database → List RawEvidence → Type 0
ListsEvidence db lines = Lists evidence_form (db.trees (table_at db.schema 6).tree) (map evidence_entry lines)

abbrev pub ListsAgainst : Database → List RawAgainst → Type 0
ListsAgainst db lines = Lists against_form (db.trees (table_at db.schema 7).tree) (map against_entry lines)

-- ---- parts of `texts`

-- the ids of all texts, which are the rowids
abbrev pub ListsTextIds : Database → List ℕ → Type 0
ListsTextIds db ids = IsPermutation (map rowid (db.trees texts.tree)) (map (λ id. Int (pos id)) ids)

-- the rowid is at least `low` and at most `high`
abbrev pub is_between : ℕ → ℕ → Row → Bool
is_between low high row = not (is_lt (value_cmp (rowid row) (Int (pos low)))) && not (is_gt (value_cmp (rowid row) (Int (pos high))))

-- the texts whose ids are at least `low` and at most `high`
abbrev pub ListsTextsBetween : ℕ → ℕ → Database → List RawText → Type 0
ListsTextsBetween low high db lines = Lists text_form (filter (is_between low high) (db.trees texts.tree)) (map text_entry lines)

-- ---- parts of `against`

abbrev pub against_rows : Database → List Row
against_rows db = db.trees (table_at db.schema 7).tree

-- the row belongs to this version
abbrev pub is_of : List ℕ × ℕ → Row → Bool
is_of version row = is_eq (value_cmp (column row 1) (Text version.0)) && is_eq (value_cmp (column row 2) (Int (pos version.1)))

abbrev pub ListsAgainstOf : List ℕ × ℕ → Database → List RawAgainst → Type 0
ListsAgainstOf version db lines = Lists against_form (filter (is_of version) (against_rows db)) (map against_entry lines)

-- SQLite, Datatypes: the maximum integer
abbrev pub greatest_integer : ℕ
greatest_integer = 9223372036854775807

-- SQLite, count(*): the number of rows, or the maximum integer if there are more
abbrev pub HasAgainstRows : Database → ℕ → Type 0
HasAgainstRows db count = count ≡ min (length (against_rows db)) greatest_integer
