-- What the tables are checked for before a store is opened over them.
use Rattle.std.specs.Prelude.{◌≡◌, ◌<◌, ◌≤◌, ◌↔◌, ◌^◌, ℕ, ℤ, List, map, flat_map, length, string_bytes, Bool, false, Option, Some, Result, Ok, Err, IfOk, IfErr, IsTrue}
use Rattle.std.specs.List.{IsDistinct, AllByRecursion, AllZip}
use Rattle.std.specs.Ordering.{int_cmp, eq_by_cmp}
use Rattle.sqlite.specs.Schema.{Schema}
use Rattle.sqlite.specs.Effect.{Database}
use Rattle.sqlite.specs.Held.{Held, state}
use Rattle.sqlite.specs.State.{HasCleanDisk}
use Rattle.sqlite_trees.specs.declared.store.Store.{Ghosts}
use Rattle.reg_tables.specs.declared.raw_texts.RawText.{RawText}
use Rattle.reg_tables.specs.declared.versions.RawVersion.{RawVersion}
use Rattle.reg_tables.specs.declared.levels.RawLevel.{RawLevel}
use Rattle.reg_tables.specs.declared.kept.RawKept.{RawKept}
use Rattle.reg_tables.specs.declared.meta.RawMeta.{RawMeta}
use Rattle.reg_tables.specs.declared.modes.RawMode.{RawMode}
use Rattle.reg_tables.specs.declared.evidence.RawEvidence.{RawEvidence}
use Rattle.reg_tables.specs.declared.evidence.RawAgainst.{RawAgainst}
use Rattle.reg_tables.specs.Layout.{HasFiveTables, HasEightTables}
use Rattle.reg_tables.specs.Listings.{ListsTextIds, ListsTexts, ListsVersions, ListsLevels, ListsKept, ListsMeta, ListsModes, ListsEvidence, ListsAgainst, ListsAgainstOf, HasAgainstRows}
use Rattle.reg_tables.specs.Frames.{ReadsInAutocommit}
use Rattle.reg_rows.specs.Spelling.{meta_pair, IsIdentity, AreConsecutive, AreTexts, FitsVersions, FitsLevels, FitsKept, FitsModes, IsLevelName}
use Rattle.reg_rows.specs.Meta.{MetaPair, is_layout_one_meta, is_layout_two_meta, layout_of}
use Rattle.reg_rows.specs.Positions.{PositionKey, HaveEvidence, AreContiguous}
use Rattle.reg_core.specs.Registry.{RowKey, max_number}
use Rattle.reg_core.specs.Stored.{Stored}
use Rattle.reg_store.specs.declared.error.StoreError.{StoreError}
use Rattle.reg_store.specs.declared.error.StoreError.TheVariants.{Memory, Disk, NotARegistry, OldLayout, NewerLayout}
use Rattle.reg_store.specs.declared.conn.Conn.{Conn}
use Rattle.reg_store.specs.declared.layout.Layout.{Layout}
use Rattle.reg_store.specs.declared.layout.Layout.TheVariants.{One, Two}
use Rattle.reg_store.specs.Failures.{IsFaultBy, HasDiskCause}
use Rattle.reg_store.specs.Opening.{text_columns, meta_columns}
use Rattle.reg_store.specs.Spells.{SpellsLayoutOne, SpellsUnopened}
use Rattle.reg_store.specs.Inside.Reads.{SpellsBase}

abbrev pub AreDistinct : List ℤ → Type 0
AreDistinct = IsDistinct (eq_by_cmp int_cmp)

-- ---- valid tables

abbrev pub text_fits : RawText → Type 0
text_fits line = IsIdentity (string_bytes line.text)

abbrev pub version_fits : RawVersion → Type 0
version_fits line = FitsVersions (string_bytes line.subject) line.version

abbrev pub level_fits : RawLevel → Type 0
level_fits line = FitsLevels (string_bytes line.subject) (string_bytes line.level)

abbrev pub kept_fits : RawKept → Type 0
kept_fits line = FitsKept (string_bytes line.key) line.reply.status

-- a table whose rows are checked one by one: the rowids are distinct, and each row is valid
pub record Passes {L : Type 0} (Lists : Database → List L → Type 0) (rowid_of : L → ℤ) (fits : L → Type 0) (db : Database) : Type 0 where
  pub lines : List L
  pub lists : Lists db lines
  pub apart : AreDistinct (map rowid_of lines)
  pub fit : AllByRecursion fits lines

abbrev pub LevelsPass : Database → Type 0
LevelsPass = Passes ListsLevels (λ line. line.rowid) level_fits

abbrev pub KeptPass : Database → Type 0
KeptPass = Passes ListsKept (λ line. line.rowid) kept_fits

abbrev pub pairs_of : List RawMeta → List MetaPair
pairs_of lines = map meta_pair (map meta_columns lines)

abbrev pub number_of : Layout → ℕ
number_of One = 1
number_of Two = 2

abbrev pub is_meta_of : Layout → List MetaPair → Bool
is_meta_of One = is_layout_one_meta
is_meta_of Two = is_layout_two_meta

pub record MetaPass (layout : Layout) (db : Database) : Type 0 where
  pub lines : List RawMeta
  pub lists : ListsMeta db lines
  pub apart : AreDistinct (map (λ (line : RawMeta). line.rowid) lines)
  pub fit : IsTrue (is_meta_of layout (pairs_of lines))

-- `texts` passes: its ids are 1, 2, .. in this order, up to the maximum, and each text is the identity text of a schema
pub record TextsPass (db : Database) : Type 0 where
  pub lines : List RawText
  pub lists : ListsTexts db lines
  pub fit : AreTexts (map text_columns lines)

-- `versions` passes: each row can be read, no rowid occurs twice, and each row has a valid subject and a valid number
abbrev pub VersionsPass : Database → Type 0
VersionsPass = Passes ListsVersions (λ line. line.rowid) version_fits

-- `texts`, `versions`, `levels` and `kept` pass their checks
pub record RestPasses (db : Database) : Type 0 where
  pub texts : TextsPass db
  pub versions : VersionsPass db
  pub levels : LevelsPass db
  pub kept : KeptPass db

pub record BaseTablesPass (layout : Layout) (db : Database) : Type 0 where
  pub meta : MetaPass layout db
  pub rest : RestPasses db

-- ---- the tables that layout 2 adds

abbrev pub mode_fits : RawMode → Type 0
mode_fits line = FitsModes (string_bytes line.subject) (string_bytes line.mode)

abbrev pub evidence_fits : RawEvidence → Type 0
evidence_fits line = IsLevelName (string_bytes line.level)

abbrev pub against_fits : RawAgainst → Type 0
against_fits line = line.position < 2 ^ 32

abbrev pub version_at : RawEvidence → RowKey
version_at line = (string_bytes line.subject, line.version)

abbrev pub position_at : RawAgainst → PositionKey
position_at line = ((string_bytes line.subject, line.version), line.position)

-- each version with ids has evidence, and the positions of its ids are exactly those from 1 to some number
abbrev pub AreInSequence : List RawEvidence → List RawAgainst → Type 0
AreInSequence evidence against = HaveEvidence (map version_at evidence) (map position_at against) × AreContiguous (map position_at against)

abbrev pub ModesPass : Database → Type 0
ModesPass = Passes ListsModes (λ line. line.rowid) mode_fits

pub record EvidenceFits (evidence : List RawEvidence) (against : List RawAgainst) : Type 0 where
  pub apart : AreDistinct (map (λ (line : RawEvidence). line.rowid) evidence)
  pub fit : AllByRecursion evidence_fits evidence
  pub against_rowids_apart : AreDistinct (map (λ (line : RawAgainst). line.rowid) against)
  pub positions_fit : AllByRecursion against_fits against
  pub placed : AreInSequence evidence against

-- the rows of `evidence` and `against` pass their checks: each table by itself, and both together
pub record EvidenceTablesPass (db : Database) : Type 0 where
  pub evidence : List RawEvidence
  pub against : List RawAgainst
  pub lists : ListsEvidence db evidence × ListsAgainst db against
  pub fits : EvidenceFits evidence against

-- the tables that layout 2 added pass their checks: `modes` by itself, `evidence` and `against` together
pub record AddedTablesPass (db : Database) : Type 0 where
  pub modes : ModesPass db
  pub evidence : EvidenceTablesPass db

pub record AllTablesPass (db : Database) : Type 0 where
  pub base : BaseTablesPass Two db
  pub added : AddedTablesPass db

-- ---- texts, some at a time

-- the ids of all rows are the numbers from 1 to `count`
pub record NumbersTexts (db : Database) (count : ℕ) : Type 0 where
  pub ids : List ℕ
  pub lists : ListsTextIds db ids
  pub numbered : AreConsecutive 1 ids
  pub is : length ids ≡ count
  pub few : count ≤ max_number

-- whether each of the listed rows has the identity text of a schema
pub record Judges (Lists : List RawText → Type 0) (fit : Bool) : Type 0 where
  pub lines : List RawText
  pub lists : Lists lines
  pub judged : IsTrue fit ↔ AllByRecursion text_fits lines

-- ---- ids, one version at a time

-- The positions of a version's rows are below 2^32. They are 1, 2, and so on without a gap, in any order; one may occur twice.
abbrev pub ArePositionsContiguous : List RawAgainst → Type 0
ArePositionsContiguous lines = AllByRecursion against_fits lines × AreContiguous (map position_at lines)

abbrev pub rowids_in : List RawAgainst → List ℤ
rowids_in = map (λ (line : RawAgainst). line.rowid)

-- the rowids of a version's rows of `against`, and whether their positions are 1, 2, and so on
pub record JudgesVersion (version : RowKey) (db : Database) (rowids : List ℤ) (fit : Bool) : Type 0 where
  pub lines : List RawAgainst
  pub lists : ListsAgainstOf version db lines
  pub have : rowids_in lines ≡ rowids
  pub judged : IsTrue fit ↔ ArePositionsContiguous lines

-- the rowids of the rows of `against` of several versions, and whether the positions of each version are 1, 2, and so on
pub record JudgesVersions (versions : List RowKey) (db : Database) (rowids : List ℤ) (fit : Bool) : Type 0 where
  pub parts : List (List RawAgainst)
  pub lists : AllZip (λ version lines. ListsAgainstOf version db lines) versions parts
  pub have : rowids_in (flat_map (λ lines. lines) parts) ≡ rowids
  pub judged : IsTrue fit ↔ AllByRecursion ArePositionsContiguous parts

-- the same, with the number of rows of `against`, or the maximum integer if there are more
pub record JudgesIds (versions : List RowKey) (db : Database) (rowids : List ℤ) (fit : Bool) (count : ℕ) : Type 0 where
  pub judged : JudgesVersions versions db rowids fit
  pub counted : HasAgainstRows db count

-- ---- verdicts

-- the rows have distinct rowids, and are valid rows of `meta` in this layout
abbrev pub PassesMeta : Layout → List RawMeta → Type 0
PassesMeta layout lines = AreDistinct (map (λ (line : RawMeta). line.rowid) lines) × IsTrue (is_meta_of layout (pairs_of lines))

-- The results that the check of `meta` may have. `own` is the expected layout, `named` the layout that `meta` names, and `passes` whether the
-- rows are valid. Another layout is reported before an invalid row. `Memory` and `Disk` never occur.
abbrev pub RequiresLayout : ℕ → Option ℕ → Bool → Result (Unit {0}) StoreError → Type 0
RequiresLayout own named passes (Ok _) = IsTrue passes
RequiresLayout own named passes (Err Memory) = ⊥
RequiresLayout own named passes (Err Disk) = ⊥
RequiresLayout own named passes (Err NotARegistry) = (passes ≡ false) × ((number : ℕ) → named ≡ Some number → number ≡ own)
RequiresLayout own named passes (Err (OldLayout number)) = (named ≡ Some number) × (number < own)
RequiresLayout own named passes (Err (NewerLayout number)) = (named ≡ Some number) × (own < number)

-- The results that the check of these rows of `meta` may have. If the format is valid, another layout is reported before an invalid row. `Memory`
-- is always possible, `Disk` never.
abbrev pub JudgesMeta : Layout → List RawMeta → Result (Unit {0}) StoreError → Type 0
JudgesMeta layout lines (Ok _) = PassesMeta layout lines
JudgesMeta layout lines (Err Memory) = Unit {0}
JudgesMeta layout lines (Err Disk) = ⊥
JudgesMeta layout lines (Err NotARegistry) = (PassesMeta layout lines → ⊥) × ((number : ℕ) → layout_of (pairs_of lines) ≡ Some number → number ≡ number_of layout)
JudgesMeta layout lines (Err (OldLayout number)) = (layout_of (pairs_of lines) ≡ Some number) × (number < number_of layout)
JudgesMeta layout lines (Err (NewerLayout number)) = (layout_of (pairs_of lines) ≡ Some number) × (number_of layout < number)

-- ---- the expected state

pub record SpellsSome (Spells : Database → Stored → Type 0) (db : Database) : Type 0 where
  pub stored : Stored
  pub spells : Spells db stored

abbrev pub SpellsAs : Layout → Database → Type 0
SpellsAs One = SpellsSome SpellsLayoutOne
SpellsAs Two = SpellsSome SpellsUnopened

-- ---- a check

-- A call that changes nothing. It returns facts about tables declared as expected. If the tables spell the expected state, only a fault
-- makes it fail. If they are declared as expected, `Disk` has a disk fault as its cause. Over closed connections, both always hold.
pub record Checks {S X : Type 0} (Declared : Schema → Type 0) (Spelled : Database → Type 0) (g : Ghosts S) (old new : Held S) (result : Result X StoreError) (IsAnswer : X → Database → Type 0) : Type 0 where
  pub frame : ReadsInAutocommit g old new result
  pub tells : HasCleanDisk (state g new) → IfOk result (λ x. Declared (state g old).now.schema → IsAnswer x (state g old).now)
  pub fault : HasCleanDisk (state g new) → IfErr result (λ e. (IsTrue (state g old).is_open → Spelled (state g old).now) → IsFaultBy (state g old) (state g new) e)
  pub disk_cause : HasCleanDisk (state g new) → IfErr result (λ e. (IsTrue (state g old).is_open → Declared (state g old).now.schema) → HasDiskCause (state g old) (state g new) e)

-- a check of the five tables of both layouts, which are expected to be as `Spelled` says
abbrev pub ChecksBaseTables : {S X : Type 0} {g : Ghosts S} → (Database → Type 0) → Conn S g → Conn S g → Result X StoreError → (X → Database → Type 0) → Type 0
ChecksBaseTables {S} {X} {g} Spelled old new = Checks HasFiveTables Spelled g old.idle.conn new.idle.conn

-- a check of these five tables, which are expected to spell the base of a registry
abbrev pub ChecksSpelledBase : {S X : Type 0} {g : Ghosts S} → Conn S g → Conn S g → Result X StoreError → (X → Database → Type 0) → Type 0
ChecksSpelledBase = ChecksBaseTables (SpellsSome SpellsBase)

-- a check of the eight tables of layout 2
abbrev pub ChecksAllTables : {S X : Type 0} {g : Ghosts S} → Conn S g → Conn S g → Result X StoreError → (X → Database → Type 0) → Type 0
ChecksAllTables {S} {X} {g} old new = Checks HasEightTables (SpellsAs Two) g old.idle.conn new.idle.conn
