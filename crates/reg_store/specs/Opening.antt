-- The databases that `Store::open` accepts and rejects.
use Rattle.std.specs.Prelude.{◌≡◌, ◌≢◌, ◌⊎◌, ◌<◌, ℕ, List, [], Bool, IsTrue, length, nat_lt, codes, Some, if◌then◌else◌}
use Rattle.sqlite.specs.Order.{Row}
use Rattle.sqlite.specs.Tree.{Trees}
use Rattle.sqlite.specs.Effect.{Database}
use Rattle.sqlite.specs.State.{State}
use Rattle.reg_tables.specs.declared.raw_texts.RawText.{RawText}
use Rattle.reg_tables.specs.declared.versions.RawVersion.{RawVersion}
use Rattle.reg_tables.specs.declared.levels.RawLevel.{RawLevel}
use Rattle.reg_tables.specs.declared.kept.RawKept.{RawKept}
use Rattle.reg_tables.specs.declared.meta.RawMeta.{RawMeta}
use Rattle.sqlite_rules.specs.Lists.{Has}
use Rattle.reg_tables.specs.Layout.{HasFiveTables, versions, meta, IsOpenable, layout_two_unindexed, layout_two_indexed_last}
use Rattle.reg_tables.specs.TableMaps.{IsEntry}
use Rattle.reg_tables.specs.Contents.{pair_form, Contents, HoldsContents}
use Rattle.reg_tables.specs.Reads.{HasReadableMeta}
use Rattle.reg_tables.specs.Selects.{ShowsMeta}
use Rattle.reg_rows.specs.Spelling.{Text}
use Rattle.reg_rows.specs.Meta.{number_in}
use Rattle.reg_core.specs.Stored.{Stored}
use Rattle.reg_store.specs.declared.error.StoreError.{StoreError}
use Rattle.reg_store.specs.declared.error.StoreError.TheVariants.{OldLayout, NewerLayout}
use Rattle.reg_store.specs.Failures.{is_fault}
use Rattle.reg_store.specs.Spells.{IsSpelledLayoutTwo, SpellsLayoutOne, SpellsUnopened, RecoversToIn, IsOpenOver}

-- ---- rows

abbrev pub text_columns : RawText → ℕ × Text
text_columns line = (line.id, line.text)

abbrev pub version_columns : RawVersion → Text × ℕ × ℕ × Bool
version_columns line = (line.subject, line.version, line.id, line.deleted)

abbrev pub level_columns : RawLevel → Text × Text
level_columns line = (line.subject, line.level)

abbrev pub kept_columns : RawKept → Text × Text × ℕ × Text
kept_columns line = (line.key, line.reply.command, line.reply.status, line.reply.body)

abbrev pub meta_columns : RawMeta → Text × Text
meta_columns line = (line.name, line.value)

-- ---- databases

abbrev pub HasMetaRow : List Row → List ℕ → List ℕ → Type 0
HasMetaRow rows name value = (row : Row) × Has rows row × IsEntry pair_form row name value

-- this project's choice: the rows name the format `avroreg` and a layout of this number
pub record RowsNameLayout (rows : List Row) (number : ℕ) : Type 0 where
  pub format : HasMetaRow rows (codes "format") (codes "avroreg")
  pub text : List ℕ
  pub layout : HasMetaRow rows (codes "layout") text
  pub is : number_in text ≡ Some number

-- in a database that begins with the five tables, the rows of `meta` name this layout
abbrev pub NamesLayout : Database → ℕ → Type 0
NamesLayout db number = RowsNameLayout (db.trees meta.tree) number

-- the database has no view, and the rows that SQLite returns for `meta` name this layout
pub record ShowsLayout (db : Database) (number : ℕ) : Type 0 where
  pub no_views : db.schema.views ≡ []
  pub rows : List Row
  pub shows : ShowsMeta db rows
  pub names : RowsNameLayout rows number

-- the database begins with the five tables, and the rows of `meta` can be read and name a layout with another number
pub record HasOtherLayout (own : ℕ) (db : Database) (number : ℕ) : Type 0 where
  pub holds : HasReadableMeta db
  pub names : NamesLayout db number
  pub other : number ≢ own

-- this project's choice: the error for a layout with another number
abbrev pub layout_error : ℕ → ℕ → StoreError
layout_error own number = if nat_lt number own then OldLayout number else NewerLayout number

-- `OldLayout` has a number above 0 and below `own`, `NewerLayout` one above `own`, and `meta` names that number
abbrev pub HasMetaNumberOf : ℕ → Database → StoreError → Type 0
HasMetaNumberOf own db (OldLayout number) = (0 < number) × (number < own) × ShowsLayout db number × (HasFiveTables db.schema → NamesLayout db number)
HasMetaNumberOf own db (NewerLayout number) = (own < number) × ShowsLayout db number × (HasFiveTables db.schema → NamesLayout db number)
HasMetaNumberOf own db _ = Unit {0}

-- if the connection is open and `meta` names another layout (`HasOtherLayout`), the error has its number, or memory or the disk failed
abbrev pub ReportsOther : ℕ → State → StoreError → Type 0
ReportsOther own s e = (number : ℕ) → IsTrue s.is_open → HasOtherLayout own s.now number → (e ≡ layout_error own number) ⊎ IsTrue (is_fault e)

-- this project's choice: `HasMetaNumberOf` for stores, which open layout 2
abbrev pub HasMetaNumber : Database → StoreError → Type 0
HasMetaNumber = HasMetaNumberOf 2

-- `ReportsOther` for stores, which open layout 2
abbrev pub ReportsLayout : State → StoreError → Type 0
ReportsLayout = ReportsOther 2

-- the tables of layout 2 spell a registry and lack the index
pub record LacksIndex (db : Database) : Type 0 where
  pub stored : Stored
  pub spelled : SpellsUnopened db stored
  pub bare : db.schema ≡ layout_two_unindexed

-- the tables lacked the index, and the trees are the same tables with the index
pub record IsIndexed (before : Database) (db : Trees) : Type 0 where
  pub found : LacksIndex before
  pub indexed : (held : Contents) → HoldsContents layout_two_unindexed before held → HoldsContents layout_two_indexed_last (record { schema = layout_two_indexed_last; trees = db }) held

-- the trees spell the stored state, with or without the index
abbrev pub RecoversToUnopened : Trees → Stored → Type 0
RecoversToUnopened = RecoversToIn IsOpenable IsSpelledLayoutTwo

-- this project's choice: if the connection was open, a crash leaves what its tables spelled, with or without the index
abbrev pub CrashKeepsStored : State → State → Type 0
CrashKeepsStored old new = IsTrue old.is_open → (was : Stored) → SpellsUnopened old.now was → (db : Trees) → new.may_leave db → RecoversToUnopened db was

-- the tables spelled the stored state, and the connection is open and its last commit spells the same
pub record OpensOver (old new : State) : Type 0 where
  pub stored : Stored
  pub spelled : SpellsUnopened old.now stored
  pub spells : IsOpenOver new stored

-- `versions` has this number of rows
abbrev pub HasVersionRows : Database → ℕ → Type 0
HasVersionRows db count = count ≡ length (db.trees versions.tree)

-- the tables of layout 1 spell the stored state, and `versions` has this number of rows
pub record FindsLayoutOne (db : Database) (count : ℕ) : Type 0 where
  pub stored : Stored
  pub spells : SpellsLayoutOne db stored
  pub counted : HasVersionRows db count
