-- What a call that only reads does to a connection, and which databases can be read.
use Rattle.std.specs.Prelude.{◌≡◌, ℕ, List, Some, IsTrue, IsUtf8}
use Rattle.std.specs.FinMap.{get}
use Rattle.sqlite.specs.State.{State, KeepsCommit}
use Rattle.sqlite.specs.Schema.{Schema}
use Rattle.sqlite.specs.Effect.{Database}
use Rattle.reg_tables.specs.Layout.{HasFiveTables, HasEightTables, meta}
use Rattle.reg_tables.specs.TableMaps.{ShowsMap}
use Rattle.reg_tables.specs.Contents.{TextMap, pair_form, Contents, AreReadable, HoldsContents}

-- nothing is committed, and while the connection is open its state is the last commit
pub record OnlyReads (old new : State) : Type 0 where
  pub commit_stays : KeepsCommit old new
  pub settled : IsTrue new.is_open → new.now ≡ new.committed

-- the database has one of these schemas and readable contents
pub record HoldsReadableIn (Known : Schema → Type 0) (db : Database) : Type 0 where
  pub schema : Schema
  pub known : Known schema
  pub contents : Contents
  pub holds : HoldsContents schema db contents
  pub readable : AreReadable contents

-- while the connection is open, the database has one of these schemas and readable contents
abbrev pub CanBeReadIn : (Schema → Type 0) → State → Type 0
CanBeReadIn Known s = IsTrue s.is_open → HoldsReadableIn Known s.now

-- the database begins with the five tables and has readable contents
abbrev pub HoldsReadable : Database → Type 0
HoldsReadable = HoldsReadableIn HasFiveTables

abbrev pub CanBeRead : State → Type 0
CanBeRead = CanBeReadIn HasFiveTables

-- the schema begins with the five tables and has no view, and the rows of `meta` are a map from names to values, all UTF-8
pub record HasReadableMeta (db : Database) : Type 0 where
  pub first : HasFiveTables db.schema
  pub values : TextMap (List ℕ)
  pub shows : ShowsMap pair_form (db.trees meta.tree) (get values)
  pub readable : (name value : List ℕ) → get values name ≡ Some value → IsUtf8 name × IsUtf8 value

-- while the connection is open, its `meta` is readable
abbrev pub CanReadMeta : State → Type 0
CanReadMeta s = IsTrue s.is_open → HasReadableMeta s.now

-- while the connection is open, the database has one of these schemas, with any rows
abbrev pub HasTablesIn : (Schema → Type 0) → State → Type 0
HasTablesIn Known s = IsTrue s.is_open → Known s.now.schema

-- while the connection is open, the schema begins with the five tables
abbrev pub BeginsWithFiveTables : State → Type 0
BeginsWithFiveTables = HasTablesIn HasFiveTables
