-- What the statements of a migration do to the contents of layout 1.
use Rattle.std.specs.Prelude.{◌≡◌, IsTrue}
use Rattle.sqlite.specs.Tree.{Trees}
use Rattle.sqlite.specs.Schema.{Schema}
use Rattle.sqlite.specs.Effect.{Database}
use Rattle.sqlite.specs.State.{State}
use Rattle.reg_tables.specs.Layout.{IsLayoutOne, layout_two}
use Rattle.reg_tables.specs.Contents.{Contents, HoldsContents}
use Rattle.reg_tables.specs.Changes.{marked_layout_two}

-- the contents that the tables had under this schema are now in layout 2, with the layout number 2 and the mode READWRITE
abbrev pub MigratesFrom : Schema → Database → Database → Type 0
MigratesFrom schema before db = (contents : Contents) → HoldsContents schema before contents → HoldsContents layout_two db (marked_layout_two contents)

-- the same for both schemas of layout 1
abbrev pub HoldsMigrated : Database → Database → Type 0
HoldsMigrated before db = (schema : Schema) → IsLayoutOne schema → MigratesFrom schema before db

-- If the tables of `before` have contents in layout 1, with or without the index, these trees have them migrated (`MigratesFrom`). The trees are read
-- under the schema `layout_two`.
abbrev pub TreesHoldMigrated : Database → Trees → Type 0
TreesHoldMigrated before db = HoldsMigrated before (record { schema = layout_two; trees = db })

-- the tables are those of layout 1, with or without the index, and have some contents
pub record HasLayoutOne (db : Database) : Type 0 where
  pub schema : Schema
  pub known : IsLayoutOne schema
  pub contents : Contents
  pub holds : HoldsContents schema db contents

-- if the connection is open, the tables are those of layout 1, with some contents
abbrev pub HasLayoutOneIfOpen : State → Type 0
HasLayoutOneIfOpen s = IsTrue s.is_open → HasLayoutOne s.now

-- the connection was open and still is, and its last commit has the migrated contents
pub record IsMigratedOver (old new : State) : Type 0 where
  pub was_open : IsTrue old.is_open
  pub is_open : IsTrue new.is_open
  pub settled : new.committed ≡ new.now
  pub holds : HoldsMigrated old.now new.now
