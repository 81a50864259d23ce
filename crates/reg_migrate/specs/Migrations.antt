-- What `migrate` does to layout 1, and what a crash leaves. (Everything here is this project's choice.)
use Rattle.std.specs.Prelude.{◌≡◌, ◌⊎◌, ℕ, length, IsTrue}
use Rattle.std.specs.FinMap.{empty}
use Rattle.sqlite.specs.Tree.{Trees}
use Rattle.sqlite.specs.Effect.{Database}
use Rattle.sqlite.specs.State.{State}
use Rattle.reg_core.specs.Stored.{Stored}
use Rattle.reg_tables.specs.Layout.{versions}
use Rattle.reg_store.specs.Spells.{Spells, SpellsLayoutOne, IsOpenOver, RecoversTo, RecoversToLayoutOne}
use Rattle.reg_migrate.specs.declared.error.MigrateError.{MigrateError}
use Rattle.reg_migrate.specs.Errors.{HasMetaNumber, HasDiskCause, ReportsNewer, is_fault}

-- the tables are those of layout 1 and spell a registry
pub record IsLayoutOneRegistry (db : Database) : Type 0 where
  pub stored : Stored
  pub spelled : SpellsLayoutOne db stored

-- The tables of layout 1 spelled a registry, and `versions` had this number of rows, soft-deleted ones too. The connection is open over the same registry in
-- layout 2, and no version has evidence.
pub record Migrates (old new : State) (count : ℕ) : Type 0 where
  pub found : IsLayoutOneRegistry old.now
  pub counted : count ≡ length (old.now.trees versions.tree)
  pub spells : (was : Stored) → SpellsLayoutOne old.now was → IsOpenOver new was
  pub evidence : (now : Stored) → Spells new.now now → now.evidence ≡ empty

-- if the connection was closed, or its tables spelled a registry in layout 1, the error is `Memory` or `Disk`
abbrev pub IsMigrationFault : State → MigrateError → Type 0
IsMigrationFault old e = (IsTrue old.is_open → IsLayoutOneRegistry old.now) → IsTrue (is_fault e)

-- why `migrate` fails
pub record IsReasonOver (old new : State) (e : MigrateError) : Type 0 where
  -- over a closed connection or a registry in layout 1, `migrate` fails only because of memory, the disk, or a limit of the file
  pub fault : IsMigrationFault old e
  -- in any other database `Disk` has a disk fault as its cause
  pub disk_cause : HasDiskCause old new e ⊎ IsLayoutOneRegistry old.now
  -- a number comes from the rows of `meta`
  pub meta_number : HasMetaNumber old.now e
  pub newer : ReportsNewer old e

-- the tables of layout 1 spelled a registry, and the trees spell the same registry in layout 2
pub record RecoversToMigrated (before : Database) (db : Trees) : Type 0 where
  pub found : IsLayoutOneRegistry before
  pub spells : (was : Stored) → SpellsLayoutOne before was → RecoversTo db was

-- if the connection was open, a crash leaves what the tables of layout 1 spelled, in layout 1 or in layout 2
abbrev pub CrashKeepsStored : State → State → Type 0
CrashKeepsStored old new = IsTrue old.is_open → (was : Stored) → SpellsLayoutOne old.now was → (db : Trees) → new.may_leave db → RecoversToLayoutOne db was ⊎ RecoversTo db was
