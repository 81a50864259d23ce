-- A migration to layout 2, and its output.
use Rattle.std.specs.Prelude.{◌≡◌, ◌⊎◌, ℕ, List, ◌++◌, codes, Option, IsTrue}
use Rattle.std.specs.Fmt.{decimal}
use Rattle.std.specs.Io.KnownBytes.{Appends}
use Rattle.sqlite.specs.State.{State}
use Rattle.sqlite.specs.Tree.{Trees}
use Rattle.reg_tables.specs.Reads.{OnlyReads}
use Rattle.reg_store.specs.declared.error.StoreError.TheVariants.{Memory, Disk, NotARegistry, NewerLayout}
use Rattle.reg_migrate.specs.declared.error.MigrateError.{MigrateError}
use Rattle.reg_migrate.specs.declared.error.MigrateError.TheVariants as migrating
use Rattle.reg_migrate.specs.Errors.{KeepsCrashStates}
use Rattle.reg_migrate.specs.Migrations.{IsReasonOver, RecoversToMigrated, CrashKeepsStored, Migrates}
use Rattle.reg_output.specs.Prefixes.{AppendsPrefix}
use Rattle.reg_jobs.specs.declared.outcome.Outcome.{Outcome}
use Rattle.reg_jobs.specs.declared.outcome.Outcome.TheVariants.{Unopened, Migrate as MigrateEnded}
use Rattle.reg_jobs.specs.declared.migration.MigrateOutcome.{MigrateOutcome}
use Rattle.reg_jobs.specs.declared.migration.MigrateOutcome.TheVariants.{Whole, NotWritten}

-- the line that `migrate` prints after a migration, with the number of rows of `versions`, including soft-deleted ones
abbrev pub migrated_line : ℕ → List ℕ
migrated_line count = codes "layout 2: " ++ (decimal count ++ codes " versions kept\n")

-- the line for a database that has layout 2
abbrev pub nothing_line : List ℕ
nothing_line = codes "layout 2: nothing to do\n"

-- a line was printed, in full or a beginning of it
abbrev pub PrintsLine : List ℕ → Option (List ℕ) → Option (List ℕ) → MigrateOutcome → Type 0
PrintsLine line old new Whole = Appends old new line
PrintsLine line old new NotWritten = AppendsPrefix old new line

-- the tables of layout 1 spelled a registry, those of layout 2 spell it now, and the number of its versions was printed
pub record MigratesPrinting (old new : State) (writer writer' : Option (List ℕ)) (printed : MigrateOutcome) : Type 0 where
  pub count : ℕ
  pub moves : Migrates old new count
  pub prints : PrintsLine (migrated_line count) writer writer' printed

-- Why a database wasn't migrated. If its tables spell a registry in layout 1, the error is `Memory` or `Disk`. A layout above 1 is reported,
-- unless memory or the disk fails. Nothing is committed. A crash leaves what it could leave before, or layout 2 if layout 1 spelled a
-- registry; either way what it spelled.
pub record FailsToMigrate (old new : State) (error : MigrateError) : Type 0 where
  pub reason : IsReasonOver old new error
  pub only_reads : OnlyReads old new
  pub before : IsTrue old.is_open → KeepsCrashStates old new error
  pub found : CrashKeepsStored old new
  pub crash : (db : Trees) → new.may_leave db → old.may_leave db ⊎ RecoversToMigrated old.now db

-- the outcome for a database that wasn't migrated. If it has layout 2, a line says that there is nothing to do; otherwise nothing is
-- printed
abbrev pub PrintsUnmigrated : MigrateError → Option (List ℕ) → Option (List ℕ) → Outcome → Type 0
PrintsUnmigrated migrating.AlreadyNew writer writer' outcome = (printed : MigrateOutcome) × (outcome ≡ MigrateEnded printed) × PrintsLine nothing_line writer writer' printed
PrintsUnmigrated migrating.Memory writer writer' outcome = (outcome ≡ Unopened Memory) × (writer' ≡ writer)
PrintsUnmigrated migrating.Disk writer writer' outcome = (outcome ≡ Unopened Disk) × (writer' ≡ writer)
PrintsUnmigrated migrating.NotARegistry writer writer' outcome = (outcome ≡ Unopened NotARegistry) × (writer' ≡ writer)
PrintsUnmigrated (migrating.NewerLayout number) writer writer' outcome = (outcome ≡ Unopened (NewerLayout number)) × (writer' ≡ writer)

-- a database was migrated, and its line was printed
pub record IsMigrated (old new : State) (writer writer' : Option (List ℕ)) (outcome : Outcome) : Type 0 where
  pub printed : MigrateOutcome
  pub outcome_is : outcome ≡ MigrateEnded printed
  pub migrated : MigratesPrinting old new writer writer' printed

-- `migrate` returned an error, and committed nothing. If the database has layout 2 already, the outcome is `Migrate`, and the printed line
-- says that there is nothing to do.
pub record HasMigrateError (old new : State) (writer writer' : Option (List ℕ)) (outcome : Outcome) : Type 0 where
  pub error : MigrateError
  pub fails : FailsToMigrate old new error
  pub reports : PrintsUnmigrated error writer writer' outcome

-- a transaction was open, and nothing was done
pub record IsBusy (old : State) (writer writer' : Option (List ℕ)) (outcome : Outcome) : Type 0 where
  pub busy : IsTrue old.in_transaction
  pub outcome_is : outcome ≡ Unopened Disk
  pub unwritten : writer' ≡ writer

-- the outcome of a migration of a database, and what was printed
abbrev pub MigratesAs : State → State → Option (List ℕ) → Option (List ℕ) → Outcome → Type 0
MigratesAs old new writer writer' outcome =
    IsMigrated old new writer writer' outcome ⊎ (HasMigrateError old new writer writer' outcome ⊎ IsBusy old writer writer' outcome)
