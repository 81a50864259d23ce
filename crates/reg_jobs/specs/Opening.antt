-- What is opened for a job.
use Rattle.std.specs.Prelude.{◌≡◌, ◌⊎◌, ⊤, ℕ, List, length, slice_get, Option, None, Some, Vec, string_bytes}
use Rattle.std.specs.Global.{Global}
use Rattle.sqlite.specs.Held.{Held}
use Rattle.reg_store.specs.declared.error.StoreError.{StoreError}
use Rattle.reg_store.specs.declared.error.StoreError.TheVariants.{Disk, NotARegistry}
use Rattle.reg_cli.specs.declared.task.Job.{Job}
use Rattle.reg_cli.specs.declared.task.Job.TheVariants.{Run, Text as TextJob, Check as CheckJob, List as ListJob, Migrate, Audit}
use Rattle.reg_jobs.specs.declared.opening.Opened.{Opened}
use Rattle.reg_jobs.specs.declared.opening.Opened.TheVariants.{Nothing, Texts, Failed, Fresh, Database}

-- a file's bytes; none if no such file was given, or it couldn't be read
abbrev pub file_bytes : Option (Option (Vec ℕ Global)) → Option (List ℕ)
file_bytes None = None
file_bytes (Some None) = None
file_bytes (Some (Some bytes)) = Some bytes.items

-- the bytes of the file at a position among those that the job names
abbrev pub text_at : {S : Type 0} → Opened S → ℕ → Option (List ℕ)
text_at Nothing position = None
text_at (Texts texts) position = file_bytes (slice_get texts.items position)
text_at (Failed error) position = None
text_at (Fresh connection) position = None
text_at (Database connection) position = None

-- the opened connection, or `None`
abbrev pub connection_in : {S : Type 0} → Opened S → Option (Held S)
connection_in Nothing = None
connection_in (Texts texts) = None
connection_in (Failed error) = None
connection_in (Fresh connection) = Some connection
connection_in (Database connection) = Some connection

-- why no database was opened: it can't be, or there is none that has contents
abbrev pub IsOpenError : StoreError → Type 0
IsOpenError error = (error ≡ Disk) ⊎ (error ≡ NotARegistry)

-- a database for a job that may create its registry. It is opened, empty or not, or it isn't opened
abbrev pub OpensOrCreates : {S : Type 0} → Opened S → Type 0
OpensOrCreates Nothing = ⊥
OpensOrCreates (Texts texts) = ⊥
OpensOrCreates (Failed error) = IsOpenError error
OpensOrCreates (Fresh connection) = ⊤
OpensOrCreates (Database connection) = ⊤

-- a database for a job that creates no registry. It is opened, or it isn't
abbrev pub OpensExisting : {S : Type 0} → Opened S → Type 0
OpensExisting Nothing = ⊥
OpensExisting (Texts texts) = ⊥
OpensExisting (Failed error) = IsOpenError error
OpensExisting (Fresh connection) = ⊥
OpensExisting (Database connection) = ⊤

-- this number of schema files, readable or not
abbrev pub AreSchemaFiles : {S : Type 0} → ℕ → Opened S → Type 0
AreSchemaFiles count Nothing = ⊥
AreSchemaFiles count (Texts files) = length files.items ≡ count
AreSchemaFiles count (Failed error) = ⊥
AreSchemaFiles count (Fresh connection) = ⊥
AreSchemaFiles count (Database connection) = ⊥

-- a file was read as what is known of it: its bytes, or that it can't be read. If nothing is known, this says nothing
abbrev pub IsReadAs : Option (Option (List ℕ)) → Option (List ℕ) → Type 0
IsReadAs None bytes = ⊤
IsReadAs (Some known) bytes = bytes ≡ known

-- What is opened for a job, by its kind. `known` is what is known of the file with a name. Each schema file is read under its own name, of two the
-- reader's first.
abbrev pub OpensFor : {S : Type 0} → (List ℕ → Option (Option (List ℕ))) → Job → Opened S → Type 0
OpensFor known (Run None) opened = opened ≡ Nothing
OpensFor known (Run (Some file)) opened = OpensOrCreates opened
OpensFor known (TextJob file) opened = AreSchemaFiles 1 opened × IsReadAs (known (string_bytes file)) (text_at opened 0)
OpensFor known (CheckJob reader writer) opened =
    AreSchemaFiles 2 opened × IsReadAs (known (string_bytes reader)) (text_at opened 0) × IsReadAs (known (string_bytes writer)) (text_at opened 1)
OpensFor known (ListJob database kind) opened = OpensExisting opened
OpensFor known (Migrate database) opened = OpensExisting opened
OpensFor known (Audit database) opened = OpensExisting opened
