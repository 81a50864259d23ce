-- What a job does.
use Rattle.std.specs.Prelude.{◌≡◌, ◌≢◌, ◌⊎◌, ℕ, Bool, true, false, IsTrue, List, [], is_some, Option, None, Some, Result, string_bytes}
use Rattle.sqlite.specs.Held.{Held, state}
use Rattle.sqlite.specs.State.{State, HasCleanDisk}
use Rattle.sqlite_trees.specs.declared.store.Store.{Ghosts}
use Rattle.reg_core.specs.Stored.{Stored, new_stored}
use Rattle.reg_tables.specs.Layout.{empty_schema}
use Rattle.reg_store.specs.declared.error.StoreError.{StoreError}
use Rattle.reg_store.specs.declared.error.StoreError.TheVariants.{Disk, NotARegistry}
use Rattle.reg_store.specs.Failures.{is_fault}
use Rattle.reg_store.specs.Opening.{OpensOver}
use Rattle.reg_store.specs.Spells.{IsOpenOver, SpellsUnopened, SpellsWhileOpen}
use Rattle.reg_service.specs.declared.service.Service.{Service}
use Rattle.reg_service.specs.Processing.{ServesEach}
use Rattle.reg_service.specs.Deliveries.{Serves, served}
use Rattle.reg_service.specs.Services.{state_in, store_in}
use Rattle.reg_store.specs.Stores.{connection_of}
use Rattle.reg_http.specs.declared.serving.Ended.{Ended}
use Rattle.reg_cli.specs.declared.task.Job.{Job}
use Rattle.reg_cli.specs.declared.task.Job.TheVariants.{Run, Text as TextJob, Check as CheckJob, List as ListJob, Migrate, Audit}
use Rattle.reg_cli.specs.declared.task.ListingKind.{ListingKind}
use Rattle.reg_jobs.specs.declared.errors.ErrorWriter.{ErrorWriter}
use Rattle.reg_jobs.specs.declared.opening.Opened.{Opened}
use Rattle.reg_jobs.specs.declared.opening.Opened.TheVariants.{Nothing, Texts, Failed, Fresh, Database}
use Rattle.reg_jobs.specs.declared.outcome.Fault.{Fault}
use Rattle.reg_jobs.specs.declared.outcome.Outcome.{Outcome}
use Rattle.reg_jobs.specs.declared.outcome.Outcome.TheVariants.{Session as SessionEnded, Unopened, Text as TextEnded, Check as CheckEnded, List as ListEnded, Audit as AuditEnded}
use Rattle.reg_jobs.specs.Auditing.{AuditsAs}
use Rattle.reg_jobs.specs.declared.auditing.AuditOutcome.{AuditOutcome}
use Rattle.reg_jobs.specs.Databases.{ReturnsConnection, IsCreatedIn, CreatesNone, OpensNone}
use Rattle.reg_jobs.specs.Files.{PrintsTextAs, ChecksAs}
use Rattle.reg_jobs.specs.Listening.{ServesConnections}
use Rattle.reg_jobs.specs.Listings.{IfUnread, ListsAs, listing_of}
use Rattle.reg_jobs.specs.Migration.{MigratesAs}
use Rattle.reg_jobs.specs.Opening.{text_at, connection_in}
use Rattle.reg_jobs.specs.declared.listings.ListOutcome.{ListOutcome}
use Rattle.reg_jobs.specs.Outcomes.{result_of, status_of, ReportsResult}
use Rattle.reg_http.specs.Sessions.{Session}

-- the file that a job names; of two files the reader's; an empty name if there is none
abbrev pub file_of : Job → List ℕ
file_of (Run None) = []
file_of (Run (Some file)) = string_bytes file
file_of (TextJob file) = string_bytes file
file_of (CheckJob reader writer) = string_bytes reader
file_of (ListJob database kind) = string_bytes database
file_of (Migrate database) = string_bytes database
file_of (Audit database) = string_bytes database

-- the name of the file with the writer's schema, for `check`; for any other job the result of `file_of`
abbrev pub writer_schema_file_of : Job → List ℕ
writer_schema_file_of (Run database) = file_of (Run database)
writer_schema_file_of (TextJob file) = string_bytes file
writer_schema_file_of (CheckJob reader writer) = string_bytes writer
writer_schema_file_of (ListJob database kind) = string_bytes database
writer_schema_file_of (Migrate database) = string_bytes database
writer_schema_file_of (Audit database) = string_bytes database

-- the result of a job: the program's status, or a fault and its file
abbrev pub job_result : Job → Outcome → Result ℕ (Fault × List ℕ)
job_result job outcome = result_of outcome (file_of job) (writer_schema_file_of job)

-- the outcome is `made x`, for an x of which P is true
abbrev pub IsOutcome : {T : Type 0} → (T → Outcome) → (T → Type 0) → Outcome → Type 0
IsOutcome {T} made P outcome = (x : T) × (outcome ≡ made x) × P x

-- a session over a new registry
pub record RunsInMemory (reader reader' writer writer' : Option (List ℕ)) (outcome : Outcome) : Type 0 where
  pub now : Stored
  pub ended : Ended
  pub session : Session (λ xs. Serves new_stored (served xs) now) reader reader' writer writer' ended
  pub outcome_is : outcome ≡ SessionEnded ended

-- A store was opened over what was opened, or created in it; the last argument is the state after that. `Fresh`: the database was empty, and the
-- connection is open over a new registry. `Database`: it is open over the registry that the tables spelled. False of anything else.
abbrev pub OpensRegistry : {S : Type 0} (g : Ghosts S) → Opened S → State → Type 0
OpensRegistry g Nothing new = ⊥
OpensRegistry g (Texts texts) new = ⊥
OpensRegistry g (Failed error) new = ⊥
OpensRegistry g (Fresh old) new = IsCreatedIn (state g old) new
OpensRegistry g (Database old) new = OpensOver (state g old) new

-- Why no registry was opened or created, by what was opened, and the connection that is returned. For `Fresh` and `Database`, the reason is given on a
-- clean disk (`CreatesNone`, `OpensNone`).
abbrev pub OpensNoRegistry : {S : Type 0} (g : Ghosts S) → Opened S → Option (Held S) → StoreError → Type 0
OpensNoRegistry g Nothing returned error = (returned ≡ None) × (error ≡ Disk)
OpensNoRegistry g (Texts texts) returned error = (returned ≡ None) × (error ≡ Disk)
OpensNoRegistry g (Failed why) returned error = (returned ≡ None) × (error ≡ why)
OpensNoRegistry g (Fresh old) returned error = ReturnsConnection g returned (λ new. CreatesNone (state g old) new error)
OpensNoRegistry g (Database old) returned error = ReturnsConnection g returned (λ new. OpensNone (state g old) new error)

-- the stored state when a session begins, by what was opened
abbrev pub SessionStartsFrom : {S : Type 0} (g : Ghosts S) → Opened S → Stored → Type 0
SessionStartsFrom g Nothing was = ⊥
SessionStartsFrom g (Texts texts) was = ⊥
SessionStartsFrom g (Failed error) was = ⊥
SessionStartsFrom g (Fresh old) was = ¬ ((state g old).now.schema ≢ empty_schema) × (was ≡ new_stored)
SessionStartsFrom g (Database old) was = SpellsUnopened (state g old).now was

-- A service begins over what was opened: its connection is open over this stored state.
pub record BeginsOver {S : Type 0} (g : Ghosts S) (opened : Opened S) (begun : State) : Type 0 where
  pub was : Stored
  pub begins : SessionStartsFrom g opened was
  pub is_open : IsOpenOver begun was

-- A service over the database that was opened, whose connection is returned. `Served` is true of the service before and after. If the disk is clean
-- at the end, the service began over what was opened.
pub record RunsOver {S : Type 0} (g : Ghosts S) (opened : Opened S) (returned : Option (Held S)) (Served : Service S g → Service S g → Type 0) : Type 0 where
  pub before : Service S g
  pub after : Service S g
  pub given : returned ≡ Some (connection_of (store_in after))
  pub begins : HasCleanDisk (state_in after) → BeginsOver g opened (state_in before)
  pub served : Served before after

-- no registry was opened, and nothing was read or written
pub record RunsWithoutRegistry {S : Type 0} (g : Ghosts S) (opened : Opened S) (returned : Option (Held S)) (reader reader' writer writer' : Option (List ℕ)) (error : StoreError) : Type 0 where
  pub unread : reader' ≡ reader
  pub unwritten : writer' ≡ writer
  pub none : OpensNoRegistry g opened returned error

-- the outcome of a session over what was opened
abbrev pub RunsOn : {S : Type 0} (g : Ghosts S) → Opened S → Option (Held S) → Option (List ℕ) → Option (List ℕ) → Option (List ℕ) → Option (List ℕ) → Outcome → Type 0
RunsOn g opened returned reader reader' writer writer' outcome =
    IsOutcome SessionEnded (λ ended. RunsOver g opened returned (λ before after. Session (ServesEach before after) reader reader' writer writer' ended)) outcome
    ⊎ IsOutcome Unopened (RunsWithoutRegistry g opened returned reader reader' writer writer') outcome

-- the outcome of `run`: a session over what was opened if the job names a file, otherwise over a new registry in memory
abbrev pub RunsJob : {S : Type 0} (g : Ghosts S) → Opened S → Bool → Option (Held S) → Option (List ℕ) → Option (List ℕ) → Option (List ℕ) → Option (List ℕ) → Outcome → Type 0
RunsJob g opened false returned reader reader' writer writer' outcome = (returned ≡ connection_in opened) × RunsInMemory reader reader' writer writer' outcome
RunsJob g opened true returned reader reader' writer writer' outcome = RunsOn g opened returned reader reader' writer writer' outcome

-- The outcome of serving a network over what was opened. `Unopened`: no registry was opened or created, and the network is unchanged. A session's end:
-- `ServesConnections` is true of the network and the service.
abbrev pub ServesOn : {S I O N : Type 0} (g : Ghosts S) → (I → Option (List ℕ)) → (O → Option (List ℕ)) → (N → Option (List (I × O))) → (N → Option (List (I × O))) → ℕ
    → Opened S → Option (Held S) → N → N → Outcome → Type 0
ServesOn g remaining contents accepted closed most opened returned network network' outcome =
    IsOutcome SessionEnded (λ ended. RunsOver g opened returned (ServesConnections remaining contents most (accepted network) (accepted network') (closed network) (closed network'))) outcome
    ⊎ IsOutcome Unopened (λ error. (network' ≡ network) × OpensNoRegistry g opened returned error) outcome

-- What was opened is a `Database`, and P is true of the state in which it was opened. It may have no registry. False of anything else, also of `Fresh`.
abbrev pub OpenedDatabaseSatisfies : {S : Type 0} (g : Ghosts S) → Opened S → (State → Type 0) → Type 0
OpenedDatabaseSatisfies g Nothing P = ⊥
OpenedDatabaseSatisfies g (Texts texts) P = ⊥
OpenedDatabaseSatisfies g (Failed error) P = ⊥
OpenedDatabaseSatisfies g (Fresh old) P = ⊥
OpenedDatabaseSatisfies g (Database old) P = P (state g old)

-- Why a job that creates no registry opens none, and the connection that is returned. The connection to an empty
-- database is returned unchanged.
abbrev pub OpensNoExistingRegistry : {S : Type 0} (g : Ghosts S) → Opened S → Option (Held S) → StoreError → Type 0
OpensNoExistingRegistry g Nothing returned error = OpensNoRegistry g Nothing returned error
OpensNoExistingRegistry g (Texts texts) returned error = OpensNoRegistry g (Texts texts) returned error
OpensNoExistingRegistry g (Failed why) returned error = OpensNoRegistry g (Failed why) returned error
OpensNoExistingRegistry g (Fresh old) returned error = (returned ≡ Some old) × (error ≡ NotARegistry)
OpensNoExistingRegistry g (Database old) returned error = OpensNoRegistry g (Database old) returned error

-- A listing of the registry that a database's tables spelled. If the connection is still open, they still spell it. If the registry can't
-- be read, the error is `Memory` or `Disk`.
pub record ListsOver (old : State) (kind : ListingKind) (output output' : Option (List ℕ)) (list_outcome : ListOutcome) (new : State) : Type 0 where
  pub was : Stored
  pub begins : SpellsUnopened old.now was
  pub lists : ListsAs (listing_of kind) was.registry output output' list_outcome
  pub fault : IfUnread list_outcome (λ error. IsTrue (is_fault error))
  pub spells : SpellsWhileOpen new was

-- no registry was opened, and nothing was written
pub record FindsNoRegistry {S : Type 0} (g : Ghosts S) (opened : Opened S) (returned : Option (Held S)) (writer writer' : Option (List ℕ)) (error : StoreError) : Type 0 where
  pub unwritten : writer' ≡ writer
  pub none : OpensNoExistingRegistry g opened returned error

-- What is true after a listing, by its outcome. `Unopened`: no store was opened, and nothing was written. `OpensNoExistingRegistry` says why, and which
-- connection is returned, if any. `ListEnded`: a `Database` was opened, its connection is returned, and on a clean disk `ListsOver` says what was
-- listed. No other outcome occurs.
abbrev pub ListsOn : {S : Type 0} (g : Ghosts S) → Opened S → ListingKind → Option (Held S) → Option (List ℕ) → Option (List ℕ) → Outcome → Type 0
ListsOn g opened kind returned writer writer' outcome =
    IsOutcome ListEnded (λ listed. OpenedDatabaseSatisfies g opened (λ old. ReturnsConnection g returned (ListsOver old kind writer writer' listed))) outcome
    ⊎ IsOutcome Unopened (FindsNoRegistry g opened returned writer writer') outcome

-- an audit of the stored state of a database; if the connection is still open, the tables still spell it
pub record AuditsOver (old : State) (writer writer' : Option (List ℕ)) (audited : AuditOutcome) (new : State) : Type 0 where
  pub was : Stored
  pub begins : SpellsUnopened old.now was
  pub audits : AuditsAs was writer writer' audited
  pub spells : SpellsWhileOpen new was

-- the outcome of an audit of what was opened
abbrev pub AuditsOn : {S : Type 0} (g : Ghosts S) → Opened S → Option (Held S) → Option (List ℕ) → Option (List ℕ) → Outcome → Type 0
AuditsOn g opened returned writer writer' outcome =
    IsOutcome AuditEnded (λ audited. OpenedDatabaseSatisfies g opened (λ old. ReturnsConnection g returned (AuditsOver old writer writer' audited))) outcome
    ⊎ IsOutcome Unopened (FindsNoRegistry g opened returned writer writer') outcome

-- nothing was opened that could be migrated, and nothing was written
abbrev pub MigratesNothing : Option (List ℕ) → Option (List ℕ) → StoreError → Outcome → Type 0
MigratesNothing writer writer' error outcome = (writer' ≡ writer) × (outcome ≡ Unopened error)

-- the outcome of a migration of what was opened, and the connection that is returned. It creates no registry in an empty database, which is
-- returned unchanged
abbrev pub MigratesOn : {S : Type 0} (g : Ghosts S) → Opened S → Option (Held S) → Option (List ℕ) → Option (List ℕ) → Outcome → Type 0
MigratesOn g Nothing returned writer writer' outcome = (returned ≡ None) × MigratesNothing writer writer' Disk outcome
MigratesOn g (Texts texts) returned writer writer' outcome = (returned ≡ None) × MigratesNothing writer writer' Disk outcome
MigratesOn g (Failed why) returned writer writer' outcome = (returned ≡ None) × MigratesNothing writer writer' why outcome
MigratesOn g (Fresh old) returned writer writer' outcome = (returned ≡ Some old) × MigratesNothing writer writer' NotARegistry outcome
MigratesOn g (Database old) returned writer writer' outcome = ReturnsConnection g returned (λ new. MigratesAs (state g old) new writer writer' outcome)

-- the outcome of a job, by its kind. Only a session reads its input
abbrev pub HasOutcome : {S : Type 0} (g : Ghosts S) → Job → Opened S → Option (Held S) → Option (List ℕ) → Option (List ℕ) → Option (List ℕ) → Option (List ℕ) → Outcome → Type 0
HasOutcome g (Run database) opened returned reader reader' writer writer' outcome = RunsJob g opened (is_some database) returned reader reader' writer writer' outcome
HasOutcome g (TextJob file) opened returned reader reader' writer writer' outcome = (returned ≡ connection_in opened) × (reader' ≡ reader) × IsOutcome TextEnded (PrintsTextAs (text_at opened 0) writer writer') outcome
HasOutcome g (CheckJob r w) opened returned reader reader' writer writer' outcome = (returned ≡ connection_in opened) × (reader' ≡ reader) × IsOutcome CheckEnded (ChecksAs (text_at opened 0) (text_at opened 1) writer writer') outcome
HasOutcome g (ListJob database kind) opened returned reader reader' writer writer' outcome = (reader' ≡ reader) × ListsOn g opened kind returned writer writer' outcome
HasOutcome g (Migrate database) opened returned reader reader' writer writer' outcome = (reader' ≡ reader) × MigratesOn g opened returned writer writer' outcome
HasOutcome g (Audit database) opened returned reader reader' writer writer' outcome = (reader' ≡ reader) × AuditsOn g opened returned writer writer' outcome

-- a job that was done: its outcome, the connection that is returned, its line on standard error, and the status
pub record DoesJob {S E : Type 0} (g : Ghosts S) (contents : E → Option (List ℕ)) (job : Job) (opened : Opened S) (returned : Option (Held S))
    (reader reader' writer writer' : Option (List ℕ)) (errors errors' : ErrorWriter E) (status : ℕ) : Type 0 where
  pub outcome : Outcome
  pub has_outcome : HasOutcome g job opened returned reader reader' writer writer' outcome
  pub reports : ReportsResult contents (job_result job outcome) errors errors'
  pub status_is : status ≡ status_of (job_result job outcome)
