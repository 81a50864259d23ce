-- The result of a job, by its outcome: the program's status, or a fault, its file and its line.
use Rattle.std.specs.Prelude.{◌≡◌, ℕ, true, false, List, ◌++◌, codes, Option, Result, Ok, Err}
use Rattle.std.specs.Fmt.{decimal}
use Rattle.std.specs.List.{flat_map}
use denote.Ref.{Bor}
use Rattle.reg_store.specs.declared.error.StoreError.{StoreError}
use Rattle.reg_store.specs.declared.error.StoreError.TheVariants.{Memory as NoMemory, Disk, NotARegistry, OldLayout, NewerLayout}
use Rattle.reg_http.specs.declared.serving.Ended.TheVariants.{Closed, ReadFailed, WriteFailed, Malformed, Memory}
use Rattle.reg_jobs.specs.declared.files.FileFault.{FileFault}
use Rattle.reg_jobs.specs.declared.files.FileFault.TheVariants.{CannotRead, NotSchema, OutOfMemory}
use Rattle.reg_jobs.specs.declared.files.TextOutcome.TheVariants.{Whole, Nothing as NothingPrinted, NotWritten}
use Rattle.reg_jobs.specs.declared.files.CheckOutcome.TheVariants.{Verdict, Reader, Writer, OutOfMemory as CheckOutOfMemory, NotWritten as VerdictNotWritten}
use Rattle.reg_jobs.specs.declared.outcome.Outcome.{Outcome}
use Rattle.reg_jobs.specs.declared.outcome.Outcome.TheVariants.{Session as SessionEnded, Unopened, NotListening, Text as TextEnded, Check as CheckEnded, List as ListEnded, Migrate as MigrateEnded, Audit as AuditEnded}
use Rattle.reg_jobs.specs.declared.auditing.AuditOutcome.TheVariants.{Verdict as EvidenceVerdict, Unread as EvidenceUnread, NotWritten as EvidenceNotWritten}
use Rattle.reg_jobs.specs.declared.migration.MigrateOutcome.TheVariants.{Whole as MigrateWhole, NotWritten as MigrateNotWritten}
use Rattle.reg_jobs.specs.declared.listings.ListOutcome.TheVariants.{Whole as ListedWhole, Unread, NotWritten as ListNotWritten, OutOfMemory as ListOutOfMemory}
use Rattle.reg_jobs.specs.declared.outcome.JobError.{JobError}
use Rattle.reg_jobs.specs.declared.outcome.Fault.{Fault}
use Rattle.reg_jobs.specs.declared.outcome.Fault.TheVariants.{ReadFailed as FaultReadFailed, WriteFailed as FaultWriteFailed, MalformedInput as FaultMalformedInput, OutOfMemory as FaultOutOfMemory, CannotRead as FaultCannotRead, NotSchema as FaultNotSchema, CannotOpen as FaultCannotOpen, NotRegistry as FaultNotRegistry, OldLayout as FaultOldLayout, NewerLayout as FaultNewerLayout, CannotListen, CannotAccept}
use Rattle.reg_jobs.specs.declared.line.ErrorLine.{ErrorLine}
use Rattle.reg_jobs.specs.declared.errors.ErrorWriter.{ErrorWriter}
use Rattle.reg_jobs.specs.Errors.{Puts}
use Rattle.reg_jobs.specs.Names.{shown_name}

abbrev pub fault_of_file : FileFault → Fault
fault_of_file CannotRead = FaultCannotRead
fault_of_file NotSchema = FaultNotSchema
fault_of_file OutOfMemory = FaultOutOfMemory

-- the fault for an error of the store: when it opens the database, or while it reads the registry
abbrev pub fault_of_database : StoreError → Fault
fault_of_database NoMemory = FaultOutOfMemory
fault_of_database Disk = FaultCannotOpen
fault_of_database NotARegistry = FaultNotRegistry
fault_of_database (OldLayout layout) = FaultOldLayout layout
fault_of_database (NewerLayout layout) = FaultNewerLayout layout

-- a result, with the fault and the file's name of an error
abbrev pub result_view : Result ℕ JobError → Result ℕ (Fault × List ℕ)
result_view (Ok status) = Ok status
result_view (Err job_error) = Err (job_error.fault, job_error.file.now)

-- the result for an outcome: the program's status, or the fault and its file. The status is 1 for incompatible schemas and for evidence
-- that isn't true
abbrev pub result_of : Outcome → List ℕ → List ℕ → Result ℕ (Fault × List ℕ)
result_of (SessionEnded Closed) file writer = Ok 0
result_of (SessionEnded ReadFailed) file writer = Err (FaultReadFailed, file)
result_of (SessionEnded WriteFailed) file writer = Err (FaultWriteFailed, file)
result_of (SessionEnded Malformed) file writer = Err (FaultMalformedInput, file)
result_of (SessionEnded Memory) file writer = Err (FaultOutOfMemory, file)
result_of (Unopened error) file writer = Err (fault_of_database error, file)
result_of (NotListening port) file writer = Err (CannotListen port, file)
result_of (TextEnded Whole) file writer = Ok 0
result_of (TextEnded (NothingPrinted fault)) file writer = Err (fault_of_file fault, file)
result_of (TextEnded NotWritten) file writer = Err (FaultWriteFailed, file)
result_of (CheckEnded (Verdict true)) file writer = Ok 0
result_of (CheckEnded (Verdict false)) file writer = Ok 1
result_of (CheckEnded (Reader fault)) file writer = Err (fault_of_file fault, file)
result_of (CheckEnded (Writer fault)) file writer = Err (fault_of_file fault, writer)
result_of (CheckEnded CheckOutOfMemory) file writer = Err (FaultOutOfMemory, file)
result_of (CheckEnded VerdictNotWritten) file writer = Err (FaultWriteFailed, file)
result_of (ListEnded ListedWhole) file writer = Ok 0
result_of (ListEnded (Unread error)) file writer = Err (fault_of_database error, file)
result_of (ListEnded ListNotWritten) file writer = Err (FaultWriteFailed, file)
result_of (ListEnded ListOutOfMemory) file writer = Err (FaultOutOfMemory, file)
result_of (MigrateEnded MigrateWhole) file writer = Ok 0
result_of (MigrateEnded MigrateNotWritten) file writer = Err (FaultWriteFailed, file)
result_of (AuditEnded (EvidenceVerdict true)) file writer = Ok 0
result_of (AuditEnded (EvidenceVerdict false)) file writer = Ok 1
result_of (AuditEnded (EvidenceUnread error)) file writer = Err (fault_of_database error, file)
result_of (AuditEnded EvidenceNotWritten) file writer = Err (FaultWriteFailed, file)

-- the program's status, 2 for every fault
abbrev pub status_of : Result ℕ (Fault × List ℕ) → ℕ
status_of (Ok status) = status
status_of (Err job_error) = 2

-- The line for a fault, with its line end. Some lines show the file's name, as given here. The lines for a layout or a port show these digits. The
-- others ignore them.
abbrev pub line_with : Fault → List ℕ → List ℕ → List ℕ
line_with FaultReadFailed file digits = codes "avroreg: read failed\n"
line_with FaultWriteFailed file digits = codes "avroreg: write failed\n"
line_with FaultMalformedInput file digits = codes "avroreg: malformed input\n"
line_with FaultOutOfMemory file digits = codes "avroreg: out of memory\n"
line_with FaultCannotRead file digits = codes "avroreg: cannot read " ++ file ++ codes "\n"
line_with FaultNotSchema file digits = codes "avroreg: " ++ file ++ codes " is not a schema\n"
line_with FaultCannotOpen file digits = codes "avroreg: cannot open " ++ file ++ codes "\n"
line_with FaultNotRegistry file digits = codes "avroreg: " ++ file ++ codes " is not a registry\n"
line_with (FaultOldLayout number) file digits = codes "avroreg: " ++ (file ++ (codes " has layout " ++ (digits ++ codes ", run migrate\n")))
line_with (FaultNewerLayout number) file digits = codes "avroreg: " ++ (file ++ (codes " has layout " ++ (digits ++ codes ", newer than this program\n")))
line_with (CannotListen port) file digits = codes "avroreg: cannot listen on port " ++ (digits ++ codes "\n")
line_with CannotAccept file digits = codes "avroreg: cannot accept connections\n"

-- the layout or the port that a fault's line shows; 0 for a fault whose line shows none
abbrev pub layout_or_port_of : Fault → ℕ
layout_or_port_of (FaultOldLayout layout) = layout
layout_or_port_of (FaultNewerLayout layout) = layout
layout_or_port_of (CannotListen port) = port
layout_or_port_of _ = 0

-- the line for a fault, with the file's name as it is shown
abbrev pub line_of : Fault → List ℕ → List ℕ
line_of fault file = line_with fault (shown_name file) (decimal (layout_or_port_of fault))

-- the text of the parts of a line
abbrev pub text_of_parts : List (Bor (List ℕ)) → List ℕ
text_of_parts parts = flat_map (λ part. part.now) parts

-- the text of a line, with the file's name as it is shown
abbrev pub text_of_line : ErrorLine → List ℕ
text_of_line line = line.front.now ++ (shown_name line.name.now ++ text_of_parts line.rest)

-- What was written to standard error for a result. Without a fault, the writer is unchanged. For a fault and the name of its file, its line (`line_of`)
-- was written, or a beginning of it if a write failed. If an earlier write had failed, nothing of the line was written (`Puts`).
abbrev pub ReportsResult : {E : Type 0} → (E → Option (List ℕ)) → Result ℕ (Fault × List ℕ) → ErrorWriter E → ErrorWriter E → Type 0
ReportsResult contents (Ok status) old new = new ≡ old
ReportsResult contents (Err job_error) old new = Puts contents old new (line_of job_error.0 job_error.1)
