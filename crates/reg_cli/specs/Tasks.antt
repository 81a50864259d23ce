-- The program's tasks, with each text as its bytes.
use Rattle.std.specs.Prelude.{ℕ, Option, option_map, string_bytes}
use Rattle.clap.specs.Words.{Text}
use Rattle.reg_cli.specs.declared.task.ListingKind.{ListingKind}
use Rattle.reg_cli.specs.declared.task.Job.{Job}
use Rattle.reg_cli.specs.declared.task.Job.TheVariants.{Run, Text as TextJob, Check, List as ListJob, Migrate, Audit}
use Rattle.reg_cli.specs.declared.task.Task.{Task}
use Rattle.reg_cli.specs.declared.task.Task.TheVariants as task
use Rattle.reg_cli.specs.declared.fault.LineFault.{LineFault}
use Rattle.reg_cli.specs.declared.fault.LineFault.TheVariants.{Usage, OutOfMemory}

-- A task of the program: one constructor for each subcommand, with the values of its arguments.
pub data TaskView : Type 0 where
  run_task : Option Text → TaskView
  text_task : Text → TaskView
  check_task : Text → Text → TaskView
  list_task : Text → ListingKind → TaskView
  migrate_task : Text → TaskView
  audit_task : Text → TaskView
  serve_task : Text → ℕ → ℕ → TaskView

abbrev pub job_view : Job → TaskView
job_view (Run database) = run_task (option_map string_bytes database)
job_view (TextJob file) = text_task (string_bytes file)
job_view (Check reader writer) = check_task (string_bytes reader) (string_bytes writer)
job_view (ListJob database kind) = list_task (string_bytes database) kind
job_view (Migrate database) = migrate_task (string_bytes database)
job_view (Audit database) = audit_task (string_bytes database)

abbrev pub task_view : Task → TaskView
task_view (task.Job job) = job_view job
task_view (task.Server server) = serve_task (string_bytes server.database) server.port server.connections

-- the fault is a usage error, not a failed allocation
abbrev pub IsUsage : LineFault → Type 0
IsUsage (Usage text) = Unit {0}
IsUsage OutOfMemory = ⊥
