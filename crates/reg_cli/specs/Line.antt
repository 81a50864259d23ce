-- The task of the program's arguments, as clap parses them (this project's choice).
use Rattle.std.specs.Prelude.{ℕ, List, [], ◌∷◌, codes, bytes_eq, Option, Some, None, option_map, option_and_then, if◌then◌else◌}
use Rattle.clap.specs.Words.{Kinds, Row, Text, fault_of, first_of, subcommand_of}
use Rattle.reg_cli.specs.Commands.{max_connections, program}
use Rattle.reg_cli.specs.Numbers.{unsigned_in}
use Rattle.reg_cli.specs.Tasks.{TaskView, run_task, text_task, check_task, list_task, migrate_task, audit_task, serve_task}
use Rattle.reg_cli.specs.declared.task.ListingKind.{ListingKind}
use Rattle.reg_cli.specs.declared.task.ListingKind.TheVariants.{Subjects, Versions, Schemas}

-- the listing with this name
abbrev pub listing_in : Text → Option ListingKind
listing_in argument =
    if bytes_eq argument (codes "subjects") then Some Subjects
    else if bytes_eq argument (codes "versions") then Some Versions
    else if bytes_eq argument (codes "schemas") then Some Schemas
    else None

-- the number of connections: the maximum without a text; `None` if the text isn't a number of at most 32 bits
abbrev pub connections_in : Option Text → Option ℕ
connections_in None = Some max_connections
connections_in (Some text) = unsigned_in 32 text

-- the value of `--port`; `None` without one, or if it isn't a number of at most 16 bits
abbrev pub port_in : List Row → Option ℕ
port_in rows = option_and_then (unsigned_in 16) (first_of (codes "port") rows)

-- the task of `run [--db F]`; never `None`
abbrev pub run_task_in : List Row → Option TaskView
run_task_in rows = Some (run_task (first_of (codes "db") rows))

-- The task of `serve --db F --port N [--connections N]`. `None` without a value for `--db`, or if `port_in` or `connections_in` is `None`. A port
-- or count of 0 and a count above `max_connections` are accepted here, but `clap` rejects them first.
abbrev pub serve_task_in : List Row → Option TaskView
serve_task_in rows =
    option_and_then (λ database. option_and_then (λ port. option_map (serve_task database port)
    (connections_in (first_of (codes "connections") rows))) (port_in rows)) (first_of (codes "db") rows)

-- the task of `check --reader F --writer F`; `None` if there is no value for `--reader` or `--writer`
abbrev pub check_task_in : List Row → Option TaskView
check_task_in rows = option_and_then (λ reader. option_map (check_task reader) (first_of (codes "writer") rows)) (first_of (codes "reader") rows)

-- the task of `text F`; `None` if there is no value for `F`
abbrev pub text_task_in : List Row → Option TaskView
text_task_in rows = option_map text_task (first_of (codes "F") rows)

-- the task of `list --db F W`; `None` if there is no value for `--db` or `W`, or `W` names no listing
abbrev pub list_task_in : List Row → Option TaskView
list_task_in rows =
    option_and_then (λ database. option_map (list_task database)
    (option_and_then listing_in (first_of (codes "W") rows))) (first_of (codes "db") rows)

-- the task of `migrate --db F`; `None` if there is no value for `--db`
abbrev pub migrate_task_in : List Row → Option TaskView
migrate_task_in rows = option_map migrate_task (first_of (codes "db") rows)

-- the task of `audit --db F`; `None` if there is no value for `--db`
abbrev pub audit_task_in : List Row → Option TaskView
audit_task_in rows = option_map audit_task (first_of (codes "db") rows)

-- the task of a subcommand with these values; `None` if there is no such subcommand, or if a value is missing or invalid
abbrev pub task_in : Text → List Row → Option TaskView
task_in name rows =
    if bytes_eq name (codes "run") then run_task_in rows
    else if bytes_eq name (codes "serve") then serve_task_in rows
    else if bytes_eq name (codes "check") then check_task_in rows
    else if bytes_eq name (codes "text") then text_task_in rows
    else if bytes_eq name (codes "list") then list_task_in rows
    else if bytes_eq name (codes "migrate") then migrate_task_in rows
    else if bytes_eq name (codes "audit") then audit_task_in rows
    else None

-- The task of the subcommand in the arguments. `None` if `clap` found a fault, such as a request for help: the list has the kinds of its faults. `None`
-- also without a subcommand, or if a value is missing or invalid.
abbrev pub task_unless_faulty : Kinds → List Text → Option TaskView
task_unless_faulty [] arguments = option_and_then (λ found. task_in found.0 found.1) (subcommand_of program arguments)
task_unless_faulty (fault ∷ faults) arguments = None

-- The task of the arguments, or `None` for a usage error, such as an option given twice, an argument too many, or a request for help.
abbrev pub line : List Text → Option TaskView
line arguments = task_unless_faulty (fault_of program arguments) arguments
