-- The program's subcommands and their arguments (this project's choice).
use Rattle.std.specs.Prelude.{◌≡◌, ℕ, Some, true, false, pos, codes}
use Rattle.clap.specs.Words.{App, Rule, Text, app_of, new_app, new_rule, with_rule, with_subcommand}
use Rattle.clap.specs.Simple.{on_top}
use Rattle.clap.specs.declared.Command.{Command}
use Rattle.clap.specs.declared.Command.TheViews.{out-Command}
use Rattle.clap.specs.declared.builder.ValueParser.TheVariants as parser

-- an option with one value
abbrev pub option_rule : Text → Rule
option_rule name = record (new_rule name) { long = Some name; value_names = 1 }

-- a required argument
abbrev pub required : Rule → Rule
required rule = record rule { required = true }

-- an argument that is a number from 1 to `greatest`
abbrev pub numbered : ℕ → Rule → Rule
numbered greatest rule = record rule { parser = Some (parser.Signed (pos 1) (pos greatest)) }

abbrev pub max_port : ℕ
max_port = 65535

abbrev pub max_connections : ℕ
max_connections = 2147483647

abbrev pub database_rule : Rule
database_rule = option_rule (codes "db")

abbrev pub port_rule : Rule
port_rule = numbered max_port (required (option_rule (codes "port")))

abbrev pub connections_rule : Rule
connections_rule = numbered max_connections (option_rule (codes "connections"))

-- `run [--db F]`
abbrev pub run_command : App
run_command = with_rule (new_app (codes "run")) database_rule

-- `serve --db F --port N [--connections N]`
abbrev pub serve_command : App
serve_command = with_rule (with_rule (with_rule (new_app (codes "serve")) (required database_rule)) port_rule) connections_rule

-- `check --reader F --writer F`
abbrev pub check_command : App
check_command = with_rule (with_rule (new_app (codes "check")) (required (option_rule (codes "reader")))) (required (option_rule (codes "writer")))

-- `text F`
abbrev pub text_command : App
text_command = with_rule (new_app (codes "text")) (required (new_rule (codes "F")))

-- `list --db F W`
abbrev pub list_command : App
list_command = with_rule (with_rule (new_app (codes "list")) (required database_rule)) (required (new_rule (codes "W")))

-- `migrate --db F`
abbrev pub migrate_command : App
migrate_command = with_rule (new_app (codes "migrate")) (required database_rule)

-- `audit --db F`
abbrev pub audit_command : App
audit_command = with_rule (new_app (codes "audit")) (required database_rule)

-- the program without its subcommands: the arguments don't include the program's name, and a subcommand is required
abbrev pub root_command : App
root_command = on_top (λ top. record top { no_binary_name = true; subcommand_required = true }) (new_app (codes "avroreg"))

abbrev pub program : App
program =
    with_subcommand (with_subcommand (with_subcommand (with_subcommand (with_subcommand (with_subcommand (with_subcommand root_command run_command.top) serve_command.top) check_command.top) text_command.top)
    list_command.top) migrate_command.top) audit_command.top

-- the command has this definition, and no argument of it is global, that is, an argument of its subcommands too
pub record IsApp (app : App) (command : Command) : Type 0 where
  pub shape : app_of command ≡ app
  pub local : (out-Command command).has_globals ≡ false
