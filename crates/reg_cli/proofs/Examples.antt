-- The tasks of some example arguments, by computation.
use Rattle.std.proofs.Common.{◌≡◌, refl, [], ◌∷◌, Some, None, codes}
use Rattle.clap.proofs.OnLiterals.{clap_on_literals}
use Rattle.reg_cli.specs.Line.{line}
use Rattle.reg_cli.specs.Tasks.{run_task, text_task, check_task, list_task, migrate_task, audit_task, serve_task}
use Rattle.reg_cli.specs.declared.task.ListingKind.TheVariants.{Versions}

-- `run`
pub in_memory : line (codes "run" ∷ []) ≡ Some (run_task None)
unfolding clap_on_literals
in_memory = refl

-- `run --db F`
pub with_a_value : line (codes "run" ∷ codes "--db" ∷ codes "F" ∷ []) ≡ Some (run_task (Some (codes "F")))
unfolding clap_on_literals
with_a_value = refl

-- `run --db=F`
pub with_a_value_attached : line (codes "run" ∷ codes "--db=F" ∷ []) ≡ Some (run_task (Some (codes "F")))
unfolding clap_on_literals
with_a_value_attached = refl

-- `serve --db F --port 8081`: the maximum number of connections
pub without_connections : line (codes "serve" ∷ codes "--db" ∷ codes "F" ∷ codes "--port" ∷ codes "8081" ∷ []) ≡ Some (serve_task (codes "F") 8081 2147483647)
unfolding clap_on_literals
without_connections = refl

-- `serve --connections=2 --port 1 --db F`: options in another order
pub in_any_order : line (codes "serve" ∷ codes "--connections=2" ∷ codes "--port" ∷ codes "1" ∷ codes "--db" ∷ codes "F" ∷ []) ≡ Some (serve_task (codes "F") 1 2)
unfolding clap_on_literals
in_any_order = refl

-- `check --writer W --reader R`
pub checked : line (codes "check" ∷ codes "--writer" ∷ codes "W" ∷ codes "--reader" ∷ codes "R" ∷ []) ≡ Some (check_task (codes "R") (codes "W"))
unfolding clap_on_literals
checked = refl

-- `text F`
pub printed : line (codes "text" ∷ codes "F" ∷ []) ≡ Some (text_task (codes "F"))
unfolding clap_on_literals
printed = refl

-- `list --db F versions`
pub listed : line (codes "list" ∷ codes "--db" ∷ codes "F" ∷ codes "versions" ∷ []) ≡ Some (list_task (codes "F") Versions)
unfolding clap_on_literals
listed = refl

-- `migrate --db F`
pub migrated : line (codes "migrate" ∷ codes "--db" ∷ codes "F" ∷ []) ≡ Some (migrate_task (codes "F"))
unfolding clap_on_literals
migrated = refl

-- `migrate`: no file
pub migrate_nothing : line (codes "migrate" ∷ []) ≡ None
unfolding clap_on_literals
migrate_nothing = refl

-- `audit --db F`
pub audited : line (codes "audit" ∷ codes "--db" ∷ codes "F" ∷ []) ≡ Some (audit_task (codes "F"))
unfolding clap_on_literals
audited = refl

-- `audit --db F versions`: an argument too many
pub audit_a_listing : line (codes "audit" ∷ codes "--db" ∷ codes "F" ∷ codes "versions" ∷ []) ≡ None
unfolding clap_on_literals
audit_a_listing = refl

-- no arguments
pub no_arguments : line [] ≡ None
unfolding clap_on_literals
no_arguments = refl

-- `--help`
pub help_is_requested : line (codes "--help" ∷ []) ≡ None
unfolding clap_on_literals
help_is_requested = refl

-- `run --db F --db G`: an option twice
pub an_option_twice : line (codes "run" ∷ codes "--db" ∷ codes "F" ∷ codes "--db" ∷ codes "G" ∷ []) ≡ None
unfolding clap_on_literals
an_option_twice = refl

-- `run F`: an argument too many
pub an_argument_too_many : line (codes "run" ∷ codes "F" ∷ []) ≡ None
unfolding clap_on_literals
an_argument_too_many = refl

-- `serve --db F --port 0`
pub port_0 : line (codes "serve" ∷ codes "--db" ∷ codes "F" ∷ codes "--port" ∷ codes "0" ∷ []) ≡ None
unfolding clap_on_literals
port_0 = refl

-- `serve --db F --port 65536`
pub port_65536 : line (codes "serve" ∷ codes "--db" ∷ codes "F" ∷ codes "--port" ∷ codes "65536" ∷ []) ≡ None
unfolding clap_on_literals
port_65536 = refl

-- `serve --db F --port 1 --connections 2147483648`
pub too_many_connections : line (codes "serve" ∷ codes "--db" ∷ codes "F" ∷ codes "--port" ∷ codes "1" ∷ codes "--connections" ∷ codes "2147483648" ∷ []) ≡ None
unfolding clap_on_literals
too_many_connections = refl

-- `list --db F all`: no such listing
pub another_listing : line (codes "list" ∷ codes "--db" ∷ codes "F" ∷ codes "all" ∷ []) ≡ None
unfolding clap_on_literals
another_listing = refl
