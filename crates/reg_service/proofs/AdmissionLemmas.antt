-- Every added version was admitted.
use Rattle.std.proofs.Common.{List}
use Rattle.reg_core.specs.Registry.{IsRegistry}
use Rattle.reg_core.specs.Stored.{Stored}
use Rattle.reg_core.specs.Machine.{run_commands}
use Rattle.reg_core.proofs.RegistryLemmas.{run_commands-IsRegistry}
use Rattle.reg_core.proofs.AdditionLemmas.{step_adds_admitted}
use Rattle.reg_service.specs.Deliveries.{Exchange, firsts}
use Rattle.reg_service.specs.Admissions.{AllAdmitted}

-- for any exchanges: the abstract machine turns registries into registries
pub all_admitted : (was : Stored) → IsRegistry was.registry → (xs : List Exchange) → AllAdmitted was xs
all_admitted was is xs before x after e first =
    step_adds_admitted (run_commands was.registry (firsts was.replies before)) x.0.command (run_commands-IsRegistry was.registry (firsts was.replies before) is)
