use Rattle.reg_core.proofs.RegistryLemmas.{step-IsRegistry}
use Rattle.reg_core.proofs.laws.commands_preserve_invariant.Goals as goal

pub returns : goal.returns
returns c = step-IsRegistry
