use Rattle.reg_core.proofs.AdditionLemmas.{step_adds_admitted}
use Rattle.reg_core.proofs.laws.additions_are_admitted.Goals as goal

pub returns : goal.returns
returns c = step_adds_admitted
