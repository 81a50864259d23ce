use Rattle.reg_core.proofs.VerdictLemmas.{admits_decided}
use Rattle.reg_core.proofs.compatibility.admission_is_decided.Goals as goal

pub returns : goal.returns
returns c = admits_decided
