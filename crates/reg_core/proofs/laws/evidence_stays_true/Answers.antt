use Rattle.reg_core.proofs.EvidenceLaws.{evidence_stays_true}
use Rattle.reg_core.proofs.laws.evidence_stays_true.Goals as goal

pub returns : goal.returns
returns c = evidence_stays_true
