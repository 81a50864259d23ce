use Rattle.std.proofs.Common.{rules}
use Rattle.reg_store.proofs.ReadLemmas.{fail, tell}
use Rattle.reg_store.proofs.store.chosen.last_rows.Goals as goal

pub returns-in_err-line : goal.returns-in_err-line
returns-in_err-line g c = fail c.in_err-line.ensures c.from_residual.ensures.1

pub returns : goal.returns
returns g c = tell c.in_ok-line.ensures (λ was over line. search rules)
