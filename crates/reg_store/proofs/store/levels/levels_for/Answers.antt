use Rattle.reg_store.proofs.ReadLemmas.{fail, go_on, stop}
use Rattle.reg_store.proofs.store.levels.levels_for.Goals as goal

pub returns-in_err-global : goal.returns-in_err-global
returns-in_err-global g c = fail c.in_err-global.ensures c.from_residual.ensures.1

pub returns-in_err-own : goal.returns-in_err-own
returns-in_err-own g c = stop c.in_ok-global.ensures c.in_err-own.ensures c.from_residual-in_err-own.ensures.1

pub returns : goal.returns
returns g c = go_on c.in_ok-global.ensures c.in_ok-own.ensures (λ was over global own needed. (own needed, global))
