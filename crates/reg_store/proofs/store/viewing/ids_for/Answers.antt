use Rattle.reg_store.proofs.ReadLemmas.{may_fail, may_go_on, may_stop}
use Rattle.reg_store.proofs.store.viewing.ids_for.Goals as goal

pub returns-in_err-known : goal.returns-in_err-known
returns-in_err-known g c = may_fail c.in_err-known.ensures c.from_residual.ensures.1

pub returns-in_err-count : goal.returns-in_err-count
returns-in_err-count g c = may_stop c.in_ok-known.ensures c.in_err-count.ensures c.from_residual-in_err-count.ensures.1

pub returns : goal.returns
returns g c = may_go_on c.in_ok-known.ensures c.in_ok-count.ensures (λ was over known count. (known, count))
