use Rattle.std.proofs.Common.{rules}
use Rattle.reg_store.proofs.ReadLemmas.{may_retell}
use Rattle.reg_store.proofs.store.levels.own_for.Goals as goal

pub returns-in-Some : goal.returns-in-Some
returns-in-Some g c = may_retell c.own.ensures.may (λ was own is needed. search rules)
