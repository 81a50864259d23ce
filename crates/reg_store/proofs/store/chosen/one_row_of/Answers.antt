use Rattle.std.proofs.Common.{rules}
use Rattle.reg_store.proofs.ReadLemmas.{may_retell}
use Rattle.reg_store.proofs.store.chosen.one_row_of.Goals as goal

pub returns-in-Some : goal.returns-in-Some
returns-in-Some g c = may_retell c.some_row.ensures.may (λ was rows is. search rules)
