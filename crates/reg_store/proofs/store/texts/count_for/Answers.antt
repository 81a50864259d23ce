use Rattle.std.proofs.Common.{rules}
use Rattle.reg_store.proofs.ReadLemmas.{may_retell}
use Rattle.reg_store.proofs.store.texts.count_for.Goals as goal

pub returns-then-needed : goal.returns-then-needed
returns-then-needed g c = may_retell c.count.ensures.may (λ was count is needed. search rules)
