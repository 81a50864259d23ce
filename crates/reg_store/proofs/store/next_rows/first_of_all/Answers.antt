use Rattle.std.proofs.Common.{◌∙◌}
use Rattle.reg_store.proofs.NextLineLemmas.{first_is}
use Rattle.reg_store.proofs.ReadLemmas.{retell}
use Rattle.reg_store.proofs.Bases.{base_of}
use Rattle.reg_store.proofs.store.next_rows.first_of_all.Goals as goal

pub returns : goal.returns
returns g c = retell c.first_after.ensures (λ was over found is. is ∙ first_is was.registry (base_of over.spells).spelled.registered)
