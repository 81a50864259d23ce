use Rattle.reg_store.proofs.ReadLemmas.{read, not_read}
use Rattle.reg_store.proofs.ViewTexts.{none_counted, last_counted}
use Rattle.reg_store.proofs.Bases.{base_of}
use Rattle.reg_store.proofs.store.texts.count.Goals as goal

pub returns-in_err-last_id : goal.returns-in_err-last_id
returns-in_err-last_id g c = not_read c.in_err-last_id.ensures.frame c.in_err-last_id.ensures.fault c.from_residual.ensures.1

pub returns-in-None : goal.returns-in-None
returns-in-None g c =
    read c.in_ok-last_id.ensures.frame (λ clean was over.
    let it = base_of over.spells in
    none_counted it.contents was.registry it.spelled.registry it.spelled.texts (rw c.in-None.is at (c.in_ok-last_id.ensures.found clean it.schema it.first it.contents it.holds)))

pub returns-in-Some : goal.returns-in-Some
returns-in-Some g c =
    read c.in_ok-last_id.ensures.frame (λ clean was over.
    let it = base_of over.spells in
    let found = rw c.in-Some.is at (c.in_ok-last_id.ensures.found clean it.schema it.first it.contents it.holds) in
    last_counted it.contents was.registry it.spelled.registry it.spelled.texts c.in-Some.id found.0 found.1)
