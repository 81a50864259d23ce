use Rattle.reg_store.proofs.ReadLemmas.{read, not_read}
use Rattle.reg_store.proofs.ViewTexts.{id_found}
use Rattle.reg_store.proofs.Bases.{base_of}
use Rattle.reg_store.proofs.store.texts.known_for.Goals as goal

pub returns-in_err-id_of-in-Some : goal.returns-in_err-id_of-in-Some
returns-in_err-id_of-in-Some g c = (not_read c.in_err-id_of-in-Some.ensures.frame c.in_err-id_of-in-Some.ensures.fault c.from_residual.ensures.1).may

pub returns-in_ok-id_of-in-Some : goal.returns-in_ok-id_of-in-Some
returns-in_ok-id_of-in-Some g c =
    rw c.in-Some.is
    (read c.in_ok-id_of-in-Some.ensures.frame (λ clean was over.
    let it = base_of over.spells in
    id_found it.contents was.registry it.spelled.registry it.spelled.texts c.in_ok-id_of-in-Some.field-0 c.in-Some.text.now (c.in_ok-id_of-in-Some.ensures.found clean it.schema it.first it.contents it.holds))).may
