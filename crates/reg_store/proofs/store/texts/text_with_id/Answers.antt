use Rattle.std.proofs.Common.{◌∙◌}
use Rattle.reg_store.proofs.Bases.{base_of}
use Rattle.reg_store.proofs.ReadBack.{text_there_is}
use Rattle.reg_store.proofs.ReadLemmas.{read, not_read}
use Rattle.reg_store.proofs.store.texts.text_with_id.Goals as goal

pub returns-in_err-text_of : goal.returns-in_err-text_of
returns-in_err-text_of g c = not_read c.in_err-text_of.ensures.frame c.in_err-text_of.ensures.fault c.from_residual.ensures.1

pub returns : goal.returns
returns g c =
    read c.in_ok-text_of.ensures.frame (λ clean was over.
    let it = base_of over.spells in
    text_there_is c.in_ok-text_of.field-0 _ (c.in_ok-text_of.ensures.found clean it.schema it.first it.contents it.holds) ∙ it.spelled.texts c.args.id)
