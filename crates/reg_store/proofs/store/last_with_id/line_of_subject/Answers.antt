use Rattle.reg_store.proofs.KnownLemmas.{last_with_id_told}
use Rattle.reg_store.proofs.ReadLemmas.{read, not_read}
use Rattle.reg_store.proofs.Bases.{base_of}
use Rattle.reg_store.proofs.store.last_with_id.line_of_subject.Goals as goal

pub returns-in_err-last_version_with_id : goal.returns-in_err-last_version_with_id
returns-in_err-last_version_with_id g c = not_read c.in_err-last_version_with_id.ensures.frame c.in_err-last_version_with_id.ensures.fault c.from_residual.ensures.1

pub returns : goal.returns
returns g c =
    read c.in_ok-last_version_with_id.ensures.frame (λ clean was over.
    let it = base_of over.spells in
    let found = rw c.as_str.ensures.text at (c.in_ok-last_version_with_id.ensures.found clean it.schema it.first it.contents it.holds) in
    last_with_id_told it.contents was.registry it.spelled.versions c.args.subject.now c.args.id c.args.shows_deleted c.in_ok-last_version_with_id.field-0 found)
