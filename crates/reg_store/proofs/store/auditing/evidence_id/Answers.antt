use Rattle.std.proofs.Common.{◌∙◌, inl}
use Rattle.reg_tables.proofs.Tables.{openable_has_eight}
use Rattle.reg_store.proofs.ReadLemmas.{read, not_read_in}
use Rattle.reg_store.proofs.store.auditing.evidence_id.Goals as goal

pub returns-in_err-against_at : goal.returns-in_err-against_at
returns-in_err-against_at g c = not_read_in (λ schema known. known) c.in_err-against_at.ensures.frame c.in_err-against_at.ensures.fault c.from_residual.ensures.1

pub returns : goal.returns
returns g c =
    read c.in_ok-against_at.ensures.frame (λ clean was over.
    let it = over.spells in
    let found = rw (c.as_str-subject.ensures.text, c.subject.ensures, c.version.ensures) at (c.in_ok-against_at.ensures.found clean it.schema (openable_has_eight it.schema (inl it.known)) it.contents it.holds) in
    found ∙ it.spelled.evidence.ids (c.args.row.now.0, c.args.position))
