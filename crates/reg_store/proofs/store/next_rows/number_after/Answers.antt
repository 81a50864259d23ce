use Rattle.std.proofs.Common.{◌∙◌, None, Some, ap}
use Rattle.reg_store.proofs.NextLineLemmas.{next_told}
use Rattle.reg_store.proofs.ReadLemmas.{read, read_out_of_memory, not_read}
use Rattle.reg_store.proofs.Bases.{base_of}
use Rattle.reg_store.proofs.store.next_rows.number_after.Goals as goal

pub returns-in_err-next_version_of : goal.returns-in_err-next_version_of
returns-in_err-next_version_of g c = not_read c.in_err-next_version_of.ensures.frame c.in_err-next_version_of.ensures.fault c.from_residual.ensures.1

pub returns-in-None : goal.returns-in-None
returns-in-None g c =
    read c.in_ok-next_version_of.ensures.frame (λ clean was over.
    let it = base_of over.spells in
    let found = rw (c.in-None.is, c.as_str.ensures.text) at (c.in_ok-next_version_of.ensures.found clean it.schema it.first it.contents it.holds) in
    next_told it.contents was.registry it.spelled.versions c.args.subject.now c.args.number None found)

pub returns-in_err-row_under-in-Some : goal.returns-in_err-row_under-in-Some
returns-in_err-row_under-in-Some g c = read_out_of_memory c.in_ok-next_version_of.ensures.frame c.from_residual-in_err-row_under-in-Some.ensures.1

pub returns-in_ok-row_under-in-Some : goal.returns-in_ok-row_under-in-Some
returns-in_ok-row_under-in-Some g c =
    read c.in_ok-next_version_of.ensures.frame (λ clean was over.
    let it = base_of over.spells in
    let found = rw (c.in-Some.is, c.as_str.ensures.text) at (c.in_ok-next_version_of.ensures.found clean it.schema it.first it.contents it.holds) in
    ap Some c.in_ok-row_under-in-Some.ensures ∙ next_told it.contents was.registry it.spelled.versions c.args.subject.now c.args.number (Some c.in-Some.line) found)
