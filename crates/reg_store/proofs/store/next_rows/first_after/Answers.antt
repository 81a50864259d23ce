use Rattle.std.proofs.Common.{◌∙◌, None, Some, sym, ap}
use Rattle.reg_tables.specs.Entries.{listed_version_view}
use Rattle.reg_store.proofs.NextLineLemmas.{subject_after, of_subject}
use Rattle.reg_store.proofs.ReadLemmas.{read, not_read}
use Rattle.reg_store.proofs.Bases.{base_of}
use Rattle.reg_store.proofs.store.next_rows.first_after.Goals as goal

pub returns-in_err-first_version_after : goal.returns-in_err-first_version_after
returns-in_err-first_version_after g c = not_read c.in_err-first_version_after.ensures.frame c.in_err-first_version_after.ensures.fault c.from_residual.ensures.1

pub returns-in-None : goal.returns-in-None
returns-in-None g c =
    read c.in_ok-first_version_after.ensures.frame (λ clean was over.
    let it = base_of over.spells in
    let found = rw c.in-None.is at (c.in_ok-first_version_after.ensures.found clean it.schema it.first it.contents it.holds) in
    subject_after it.contents was.registry it.spelled.versions c.args.subject.now None found)

pub returns-in_err-row_in-in-Some : goal.returns-in_err-row_in-in-Some
returns-in_err-row_in-in-Some g c =
    read c.in_ok-first_version_after.ensures.frame (λ clean was over.
    let it = base_of over.spells in
    let found = rw c.in-Some.is at (c.in_ok-first_version_after.ensures.found clean it.schema it.first it.contents it.holds) in
    absurd (c.in_err-row_in-in-Some.ensures.err (of_subject it.contents was.registry was.replies it.spelled c.args.subject.now (listed_version_view c.in-Some.line) (sym found))))

pub returns-in_ok-row_in-in-Some : goal.returns-in_ok-row_in-in-Some
returns-in_ok-row_in-in-Some g c =
    read c.in_ok-first_version_after.ensures.frame (λ clean was over.
    let it = base_of over.spells in
    let found = rw c.in-Some.is at (c.in_ok-first_version_after.ensures.found clean it.schema it.first it.contents it.holds) in
    ap Some c.in_ok-row_in-in-Some.ensures.ok ∙ subject_after it.contents was.registry it.spelled.versions c.args.subject.now (Some c.in-Some.line) found)
