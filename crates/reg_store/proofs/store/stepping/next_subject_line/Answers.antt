use Rattle.std.proofs.Common.{◌∙◌, None, Some, sym, ap}
use Rattle.std.specs.FinMap.{entries}
use Rattle.reg_store.specs.Listings.{subject_listed, subjects_of}
use Rattle.reg_store.proofs.NextRowLemmas.{last_taken}
use Rattle.reg_store.proofs.NextLineLemmas.{next_subject_is, subject_leads}
use Rattle.reg_store.proofs.ReadLemmas.{fail, tell, go_on, stop}
use Rattle.reg_store.proofs.store.stepping.next_subject_line.Goals as goal

pub returns-in_err-next_subject : goal.returns-in_err-next_subject
returns-in_err-next_subject g c = fail c.in_err-next_subject.ensures c.from_residual.ensures.1

pub returns-in-None : goal.returns-in-None
returns-in-None g c =
    tell c.in_ok-next_subject.ensures (λ was over row count at.
    let found = rw (c.in-None.is, c.as_ref.ensures.value) at row in
    record { line = subject_leads was.registry count None (next_subject_is was.registry count c.args.last None at found); cursor = at })

pub returns-in_err-line-in-Some : goal.returns-in_err-line-in-Some
returns-in_err-line-in-Some g c = stop c.in_ok-next_subject.ensures c.in_err-line-in-Some.ensures.may c.from_residual-in_err-line-in-Some.ensures.1

pub returns-in_ok-line-in-Some : goal.returns-in_ok-line-in-Some
returns-in_ok-line-in-Some g c =
    go_on c.in_ok-next_subject.ensures c.in_ok-line-in-Some.ensures.may (λ was over row line count at.
    let found = rw (c.in-Some.is, c.as_ref.ensures.value) at row in
    let here = next_subject_is was.registry count c.args.last (Some c.in-Some.row) at found in
    record {
      line = ap Some (line ∙ ap (subject_listed was.registry) c.subject.ensures) ∙ subject_leads was.registry count (Some c.in-Some.row.0.0) here;
      cursor = sym (last_taken None count (subjects_of (entries was.registry.rows)) c.in-Some.row.0.0 (sym here));
    })
