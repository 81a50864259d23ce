use Rattle.std.proofs.Common.{◌∙◌}
use Rattle.reg_store.specs.Listings.{subject_line}
use Rattle.reg_store.proofs.ReadLemmas.{fail, both, go_on, stop, refuse}
use Rattle.reg_store.proofs.store.subject_lines.listed_subject.Goals as goal

pub returns-in_err-rows : goal.returns-in_err-rows
returns-in_err-rows g c = fail c.in_err-rows.ensures c.from_residual.ensures.1

pub returns-in_err-own : goal.returns-in_err-own
returns-in_err-own g c = stop c.in_ok-rows.ensures c.in_err-own.ensures.may c.from_residual-in_err-own.ensures.1

pub returns-in_err-subject_line : goal.returns-in_err-subject_line
returns-in_err-subject_line g c = refuse (both c.in_ok-rows.ensures c.in_ok-own.ensures.may) c.from_residual-in_err-subject_line.ensures.1

pub returns : goal.returns
returns g c =
    go_on c.in_ok-rows.ensures c.in_ok-own.ensures.may (λ was over rows own.
    c.in_ok-subject_line.ensures ∙ (λ i. subject_line c.args.subject.now (own i) ((c.as_slice.ensures.value ∙ rows) i)))
