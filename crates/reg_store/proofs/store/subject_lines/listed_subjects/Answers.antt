use Rattle.std.proofs.Common.{◌∙◌, ap, map}
use Rattle.reg_store.specs.Listings.{subject_listed, subjects_of}
use Rattle.reg_store.proofs.ReadLemmas.{fail, go_on, refuse, match_each}
use Rattle.reg_store.proofs.store.subject_lines.listed_subjects.Goals as goal

pub returns-in_err-rows : goal.returns-in_err-rows
returns-in_err-rows g c = fail c.in_err-rows.ensures c.from_residual.ensures.1

pub returns-in_err-subjects : goal.returns-in_err-subjects
returns-in_err-subjects g c = refuse c.in_ok-rows.ensures c.from_residual-in_err-subjects.ensures.1

pub returns : goal.returns
returns g c =
    go_on c.in_ok-rows.ensures c.each_subject.ensures (λ was over rows.
    match_each c.each_subject.result (λ lines are.
    are ∙ ap (λ subjects. map (subject_listed was.registry) (map (λ subject. subject.now) subjects)) c.as_slice-2.ensures.value
    ∙ ap (map (subject_listed was.registry)) (c.in_ok-subjects.ensures ∙ ap subjects_of (c.as_slice.ensures.value ∙ rows))) (λ e h. h))
