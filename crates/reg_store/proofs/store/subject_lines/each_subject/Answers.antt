use Rattle.std.proofs.Common.{◌∙◌, [], ◌∷◌, ◌++◌, map, sym, ap, arith}
use Rattle.std.proofs.lemmas.List.{take_all}
use Rattle.std.proofs.lemmas.Simd.{map-map}
use Rattle.reg_store.specs.Listings.{subject_listed}
use Rattle.reg_store.proofs.ListingLemmas.{seen_next}
use Rattle.reg_store.proofs.ReadLemmas.{may_go_on, may_stop, may_retell}
use Rattle.reg_store.proofs.store.subject_lines.each_subject.Goals as goal

pub loop-subject-preserved : goal.loop-subject-preserved
loop-subject-preserved g c =
    may_go_on c.loop-subject.invariant c.in_ok-listed_subject.ensures.may (λ was over before line.
    c.in_ok-push_line.ensures ∙ (λ i. before i ++ line i ∷ [])
    ∙ seen_next (λ subject. subject_listed was.registry subject.now) c.args.subjects.now c.loop-subject.subject-index c.subject-item.result c.loop-subject-test.true c.subject-item.is)

pub returns-in_err-listed_subject : goal.returns-in_err-listed_subject
returns-in_err-listed_subject g c = may_stop c.loop-subject.invariant c.in_err-listed_subject.ensures.may c.from_residual.ensures.1

pub returns : goal.returns
returns g c =
    may_retell c.loop-subject.invariant (λ was lines shown.
    shown ∙ ap (map (λ subject. subject_listed was.registry subject.now)) (take_all c.loop-subject.subject-index c.args.subjects.now (omega arith))
    ∙ sym (map-map (subject_listed was.registry) (λ subject. subject.now) c.args.subjects.now))
