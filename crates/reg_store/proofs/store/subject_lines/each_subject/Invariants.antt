use Rattle.std.proofs.Common.{◌≡◌, Ok, map, take}
use Rattle.reg_store.specs.Inside.Reads.{MayRead}
use Rattle.reg_store.specs.Listings.{lines_of, subject_listed}
use Rattle.reg_store.proofs.store.subject_lines.each_subject.Given as goal

abbrev pub invariant-loop-subject : goal.invariant-loop-subject
invariant-loop-subject g l = MayRead l.initial.db l.db (Ok l.lines) (λ was lines. lines_of lines ≡ map (λ subject. subject_listed was.registry subject.now) (take l.subject-index l.subjects))
