use Rattle.std.proofs.Common.{take}
use Rattle.reg_jobs.specs.Errors.{Puts}
use Rattle.reg_jobs.specs.Outcomes.{text_of_parts}
use Rattle.reg_jobs.proofs.line.put_parts.Given as goal

abbrev pub invariant-loop-part : goal.invariant-loop-part
invariant-loop-part g l = Puts g.E.Write.contents l.fn.errors l.errors (text_of_parts (take l.part-index l.parts))
