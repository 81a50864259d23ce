use Rattle.std.proofs.Common.{take}
use Rattle.std.specs.Io.KnownBytes.{Appends}
use Rattle.reg_jobs.specs.Outcomes.{text_of_parts}
use Rattle.reg_jobs.proofs.migration.print_parts.Given as goal

abbrev pub invariant-loop-part : goal.invariant-loop-part
invariant-loop-part g l = Appends (g.W.Write.contents l.fn.writer) (g.W.Write.contents l.writer) (text_of_parts (take l.part-index l.parts))
