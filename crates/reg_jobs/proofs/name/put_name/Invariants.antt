use Rattle.std.proofs.Common.{take}
use Rattle.reg_jobs.specs.Errors.{Puts}
use Rattle.reg_jobs.specs.Names.{shown_name}
use Rattle.reg_jobs.proofs.name.put_name.Given as goal

abbrev pub invariant-loop-byte : goal.invariant-loop-byte
invariant-loop-byte g l = Puts g.E.Write.contents l.fn.errors l.errors (shown_name (take l.byte-index l.byte-items))
