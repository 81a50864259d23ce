use Rattle.std.proofs.Common.{arith}
use Rattle.reg_core.proofs.Quoting.{mark_written}
use Rattle.reg_core.proofs.json_strings.push_mark.Goals as goal

pub returns-clause-written : goal.returns-clause-written
returns-clause-written c done = mark_written c.args.out.now.items _ _ c.args.byte c.requires.mark (omega arith) c.push_reserved.ensures.items c.push_reserved-2.ensures.items
