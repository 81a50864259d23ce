use Rattle.std.proofs.Common.{arith}
use Rattle.reg_core.proofs.Quoting.{two_spelled}
use Rattle.reg_core.proofs.json_strings.read_escape.Goals as goal

pub returns-then-is_escape-clause-spelled : goal.returns-then-is_escape-clause-spelled
returns-then-is_escape-clause-spelled c = two_spelled c.args.escaped.now c.args.at (omega arith) (c.is_escape.ensures c.if-is_escape.true)
