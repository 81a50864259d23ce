use Rattle.std.proofs.Common.{sym, ◌∙◌}
use Rattle.reg_core.proofs.Quoting.{one_spelled}
use Rattle.reg_core.proofs.json_strings.read_byte.Goals as goal

pub returns-clause-spelled : goal.returns-clause-spelled
returns-clause-spelled c = one_spelled c.args.escaped.now c.args.at c.requires (sym c.needs_escape.ensures ∙ c.if-needs_escape.false)
