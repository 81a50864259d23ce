use Rattle.std.proofs.lemmas.Bool.{eqb-true}
use Rattle.reg_core.proofs.Quoting.{quote_escaped, backslash_escaped}
use Rattle.reg_core.proofs.json_strings.is_escape.Goals as goal

pub returns-then-second-eq34 : goal.returns-then-second-eq34
returns-then-second-eq34 c same = quote_escaped c.args.first c.args.second c.if-first-eq92.true c.if-second-eq34.true

pub returns-else-second-eq34 : goal.returns-else-second-eq34
returns-else-second-eq34 c same = backslash_escaped c.args.first c.args.second c.if-first-eq92.true (eqb-true c.args.second 92 same)
