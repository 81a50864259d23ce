use Rattle.std.proofs.Common.{rules}
use Rattle.std.proofs.lemmas.Bool.Decides.{Decides-eqb}
use Rattle.std.proofs.lemmas.Slice.Eq.{strip_prefix_is}
use Rattle.reg_routes.proofs.OnlySchemaBodies.{space_found}
use Rattle.reg_routes.proofs.only_schema.after_start.Goals as goal

pub returns-in-None : goal.returns-in-None
returns-in-None c =
    space_found c.args.front.now _ c.strip_prefix-in-None.result (search rules) (strip_prefix_is Decides-eqb c.args.front.now _ c.strip_prefix-in-None.result c.strip_prefix-in-None.ensures.cases)
