use Rattle.std.proofs.Common.{rules}
use Rattle.std.proofs.lemmas.Bool.Decides.{Decides-eqb}
use Rattle.std.proofs.lemmas.Slice.Eq.{strip_suffix_is}
use Rattle.reg_routes.proofs.OnlySchemaBodies.{ends_found}
use Rattle.reg_routes.proofs.only_schema.before_end.Goals as goal

pub returns : goal.returns
returns c = ends_found c.args.body.now _ c.strip_suffix.result (search rules) (strip_suffix_is Decides-eqb c.args.body.now _ c.strip_suffix.result c.strip_suffix.ensures.cases)
