use Rattle.reg_rows.proofs.PositionLemmas.{searched}
use Rattle.reg_rows.proofs.positions.is_among.Goals as goal

pub returns : goal.returns
returns g c = rw c.is_ok.ensures.value (searched g.K.Ord.cmp g.met.K.Ord.total c.args.sorted.now c.args.key.now c.requires c.binary_search.result c.binary_search.ensures.bound c.binary_search.ensures.ok c.binary_search.ensures.position)
