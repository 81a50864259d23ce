use Rattle.reg_routes.proofs.Adding.{read_ok}
use Rattle.reg_routes.proofs.routes.add.Goals as goal

pub returns : goal.returns
returns c = read_ok _ _ _ _ _ c.insert.ensures
