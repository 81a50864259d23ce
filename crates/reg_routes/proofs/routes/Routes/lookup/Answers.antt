use Rattle.std.proofs.Common.{refl}
use Rattle.reg_routes.proofs.routes.Routes.lookup.Goals as goal

pub returns-in-Ok : goal.returns-in-Ok
returns-in-Ok c = let found = rw c.self.invariant at c.in-Ok.ensures.found in (_, found, refl)
