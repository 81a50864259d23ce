-- The table after an insert.
use Rattle.std.proofs.Common.{◌≡◌, OnOk, Result, Ok, Err}
use Rattle.matchit.specs.Rows.{RowsOf}
use Rattle.matchit.specs.Route.{Scan}
use Rattle.matchit.specs.Router.{RouteOf, InsertsRead}
use Rattle.matchit.specs.declared.error.InsertError.{InsertError}
use Rattle.reg_routes.specs.declared.resource.Resource.{Resource}
use Rattle.reg_routes.specs.Routes.{with_read}

pub read_ok : (x : Result Scan InsertError) (v : Resource) (old new : RowsOf (RouteOf Resource)) (r : Result (Unit {0}) InsertError) → InsertsRead x v old new r → OnOk r (new ≡ with_read x v old)
read_ok (Ok s) v old new (Ok u) h = h.1
read_ok (Err e) v old new (Ok u) h = h.0
read_ok (Ok s) v old new (Err f) h = tt
read_ok (Err e) v old new (Err f) h = tt
