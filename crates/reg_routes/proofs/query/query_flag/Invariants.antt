use Rattle.std.proofs.Common.{◌≡◌}
use Rattle.form_urlencoded.specs.Parse.{pairs_left}
use Rattle.reg_routes.specs.Queries.{query_flag, first_is_true}
use Rattle.reg_routes.proofs.query.query_flag.Given as goal

abbrev pub invariant-loop-pair : goal.invariant-loop-pair
invariant-loop-pair l = query_flag l.query l.name ≡ first_is_true (pairs_left l.pair-iterator) l.name
