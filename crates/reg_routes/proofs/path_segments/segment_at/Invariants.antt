use Rattle.std.proofs.Common.{◌≡◌, ◌-◌}
use Rattle.reg_routes.specs.PathSegments.{segment_at}
use Rattle.reg_routes.proofs.path_segments.segment_at.Given as goal

abbrev pub invariant-loop : goal.invariant-loop
invariant-loop l = segment_at (l.slashes - l.counter) l.rest ≡ segment_at l.slashes l.path
