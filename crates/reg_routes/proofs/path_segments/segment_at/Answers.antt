use Rattle.std.proofs.Common.{◌≡◌, ◌∙◌, ◌-◌, ◌+◌, suc, ap, sym, arith}
use Rattle.reg_routes.specs.PathSegments.{segment_at}
use Rattle.reg_routes.proofs.path_segments.segment_at.Goals as goal

pub loop-preserved : goal.loop-preserved
loop-preserved c =
    let rest = c.loop.rest.now in
    let e : c.args.slashes - c.loop.counter ≡ suc (c.args.slashes - (c.loop.counter + 1)) = omega arith in
    rw c.split_at_byte.ensures.after (sym (ap (λ k. segment_at k rest) e) ∙ c.loop.invariant)
