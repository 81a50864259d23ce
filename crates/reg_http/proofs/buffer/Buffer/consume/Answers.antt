use Rattle.std.proofs.Common.{◌∙◌, ap, arith, length, drop}
use Rattle.reg_http.proofs.Ranges.{shorter_range, range_length}
use Rattle.reg_http.proofs.buffer.Buffer.consume.Goals as goal

pub returns : goal.returns
returns c =
    let b = c.self.inside in
    let size = range_length b.bytes.items b.first b.last in
    let held = ap length c.self.view_is in
    shorter_range b.bytes.items b.first b.last c.args.count (omega (arith, size, held, c.requires, c.self.invariant.0)) ∙ ap (drop c.args.count) c.self.view_is
