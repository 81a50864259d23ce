use Rattle.std.proofs.Common.{arith}
use Rattle.reg_core.proofs.Quoting.{more_spelled}
use Rattle.reg_core.proofs.json_strings.unescaped.Goals as goal

pub bytes-preserved : goal.bytes-preserved
bytes-preserved c =
    record {
      within = c.in-Some.ensures.next.1;
      so_far = more_spelled c.args.escaped.now c.bytes.out.items _ c.bytes.at c.in-Some.read.1 c.in-Some.read.0 c.in-Some.ensures.next.0 c.bytes.invariant.so_far c.push_reserved.ensures.items c.in-Some.ensures.spelled;
      room = omega (arith, c.in-Some.ensures.next.0, c.bytes.invariant.room, c.push_reserved.ensures.len);
      capacity = omega (arith, c.bytes.invariant.capacity, c.push_reserved.ensures.capacity);
    }
