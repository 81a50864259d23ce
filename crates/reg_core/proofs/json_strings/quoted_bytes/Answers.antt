use Rattle.std.proofs.Common.{rules, arith}
use Rattle.reg_core.proofs.Quoting.{byte_written, all_written}
use Rattle.reg_core.proofs.json_strings.quoted_bytes.Goals as goal

pub loop-byte-preserved : goal.loop-byte-preserved
loop-byte-preserved c =
    record {
      so_far = byte_written c.args.bytes.now c.loop-byte.out.items _ c.loop-byte.byte-index c.loop-byte-test.true c.loop-byte.invariant.so_far (search rules);
      room = omega arith;
      capacity = omega arith;
    }

pub returns : goal.returns
returns c = all_written c.args.bytes.now c.loop-byte.out.items _ c.loop-byte.byte-index (omega arith) c.loop-byte.invariant.so_far c.in_ok-push.ensures.items
