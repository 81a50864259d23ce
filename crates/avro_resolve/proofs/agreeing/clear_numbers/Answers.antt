use Rattle.std.proofs.Common.{length, arith}
use Rattle.avro_resolve.proofs.Numbering.{all_blank, number_less}
use Rattle.avro_resolve.proofs.agreeing.clear_numbers.Goals as goal

pub loop-k-preserved : goal.loop-k-preserved
loop-k-preserved c =
    let kept = c.loop-k.auto.slots in let room = c.requires.within c.loop-k.k 0 c.loop-k-test.true in
    number_less c.loop-k.slots c.args.symbols.now c.loop-k.k (length c.args.symbols.now) c.requires.rise (omega arith) c.loop-k-test.true (omega arith) c.loop-k.invariant

pub returns : goal.returns
returns c = all_blank c.loop-k.slots c.args.symbols.now c.loop-k.k (length c.args.symbols.now) c.loop-k-test.false c.loop-k.invariant
