use Rattle.std.proofs.Common.{length}
use Rattle.avro_resolve.specs.Inside.Agreeing.{AreNumbered}
use Rattle.avro_resolve.proofs.agreeing.clear_numbers.Given as goal

abbrev pub invariant-loop-k : goal.invariant-loop-k
invariant-loop-k l = AreNumbered l.slots l.symbols l.k (length l.symbols)
