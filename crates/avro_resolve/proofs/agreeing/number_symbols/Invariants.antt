use Rattle.avro_resolve.specs.Inside.Agreeing.{AreNumbered}
use Rattle.avro_resolve.proofs.agreeing.number_symbols.Given as goal

abbrev pub invariant-loop-k : goal.invariant-loop-k
invariant-loop-k l = AreNumbered l.slots l.symbols 0 l.k
