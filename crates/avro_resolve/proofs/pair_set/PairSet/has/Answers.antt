use Rattle.std.proofs.Common.{arith}
use Rattle.std.proofs.lemmas.Grind.{common_steps}
use Rattle.std.proofs.lemmas.Nat.Bits.{shr_and_one}
use Rattle.avro_resolve.proofs.BitLemmas.{bit_past, bit_read}
use Rattle.avro_resolve.proofs.pair_set.PairSet.has.Goals as goal

pub returns-in-Some : goal.returns-in-Some
returns-in-Some c = grind (arith, common_steps, shr_and_one, bit_read c.args.self.now.words.items c.place-at.result)

pub returns-in-None : goal.returns-in-None
returns-in-None c = grind (arith, common_steps, bit_past c.args.self.now.words.items c.place-at.result)
