use Rattle.std.proofs.Common.{◌∙◌, ap, List, ℕ, ◌+◌, ◌*◌}
use Rattle.avro_resolve.specs.Inside.PairSets.{bit}
use Rattle.avro_resolve.proofs.BitLemmas.{bit_none}
use Rattle.avro_resolve.proofs.pair_set.PairSet.none.Goals as goal

pub returns-clause-empty : goal.returns-clause-empty
returns-clause-empty c i j = ap (λ (words : List ℕ). bit words (i * c.args.readers + j)) c.new.ensures.items ∙ bit_none (i * c.args.readers + j)
