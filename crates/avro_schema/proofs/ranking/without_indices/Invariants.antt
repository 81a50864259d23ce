use Rattle.std.proofs.Common.{◌≡◌, map, take}
use Rattle.avro_schema.proofs.ranking.without_indices.Given as goal

abbrev pub invariant-loop-entry : goal.invariant-loop-entry
invariant-loop-entry l = l.texts.items ≡ map (λ p. p.0) (take l.entry-index l.list)
