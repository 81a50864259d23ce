use Rattle.std.proofs.Common.{◌≡◌, map, take}
use Rattle.avro_schema.proofs.ranking.with_indices.Given as goal

abbrev pub invariant-loop-text : goal.invariant-loop-text
invariant-loop-text l = map (λ p. p.0) l.list.items ≡ take l.text-index l.texts
