use Rattle.std.proofs.Common.{◌≡◌, map, take}
use Rattle.avro_schema.specs.Inside.Distinct.{text_hash}
use Rattle.avro_schema.proofs.distinct.hashes_of.Given as goal

abbrev pub invariant-loop-item : goal.invariant-loop-item
invariant-loop-item g l = l.hashes.items ≡ map (λ t. text_hash (g.T.HasName.name_bytes t)) (take l.item-index l.items)
