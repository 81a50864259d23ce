use Rattle.std.proofs.Common.{◌≡◌, map, take}
use Rattle.avro_schema.proofs.distinct.item_names.Given as goal

abbrev pub invariant-loop-item : goal.invariant-loop-item
invariant-loop-item g l = map (λ t. t.now) l.names.items ≡ map g.T.HasName.name_bytes (take l.item-index l.items)
