use Rattle.avro_resolve.specs.Inside.FieldSlots.{AreInSlots, names_in}
use Rattle.avro_resolve.proofs.field_slots.fill_slots.Given as goal

abbrev pub invariant-loop-k : goal.invariant-loop-k
invariant-loop-k l = AreInSlots l.rank_map.ranks.items (names_in l.fields) l.k l.slots
