use Rattle.avro_resolve.specs.Inside.FieldSlots.{names_in}
use Rattle.avro_resolve.proofs.FieldSlots.{AreLeft}
use Rattle.avro_resolve.proofs.field_slots.clear_slots.Given as goal

abbrev pub invariant-loop-k : goal.invariant-loop-k
invariant-loop-k l = AreLeft l.rank_map.ranks.items (names_in l.fields) l.k l.slots
