use Rattle.std.proofs.Common.{map, take}
use Rattle.avro_nodes.specs.Nodes.{field_view}
use Rattle.avro_resolve.specs.Inside.FieldSlots.{AreFieldSources}
use Rattle.avro_resolve.proofs.field_slots.field_sources.Given as goal

abbrev pub invariant-loop-names : goal.invariant-loop-names
invariant-loop-names l = AreFieldSources (map field_view l.fields.fields.now) (take l.names-index (map field_view l.wanted.fields.now)) l.places.items
