use Rattle.avro_resolve.specs.Inside.FieldSlots.{IsClear}
use Rattle.avro_resolve.proofs.work_meter.WorkMeter.sources.Given as goal

abbrev pub invariant-loop-sought : goal.invariant-loop-sought
invariant-loop-sought l = IsClear l.self-inside.slots.items
