use Rattle.std.proofs.Common.{ap, ◌≤◌, length, arith}
use Rattle.std.specs.Prelude.{string_bytes}
use Rattle.std.proofs.lemmas.List.{length-map}
use Rattle.avro_resolve.specs.Inside.Schemas.{names_of}
use Rattle.avro_resolve.proofs.RankMaps.{met_below}
use Rattle.avro_resolve.specs.declared.work_meter.WorkMeter.TheInside.{Inside}
use Rattle.avro_resolve.proofs.work_meter.WorkMeter.sources.Goals as goal
use Rattle.avro_resolve.proofs.work_meter.WorkMeter.sources.Goals.{then-len-names+in_ok-resize, else-len-names}

pub fill_slots-requires-clause-has_slots : goal.fill_slots-requires-clause-has_slots
fill_slots-requires-clause-has_slots c = λ name rank e.
    let schemas = c.args.schemas.now in
    let below = met_below (names_of schemas.writer) (names_of schemas.reader) schemas.rank_map.ranks.items c.requires.schemas.rank_map name rank e in
    let names = length-map schemas.reader.index.now.names.items string_bytes in
    let ok = schemas.reader.index.now.names.ok.0 in
    let room : length schemas.reader.index.now.names.items ≤ length c.if-len-names.self-inside.slots.items = elim c.if-len-names.branch [
      | then-len-names+in_ok-resize w ↦ (let long = ap (λ (x : Inside). length x.slots.items) w.self-inside-is in let len = rw w.in_ok-resize.was at w.resize.ensures.len in omega (arith, ok, c.len-names.ensures, w.resize.new.self.ok.0, long, len))
      | else-len-names w ↦ (let long = ap (λ (x : Inside). length x.slots.items) w.self-inside-is in omega (arith, ok, c.len-names.ensures, c.len-2.ensures, c.loop-sought.self-inside.slots.ok.0, w.if-len-names.false, long))
    ] in
    let same = ap length c.as_mut_slice-slots.ensures.value in
    omega (arith, names, room, same)

pub clear_slots-requires-clause-has_slots : goal.clear_slots-requires-clause-has_slots
clear_slots-requires-clause-has_slots c = λ name rank e.
    let schemas = c.args.schemas.now in
    let below = met_below (names_of schemas.writer) (names_of schemas.reader) schemas.rank_map.ranks.items c.requires.schemas.rank_map name rank e in
    let names = length-map schemas.reader.index.now.names.items string_bytes in
    let ok = schemas.reader.index.now.names.ok.0 in
    let room : length schemas.reader.index.now.names.items ≤ length c.if-len-names.self-inside.slots.items = elim c.if-len-names.branch [
      | then-len-names+in_ok-resize w ↦ (let long = ap (λ (x : Inside). length x.slots.items) w.self-inside-is in let len = rw w.in_ok-resize.was at w.resize.ensures.len in omega (arith, ok, c.len-names.ensures, w.resize.new.self.ok.0, long, len))
      | else-len-names w ↦ (let long = ap (λ (x : Inside). length x.slots.items) w.self-inside-is in omega (arith, ok, c.len-names.ensures, c.len-2.ensures, c.loop-sought.self-inside.slots.ok.0, w.if-len-names.false, long))
    ] in
    let same = ap length c.as_mut_slice-slots.ensures.value in
    let kept = c.fill_slots.auto.slots in
    omega (arith, names, room, same, kept)
