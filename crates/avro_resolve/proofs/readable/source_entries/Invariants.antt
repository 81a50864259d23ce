use Rattle.std.proofs.Common.{take, map}
use Rattle.std.specs.List.{AllZip}
use Rattle.avro_nodes.specs.Nodes.{field_view}
use Rattle.avro_resolve.specs.Inside.Schemas.{columns}
use Rattle.avro_resolve.specs.Inside.Sources.{IsSourceEntry}
use Rattle.avro_resolve.proofs.readable.source_entries.Given as goal

abbrev pub invariant-loop-wanted : goal.invariant-loop-wanted
invariant-loop-wanted l = AllZip (IsSourceEntry (columns l.schemas) (map field_view l.fields.fields.now)) (take l.wanted-index l.aliased_fields.aliased.now) l.row.items
