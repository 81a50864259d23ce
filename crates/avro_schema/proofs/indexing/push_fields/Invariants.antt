use Rattle.std.proofs.Common.{◌≡◌, ◌++◌, drop, map}
use Rattle.avro_nodes.specs.Nodes.{field_view}
use Rattle.avro_schema.specs.Inside.NodeTexts.{borrowed, fields_texts}
use Rattle.avro_schema.proofs.indexing.push_fields.Given as goal

abbrev pub invariant-loop-field : goal.invariant-loop-field
invariant-loop-field l = borrowed l.list.items ++ fields_texts (map field_view (drop l.field-index l.fields)) ≡ borrowed l.initial.list.items ++ fields_texts (map field_view l.fields)
