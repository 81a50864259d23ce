use Rattle.std.proofs.Common.{map, take, drop}
use Rattle.std.specs.Prelude.{All, Contains}
use Rattle.avro_nodes.specs.Nodes.{field_view}
use Rattle.avro_schema.specs.Index.{AreFieldsRanked}
use Rattle.avro_schema.specs.Inside.NodeTexts.{borrowed, fields_texts}
use Rattle.avro_schema.proofs.indexing.fields_ranks.Given as goal

abbrev pub invariant-loop-field : goal.invariant-loop-field
invariant-loop-field l = record {
  known : All (Contains (borrowed l.names)) (fields_texts (map field_view (drop l.field-index l.fields)));
  ranked : AreFieldsRanked (borrowed l.names) (map field_view (take l.field-index l.fields)) l.ranks.items;
}
