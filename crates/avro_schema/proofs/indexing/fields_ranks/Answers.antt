use Rattle.std.specs.Prelude.{Contains}
use Rattle.avro_nodes.specs.Nodes.{field_view}
use Rattle.avro_schema.specs.Index.{IsFieldRanked}
use Rattle.avro_schema.specs.Inside.NodeTexts.{borrowed}
use Rattle.avro_schema.proofs.IndexLemmas.{fields_rest, zipped_more}
use Rattle.avro_schema.proofs.indexing.fields_ranks.Goals as goal

pub field_ranks-requires-clause-known : goal.field_ranks-requires-clause-known
field_ranks-requires-clause-known c =
    (fields_rest (Contains (borrowed c.args.names.now)) c.args.fields.now c.loop-field.field-index c.field-item.result c.loop-field-test.true c.field-item.is c.loop-field.invariant.known).0

pub loop-field-preserved : goal.loop-field-preserved
loop-field-preserved c =
    let names = borrowed c.args.names.now in let fields = c.args.fields.now in let i = c.loop-field.field-index in let f = c.field-item.result in
    record {
      known = (fields_rest (Contains names) fields i f c.loop-field-test.true c.field-item.is c.loop-field.invariant.known).1;
      ranked = rw c.in_ok-push.ensures.items (zipped_more field_view (IsFieldRanked names) fields i f c.loop-field.ranks.items c.in_ok-field_ranks.field-0 c.loop-field-test.true c.field-item.is c.loop-field.invariant.ranked c.in_ok-field_ranks.ensures);
    }
