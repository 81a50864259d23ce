use Rattle.std.proofs.Common.{◌≡◌, ◌-◌, drop, map}
use Rattle.avro_nodes.specs.Nodes.{field_view, nodes_view}
use Rattle.avro_schema.specs.Inside.Mentions.{fields_mentions}
use Rattle.avro_schema.proofs.mentions.after_fields.Given as goal

abbrev pub invariant-loop-field : goal.invariant-loop-field
invariant-loop-field l = l.rest - fields_mentions (nodes_view l.nodes) (map field_view (drop l.field-index l.field-items)) ≡ l.budget - fields_mentions (nodes_view l.nodes) (map field_view l.field-items)
