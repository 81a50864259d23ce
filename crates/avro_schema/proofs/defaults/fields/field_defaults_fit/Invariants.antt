use Rattle.std.proofs.Common.{◌≡◌, drop, map}
use Rattle.avro_nodes.specs.Nodes.{field_view, nodes_view}
use Rattle.avro_schema.specs.Inside.Fitting.{field_defaults_fit}
use Rattle.avro_schema.proofs.defaults.fields.field_defaults_fit.Given as goal

abbrev pub invariant-loop-field : goal.invariant-loop-field
invariant-loop-field l = field_defaults_fit (nodes_view l.nodes) (map field_view (drop l.field-index l.fields)) ≡ field_defaults_fit (nodes_view l.nodes) (map field_view l.fields)
