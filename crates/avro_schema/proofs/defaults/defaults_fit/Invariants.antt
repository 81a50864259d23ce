use Rattle.std.proofs.Common.{◌≡◌, drop}
use Rattle.avro_nodes.specs.Nodes.{nodes_view}
use Rattle.avro_schema.specs.Inside.Fitting.{node_defaults_fit}
use Rattle.avro_schema.proofs.defaults.defaults_fit.Given as goal

abbrev pub invariant-loop-node : goal.invariant-loop-node
invariant-loop-node l = node_defaults_fit (nodes_view l.nodes) (nodes_view (drop l.node-index l.nodes)) ≡ node_defaults_fit (nodes_view l.nodes) (nodes_view l.nodes)
