use Rattle.std.proofs.Common.{◌≡◌, ◌-◌, drop}
use Rattle.avro_nodes.specs.Nodes.{nodes_view}
use Rattle.avro_schema.specs.Inside.Mentions.{mentions}
use Rattle.avro_schema.proofs.mentions.after_nodes.Given as goal

abbrev pub invariant-loop-node : goal.invariant-loop-node
invariant-loop-node l = l.rest - mentions (nodes_view l.nodes) (nodes_view (drop l.node-index l.nodes)) ≡ l.budget - mentions (nodes_view l.nodes) (nodes_view l.nodes)
