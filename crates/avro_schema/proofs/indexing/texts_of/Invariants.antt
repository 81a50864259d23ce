use Rattle.std.proofs.Common.{◌≡◌, ◌++◌, drop}
use Rattle.avro_nodes.specs.Nodes.{nodes_view}
use Rattle.avro_schema.specs.Inside.NodeTexts.{borrowed, nodes_texts}
use Rattle.avro_schema.proofs.indexing.texts_of.Given as goal

abbrev pub invariant-loop-node : goal.invariant-loop-node
invariant-loop-node l = borrowed l.list.items ++ nodes_texts (nodes_view (drop l.node-index l.nodes)) ≡ nodes_texts (nodes_view l.nodes)
