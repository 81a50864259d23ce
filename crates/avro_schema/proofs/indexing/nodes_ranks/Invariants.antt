use Rattle.std.proofs.Common.{take, drop}
use Rattle.std.specs.Prelude.{All, Contains}
use Rattle.avro_nodes.specs.Nodes.{nodes_view}
use Rattle.avro_schema.specs.Index.{AreRanked}
use Rattle.avro_schema.specs.Inside.NodeTexts.{borrowed, nodes_texts}
use Rattle.avro_schema.proofs.indexing.nodes_ranks.Given as goal

abbrev pub invariant-loop-node : goal.invariant-loop-node
invariant-loop-node l = record {
  known : All (Contains (borrowed l.names)) (nodes_texts (nodes_view (drop l.node-index l.nodes)));
  ranked : AreRanked (borrowed l.names) (nodes_view (take l.node-index l.nodes)) l.ranks.items;
}
