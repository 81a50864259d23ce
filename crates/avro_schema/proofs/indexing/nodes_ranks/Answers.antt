use Rattle.std.specs.Prelude.{Contains}
use Rattle.avro_nodes.specs.Nodes.{node_view}
use Rattle.avro_schema.specs.Index.{IsRanked}
use Rattle.avro_schema.specs.Inside.NodeTexts.{borrowed}
use Rattle.avro_schema.proofs.IndexLemmas.{nodes_rest, zipped_more}
use Rattle.avro_schema.proofs.indexing.nodes_ranks.Goals as goal

pub node_ranks-requires-clause-known : goal.node_ranks-requires-clause-known
node_ranks-requires-clause-known c =
    (nodes_rest (Contains (borrowed c.args.names.now)) c.args.nodes.now c.loop-node.node-index c.node-item.result c.loop-node-test.true c.node-item.is c.loop-node.invariant.known).0

pub loop-node-preserved : goal.loop-node-preserved
loop-node-preserved c =
    let names = borrowed c.args.names.now in let nodes = c.args.nodes.now in let i = c.loop-node.node-index in let a = c.node-item.result in
    record {
      known = (nodes_rest (Contains names) nodes i a c.loop-node-test.true c.node-item.is c.loop-node.invariant.known).1;
      ranked = rw c.in_ok-push.ensures.items (zipped_more node_view (IsRanked names) nodes i a c.loop-node.ranks.items c.in_ok-node_ranks.field-0 c.loop-node-test.true c.node-item.is c.loop-node.invariant.ranked c.in_ok-node_ranks.ensures);
    }
