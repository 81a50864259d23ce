use Rattle.std.proofs.Common.{arith}
use Rattle.std.proofs.lemmas.List.{length-map}
use Rattle.avro_nodes.specs.Nodes.{node_view}
use Rattle.avro_schema.proofs.TextLemmas.{few_places}
use Rattle.avro_schema.proofs.schema.Schema.places.Goals as goal

pub overflow_cast-result : goal.overflow_cast-result
overflow_cast-result c =
    let few = few_places _ c.self.invariant.0.schema in
    let same = length-map c.self.inside.nodes.items node_view in
    let here = c.len.ensures in
    let vec = c.self.inside.nodes.ok.0 in
    omega arith

pub returns-clause-few : goal.returns-clause-few
returns-clause-few c =
    let few = few_places _ c.self.invariant.0.schema in
    let same = length-map c.self.inside.nodes.items node_view in
    let here = c.len.ensures in
    let vec = c.self.inside.nodes.ok.0 in
    omega arith

pub returns-clause-schema : goal.returns-clause-schema
returns-clause-schema c = rw (← c.self.view_is) c.self.invariant.0.schema
