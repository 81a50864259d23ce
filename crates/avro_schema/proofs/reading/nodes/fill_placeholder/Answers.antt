use Rattle.std.proofs.lemmas.List.{map-set}
use Rattle.avro_nodes.specs.Nodes.{node_view}
use Rattle.avro_schema.proofs.reading.nodes.fill_placeholder.Goals as goal

pub returns : goal.returns
returns c = map-set node_view _ _ _
