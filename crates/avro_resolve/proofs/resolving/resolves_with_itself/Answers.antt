use Rattle.avro_nodes.specs.Nodes.{nodes_view}
use Rattle.avro_resolve.proofs.Itself.{schema_resolves}
use Rattle.avro_resolve.proofs.resolving.resolves_with_itself.Goals as goal

pub returns : goal.returns
returns c = schema_resolves (nodes_view c.args.schema.now) c.places-places.ensures.schema
