use Rattle.std.proofs.Common.{arith}
use Rattle.avro_nodes.specs.Nodes.{nodes_view}
use Rattle.avro_resolve.proofs.Denoted.{is_whole, are_own}
use Rattle.avro_resolve.proofs.schemas.IndexedSchema.of.Goals as goal

pub returns-clause-indexed : goal.returns-clause-indexed
returns-clause-indexed c =
    let nodes = nodes_view c.args.schema.now in
    record {
      whole = is_whole nodes c.places-places.ensures.schema;
      index = c.index-index.ensures;
      few = omega (arith, c.places-places.ensures.places, c.places-places.ensures.few);
      own = are_own nodes c.places-places.ensures.schema;
    }
