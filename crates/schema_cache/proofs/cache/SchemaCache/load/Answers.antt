use Rattle.avro_nodes.specs.Nodes.{nodes_view}
use Rattle.avro_schema.proofs.TextLemmas.{denotes_computes}
use Rattle.schema_cache.proofs.cache.SchemaCache.load.Goals as goal

pub insert-requires : goal.insert-requires
insert-requires c = denotes_computes c.args.text.now (nodes_view c.in-Ok.schema) c.in-Ok.ensures.ok
