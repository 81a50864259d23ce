-- The two schemas of a resolution.
use Rattle.std.specs.Prelude.{◌≡◌, ℕ, List, All, Some, length, slice_get, ◌<◌}
use Rattle.avro_nodes.specs.Nodes.{NodeView, nodes_view, texts_view}
use Rattle.avro_schema.specs.Index.{IsIndex}
use Rattle.avro_resolve.specs.declared.schemas.IndexedSchema.{IndexedSchema}
use Rattle.avro_resolve.specs.declared.schemas.SchemaPair.{SchemaPair}
use Rattle.avro_resolve.specs.Resolution.{source}
use Rattle.avro_resolve.specs.Inside.Agreeing.{fields_of}
use Rattle.avro_resolve.specs.Inside.Places.{IsSelfContained}
use Rattle.avro_resolve.specs.Inside.RankMaps.{AreMapped, IsKnown}

-- the nodes of the schema
abbrev pub nodes_of : IndexedSchema → List NodeView
nodes_of indexed = nodes_view indexed.schema.now

-- the names of the schema, by rank
abbrev pub names_of : IndexedSchema → List (List ℕ)
names_of indexed = texts_view indexed.index.now.names.items

-- Each reference is to a node, the index is that of the nodes, and a place plus 1 fits 16 bits. If a record is read with itself, the source of each
-- field is that field.
pub record IsValidIndexedSchema (indexed : IndexedSchema) : Type 0 where
  pub whole : IsSelfContained (nodes_of indexed)
  pub index : IsIndex (nodes_of indexed) indexed.index.now
  pub few : length indexed.schema.now < 65536
  pub own : (i : ℕ) (a : NodeView) → slice_get (nodes_of indexed) i ≡ Some a → All (λ f. source (fields_of a) f ≡ Some f) (fields_of a)

-- the writer's nodes are the rows of the pair table, the reader's nodes its columns
abbrev pub rows : SchemaPair → List NodeView
rows schemas = nodes_of schemas.writer

abbrev pub columns : SchemaPair → List NodeView
columns schemas = nodes_of schemas.reader

-- both schemas are valid, and their name ranks are mapped
pub record IsValidSchemaPair (schemas : SchemaPair) : Type 0 where
  pub writer : IsValidIndexedSchema schemas.writer
  pub reader : IsValidIndexedSchema schemas.reader
  pub rank_map : AreMapped (names_of schemas.writer) (names_of schemas.reader) schemas.rank_map.ranks.items
  pub known : IsKnown schemas.rank_map.ranks.items schemas.rank_map.writer_has.items
