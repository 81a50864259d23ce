-- The bytes that the names of types inside other types take in the identity text. The identity text has such a name once for each use of
-- the type: in its definition or in a reference.
use Rattle.std.specs.Prelude.{ℕ, ◌+◌, List, [], ◌∷◌, length, slice_get}
use Rattle.avro_nodes.specs.Identity.{name_of}
use Rattle.avro_nodes.specs.Nodes.{FieldView, NodeView, primitive, array, mapping, union, enumeration, fixed, rec}

module _ (all : List NodeView) where
  -- the length of the full name of the type at the place, 0 if it has no name
  unfoldable pub mention : ℕ → ℕ
  mention place = length (name_of (slice_get all place))

  abbrev pub places_mentions : List ℕ → ℕ
  places_mentions [] = 0
  places_mentions (place ∷ places) = mention place + places_mentions places

  abbrev pub fields_mentions : List FieldView → ℕ
  fields_mentions [] = 0
  fields_mentions (f ∷ fields) = mention f.place + fields_mentions fields

  abbrev pub node_mentions : NodeView → ℕ
  node_mentions (primitive kind extra) = 0
  node_mentions (array place extra) = mention place
  node_mentions (mapping place extra) = mention place
  node_mentions (union branches) = places_mentions branches
  node_mentions (enumeration named symbols fallback extra) = 0
  node_mentions (fixed named size extra) = 0
  node_mentions (rec named fields extra) = fields_mentions fields

  abbrev pub mentions : List NodeView → ℕ
  mentions [] = 0
  mentions (node ∷ nodes) = node_mentions node + mentions nodes
