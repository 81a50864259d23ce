-- The nodes that a text denotes (Texts.antt), computed from its declarations, its defaults and its identity text.
use Rattle.std.specs.Prelude.{ℕ, List, Option}
use Rattle.avro_nodes.specs.Nodes.{NodeView}
use Rattle.avro_schema.specs.Attributes.{◌>>=◌}
use Rattle.avro_schema.specs.Inside.DeclaredNodes.{declared_nodes, nodes_that_fit}

-- The nodes that the text denotes, or `None` if it denotes no schema. The contract of `denoting_is_decided` proves that these are the nodes
-- of `TextDenotes`, so a reader needn't trust this definition or those that it uses.
unfoldable pub denoted_nodes : List ℕ → Option (List NodeView)
denoted_nodes text = declared_nodes text >>= nodes_that_fit
