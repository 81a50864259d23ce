-- The nodes that a text declares, computed, and the last two checks on them.
use Rattle.std.specs.Prelude.{ℕ, List, [], length, nat_le, ◌&&◌, if◌then◌else◌, Option, Some, None}
use Rattle.serde_json.specs.Data.{Data}
use Rattle.serde_json.specs.Read.{read}
use Rattle.avro_nodes.specs.Limits.{max_nesting, max_text}
use Rattle.avro_nodes.specs.Nodes.{NodeView}
use Rattle.avro_nodes.specs.Plain.{plain}
use Rattle.avro_nodes.specs.Identity.{identity}
use Rattle.avro_schema.specs.Names.{none_known}
use Rattle.avro_schema.specs.Attributes.{◌>>=◌}
use Rattle.avro_schema.specs.Inside.ValueReaders.{Part}
use Rattle.avro_schema.specs.Inside.Weight.{weight}
use Rattle.avro_schema.specs.Inside.Types.{type_at}
use Rattle.avro_schema.specs.Inside.Fitting.{node_defaults_fit}

-- the JSON value of a text after its numbers are rewritten
unfoldable pub value_in : List ℕ → Option Data
value_in text = do
  respelt ← plain text
  read respelt

-- The root type of a value. The identity text contains the names of all definitions, so together they must not be longer than a text may
-- be.
unfoldable pub root_in : Data → Option (Part ℕ)
root_in value = if nat_le (weight max_nesting [] value) max_text then type_at max_nesting [] value none_known 0 else None

-- the nodes that a text declares, before the checks of their defaults and their identity text
unfoldable pub declared_nodes : List ℕ → Option (List NodeView)
declared_nodes text = if nat_le (length text) max_text then (do
  value ← value_in text
  p ← root_in value
  Some p.nodes) else None

-- the nodes, if every default fits its field and the identity text is not too long
unfoldable pub nodes_that_fit : List NodeView → Option (List NodeView)
nodes_that_fit nodes = if node_defaults_fit nodes nodes && nat_le (length (identity nodes)) max_text then Some nodes else None
