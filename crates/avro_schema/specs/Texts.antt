-- Which schema a text denotes.
use Rattle.std.specs.Prelude.{◌≡◌, ℕ, ◌≤◌, List, [], length, Some}
use Rattle.serde_json.specs.Data.{Data}
use Rattle.serde_json.specs.Read.{read}
use Rattle.avro_nodes.specs.Limits.{max_nesting, max_text}
use Rattle.avro_nodes.specs.Nodes.{NodeView}
use Rattle.avro_nodes.specs.Plain.{plain}
use Rattle.avro_nodes.specs.Identity.{identity}
use Rattle.avro_schema.specs.Names.{Known, none_known}
use Rattle.avro_schema.specs.Defaults.{DefaultsFit}
use Rattle.avro_schema.specs.Denotes.{Denotes}

-- The text denotes these nodes. It is JSON, and all its numbers are 64-bit integers that `plain` accepts. Its value denotes the nodes in the
-- null namespace, with no names known, from place 0 on, and the root is at place 0. Every default fits its field. Neither the text nor the
-- identity text is longer than `max_text` bytes.
pub record TextDenotes (text : List ℕ) (nodes : List NodeView) : Type 0 where
  pub respelt : List ℕ
  pub value : Data
  pub known : Known
  pub short : length text ≤ max_text
  pub plain_is : plain text ≡ Some respelt
  pub value_is : read respelt ≡ Some value
  pub type_is : Denotes max_nesting [] value none_known 0 0 nodes known
  pub defaults : DefaultsFit nodes
  pub bounded : length (identity nodes) ≤ max_text

-- some text denotes these nodes
abbrev pub IsSchema : List NodeView → Type 0
IsSchema nodes = (text : List ℕ) × TextDenotes text nodes

-- the invariant of `Schema`: some text denotes its nodes, and its text is their identity text
pub record SchemaInvariant (nodes : List NodeView) (text : List ℕ) : Type 0 where
  pub schema : IsSchema nodes
  pub text_is : text ≡ identity nodes
