-- Readers of JSON values, and how they run one after another.
use Rattle.std.specs.Prelude.{ℕ, ◌+◌, List, [], ◌∷◌, ◌++◌, length, nat_lt, if◌then◌else◌, Option, Some, None}
use Rattle.serde_json.specs.Data.{Data, Items, no_items, item}
use Rattle.avro_nodes.specs.Limits.{max_places}
use Rattle.avro_nodes.specs.Nodes.{NodeView}
use Rattle.avro_schema.specs.Names.{Known}
use Rattle.avro_schema.specs.Attributes.{◌>>=◌}

-- what a reader returns: its result, the nodes that it added, and the names known afterwards
pub record Part (A : Type 0) : Type 0 where
  pub it : A
  pub nodes : List NodeView
  pub known : Known

-- a function of a value, the names known before it, and the place of its first node
abbrev pub PartReader : Type 0 → Type 0
PartReader A = Data → Known → ℕ → Option (Part A)

-- a reader of types, given the namespace
abbrev pub TypeReader : Type 0
TypeReader = List ℕ → PartReader ℕ

-- reads the items in order; each reader knows the names of the earlier items, and its nodes follow theirs
unfoldable pub parts_of : {A : Type 0} → PartReader A → Items → Known → ℕ → Option (Part (List A))
parts_of one no_items known first = Some (record { it = []; nodes = []; known = known })
parts_of one (item d ds) known first = do
  p ← one d known first
  more ← parts_of one ds p.known (first + length p.nodes)
  Some (record { it = p.it ∷ more.it; nodes = p.nodes ++ more.nodes; known = more.known })

-- the place of a new node, or `None` if the schema has the maximum number of nodes
unfoldable pub next_place : ℕ → Option ℕ
next_place first = if nat_lt first max_places then Some first else None
