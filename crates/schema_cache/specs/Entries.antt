-- The entries of a cache, and their limits.
use Rattle.std.specs.Prelude.{◌≡◌, ◌≢◌, ℕ, nat_eq, ◌+◌, ◌<◌, ◌≤◌, List, [], ◌∷◌, length, Option, Some, None, refl}
use Rattle.std.specs.Map.{lookup}
use Rattle.std.specs.Coded.{Coded, code_by, coded×, coded_list, coded_ℕ}
use Rattle.avro_nodes.specs.Nodes.{nodes_view}
use Rattle.avro_nodes.specs.declared.node.Node.{Node}
use Rattle.avro_nodes.specs.contracts.node.Node.{the_row}
use Rattle.avro_schema.specs.DenotedNodes.{denoted_nodes}

-- a text, and the nodes of a schema that it denotes
pub record EntryView : Type 0 where
  pub text : List ℕ
  pub nodes : List Node

-- an `EntryView` is coded as the pair of its fields
abbrev pub entry_code : Coded EntryView
entry_code = code_by (List ℕ × List Node) (coded× (coded_list coded_ℕ) (coded_list the_row.coded)) (λ r. (r.text, r.nodes)) (λ p. record { text = p.0; nodes = p.1 }) (λ _. refl)

-- the total length of these entries' texts, in bytes
abbrev pub text_bytes : List (ℕ × EntryView) → ℕ
text_bytes [] = 0
text_bytes (e ∷ es) = length e.1.text + text_bytes es

-- the bytes of an entry's text, or 0 without an entry
abbrev pub entry_text_bytes : Option (ℕ × EntryView) → ℕ
entry_text_bytes None = 0
entry_text_bytes (Some e) = length e.1.text

-- the maximum number of entries
abbrev pub max_entries : ℕ
max_entries = 256

-- the maximum length of all texts together: 384 KiB
abbrev pub max_total_bytes : ℕ
max_total_bytes = 393216

-- the maximum length of a text: 64 KiB
abbrev pub max_cached_text : ℕ
max_cached_text = 65536

-- one more entry with a text of this many bytes fits
pub record HasRoom (bytes : ℕ) (entries : List (ℕ × EntryView)) : Type 0 where
  pub few : length entries < max_entries
  pub small : text_bytes entries + bytes ≤ max_total_bytes

-- every other id has the same entry as before, if any
abbrev pub KeepsOthers : ℕ → List (ℕ × EntryView) → List (ℕ × EntryView) → Type 0
KeepsOthers id old new = (other : ℕ) → other ≢ id → lookup (nat_eq other) new ≡ lookup (nat_eq other) old

-- The text denotes these nodes, and is short enough to be cached.
pub record IsCacheable (text : List ℕ) (nodes : List Node) : Type 0 where
  pub denotes : denoted_nodes text ≡ Some (nodes_view nodes)
  pub short : length text ≤ max_cached_text
