-- The pairs that the pair of the roots reaches, as those in each list that is closed under dependence.
use Rattle.std.specs.Prelude.{◌≡◌, ℕ, ◌<◌, ◌^◌, Some, List, length, IsTrue}
use Rattle.avro_nodes.specs.Nodes.{FieldView, NodeView}
use Rattle.avro_resolve.specs.Witnesses.{Pair, member}
use Rattle.avro_resolve.specs.Asking.{AsksFor, ContainsAsked, source_place}

-- each list that contains the pair of the roots and all dependencies of its pairs contains this pair
unfoldable pub IsReachable : List NodeView → List NodeView → ℕ → ℕ → Type 0
IsReachable w r i j = (ps : List Pair) → ContainsAsked w r ps → IsTrue (member ps i j)

-- both numbers are places of nodes, and the pair is reachable
pub record IsReachablePair (w r : List NodeView) (i j : ℕ) : Type 0 where
  pub row : i < length w
  pub column : j < length r
  pub reached : IsReachable w r i j

-- some list of fewer than 2^32 pairs contains the pair of the roots and all dependencies of its pairs
abbrev pub IsSmall : List NodeView → List NodeView → Type 0
IsSmall w r = (ps : List Pair) × ContainsAsked w r ps × (length ps < 2 ^ 32)

-- the pair of a reader's field and its source is reachable
abbrev pub IsSourceReachable : List NodeView → List NodeView → List FieldView → FieldView → Type 0
IsSourceReachable w r fields f = (p : ℕ) → source_place fields f ≡ Some p → IsReachablePair w r p f.place

-- each pair on which the nodes at (i, j) depend is reachable
abbrev pub AreReachable : List NodeView → List NodeView → ℕ → ℕ → NodeView → NodeView → Type 0
AreReachable w r i j a b = (p q : ℕ) → AsksFor i j a b p q → IsReachablePair w r p q
