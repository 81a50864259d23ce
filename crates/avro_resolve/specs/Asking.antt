-- The pairs that a pair asks for (may depend on; `DependsOn` is stronger), and the pairs that the pair of the roots reaches through these (this
-- project's choice).
use Rattle.std.specs.Prelude.{◌≡◌, ℕ, ◌↔◌, Option, Some, option_map, MatchOption, List, Any, Contains, slice_get, IsTrue}
use Rattle.avro_nodes.specs.Nodes.{FieldView, NodeView, array, mapping, union, rec}
use Rattle.avro_resolve.specs.Resolution.{source}
use Rattle.avro_resolve.specs.Witnesses.{Pair, member, AreDistinct}

-- the place of the type of a reader's field's source among the writer's fields, or `None` without a source
abbrev pub source_place : List FieldView → FieldView → Option ℕ
source_place fields f = option_map (λ g. g.place) (source fields f)

-- The pair of these nodes, at the places i and j, may depend on the pair (p, q), by the kinds of the nodes only. A union, the writer's if both are,
-- may depend on each branch with the other node, arrays on their items, maps on their values, and records on each reader's field with its source.
abbrev pub AsksFor : ℕ → ℕ → NodeView → NodeView → ℕ → ℕ → Type 0
AsksFor i j (union branches) b p q = Contains branches p × (q ≡ j)
AsksFor i j a (union branches) p q = (p ≡ i) × Contains branches q
AsksFor i j (array x _) (array y _) p q = (p ≡ x) × (q ≡ y)
AsksFor i j (mapping x _) (mapping y _) p q = (p ≡ x) × (q ≡ y)
AsksFor i j (rec n fields _) (rec m wanted _) p q = Any (λ f. (source_place fields f ≡ Some p) × (f.place ≡ q)) wanted
AsksFor i j _ _ p q = ⊥

-- Whether the pair (i, j) is supported may depend on the pair (p, q), by `AsksFor`. False if i or j is past the last place.
unfoldable pub Asks : List NodeView → List NodeView → ℕ → ℕ → ℕ → ℕ → Type 0
Asks w r i j p q = MatchOption (slice_get w i) ⊥ (λ a. MatchOption (slice_get r j) ⊥ (λ b. AsksFor i j a b p q))

-- the pair is that of the roots, or the pair of the roots may depend on it, directly or through other pairs
pub data Reaches : List NodeView → List NodeView → ℕ → ℕ → Type 0 where
  at_roots : {w r : List NodeView} → Reaches w r 0 0
  asked_by : {w r : List NodeView} {i j p q : ℕ} → Reaches w r i j → Asks w r i j p q → Reaches w r p q

-- the list has exactly the pairs of `Reaches`, supported or not, each once; the pair of the roots is one of them
pub record AreAllReached (w r : List NodeView) (ps : List Pair) : Type 0 where
  pub distinct : AreDistinct ps
  pub exact : (i j : ℕ) → IsTrue (member ps i j) ↔ Reaches w r i j

-- the list contains the pair of the roots, and each pair on which one of its pairs may depend
pub record ContainsAsked (w r : List NodeView) (ps : List Pair) : Type 0 where
  pub roots : IsTrue (member ps 0 0)
  pub on : (i j p q : ℕ) → IsTrue (member ps i j) → Asks w r i j p q → IsTrue (member ps p q)
