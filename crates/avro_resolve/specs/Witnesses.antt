-- Lists of pairs that prove that a schema resolves with another, or that it doesn't (this project's choice).
use Rattle.std.specs.Prelude.{◌≡◌, ℕ, ◌≤◌, ◌==◌, ◌&&◌, ◌++◌, [], ◌∷◌, false, not, List, length, IsTrue}
use Rattle.std.specs.List.{list_any}
use Rattle.avro_nodes.specs.Nodes.{NodeView}
use Rattle.avro_resolve.specs.Resolution.{Pairs, Supports, Closed}

-- a writer's place and a reader's place
abbrev pub Pair : Type 0
Pair = ℕ × ℕ

-- the set of a list's pairs
unfoldable pub member : List Pair → Pairs
member ps i j = list_any (λ p. p.0 == i && p.1 == j) ps

-- all pairs except a list's
abbrev pub without : List Pair → Pairs
without ps i j = not (member ps i j)

-- After the pairs of `before`, the list refutes its pairs one by one: the set of all pairs except the earlier ones doesn't support the next one.
unfoldable pub RefutesAfter : List NodeView → List NodeView → List Pair → List Pair → Type 0
RefutesAfter w r before [] = Unit {0}
RefutesAfter w r before (p ∷ ps) = (Supports w r (without before) p.0 p.1 → ⊥) × RefutesAfter w r (before ++ p ∷ []) ps

-- no pair occurs twice
unfoldable pub AreDistinct : List Pair → Type 0
AreDistinct [] = Unit {0}
AreDistinct (p ∷ ps) = (member ps p.0 p.1 ≡ false) × AreDistinct ps

-- the witness of a yes: a closed set of at most this many pairs, with the pair of the roots
abbrev pub HasClosedSet : List NodeView → List NodeView → ℕ → Type 0
HasClosedSet w r most = (ps : List Pair) × IsTrue (member ps 0 0) × Closed w r (member ps) × (length ps ≤ most)

-- the witness of a no: a refuting list of at most this many distinct pairs, which ends with the pair of the roots
abbrev pub HasRefutation : List NodeView → List NodeView → ℕ → Type 0
HasRefutation w r most = (ps : List Pair) × RefutesAfter w r [] (ps ++ (0, 0) ∷ []) × AreDistinct (ps ++ (0, 0) ∷ []) × (length (ps ++ (0, 0) ∷ []) ≤ most)
