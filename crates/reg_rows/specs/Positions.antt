-- The rows of `against`: the ids that a version was checked against, by position.
use Rattle.std.specs.Prelude.{ℕ, ◌<◌, ◌≤◌, ◌↔◌, List, Contains}
use Rattle.std.specs.Borrow.{Bor}
use Rattle.reg_core.specs.Registry.{RowKey}

-- a version's key (subject and number), and a position among the ids that the version was checked against
abbrev pub PositionKey : Type 0
PositionKey = RowKey × ℕ

-- The positions of the version are 1, 2, .. up to `count`. The table itself rejects duplicates.
pub record IsContiguousFor (listed : List PositionKey) (version : RowKey) : Type 0 where
  pub count : ℕ
  pub positions : (position : ℕ) → Contains listed (version, position) ↔ ((0 < position) × (position ≤ count))

-- the same for each version
abbrev pub AreContiguous : List PositionKey → Type 0
AreContiguous positions = (version : RowKey) → IsContiguousFor positions version

-- each version with a position has evidence
abbrev pub HaveEvidence : List RowKey → List PositionKey → Type 0
HaveEvidence evidence positions = (position : PositionKey) → Contains positions position → Contains evidence position.0

-- ---- with a borrowed subject

abbrev pub version_view : Bor (List ℕ) × ℕ → RowKey
version_view key = (key.0.now, key.1)

abbrev pub position_view : Bor (List ℕ) × ℕ × ℕ → PositionKey
position_view key = ((key.0.now, key.1), key.2)
