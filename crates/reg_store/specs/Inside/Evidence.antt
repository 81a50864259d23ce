-- The form of the rows of `evidence` and `against`.
use Rattle.std.specs.Prelude.{◌≡◌, ◌↔◌, ◌<◌, ◌≤◌, ◌^◌, ℕ, List, Some, IsSome, IsTrue, is_some}
use Rattle.std.specs.FinMap.{FinMap, get}
use Rattle.reg_core.specs.Levels.{level_of}
use Rattle.reg_core.specs.Registry.{RowKey}
use Rattle.reg_tables.specs.Contents.{PositionKey, position_cmp, Contents}

-- the version has ids at exactly the positions from 1 to a count
pub record HasContiguousPositions (against : FinMap position_cmp ℕ) (key : RowKey) : Type 0 where
  pub count : ℕ
  pub few : count < 2 ^ 32
  pub each : (position : ℕ) → IsSome (get against (key, position)) ↔ ((0 < position) × (position ≤ count))

-- each row of `evidence` has the name of a level; only versions with such a row have ids, at the positions 1, 2, and so on
pub record IsEvidence (contents : Contents) : Type 0 where
  pub levels : (key : RowKey) (level : List ℕ) → get contents.evidence key ≡ Some level → IsTrue (is_some (level_of level))
  pub owners : (position : PositionKey) (id : ℕ) → get contents.against position ≡ Some id → IsSome (get contents.evidence position.0)
  pub positions : (key : RowKey) → HasContiguousPositions contents.against key
