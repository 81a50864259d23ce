-- Sorted versions and positions with borrowed subjects, for a binary search.
use Rattle.std.specs.Prelude.{◌≡◌, ◌⊎◌, ℕ, ◌-◌, ◌<◌, List, Contains, map, IsSorted}
use Rattle.std.specs.Borrow.{Bor}
use Rattle.std.specs.Cmp.Lexicographic.{slice_cmp}
use Rattle.std.specs.Ordering.{nat_cmp, on, ordering_then}
use Rattle.std.specs.declared.cmp.Ordering.{Ordering}
use Rattle.reg_core.specs.Registry.{RowKey}
use Rattle.reg_rows.specs.Positions.{PositionKey, version_view, position_view}

abbrev pub version_order : RowKey → RowKey → Ordering
version_order x y = ordering_then (slice_cmp nat_cmp x.0 y.0) (nat_cmp x.1 y.1)

abbrev pub position_order : PositionKey → PositionKey → Ordering
position_order x y = ordering_then (version_order x.0 y.0) (nat_cmp x.1 y.1)

abbrev pub AreSortedVersions : List (Bor (List ℕ) × ℕ) → Type 0
AreSortedVersions = IsSorted (on version_view version_order)

abbrev pub AreSortedPositions : List (Bor (List ℕ) × ℕ × ℕ) → Type 0
AreSortedPositions = IsSorted (on position_view position_order)

-- the list contains the version of the position
abbrev pub HasVersion : List (Bor (List ℕ) × ℕ) → Bor (List ℕ) × ℕ × ℕ → Type 0
HasVersion versions position = Contains (map version_view versions) (position.0.now, position.1)

-- the position isn't 0, and it is 1 or the list contains its predecessor
abbrev pub HasPredecessor : List PositionKey → PositionKey → Type 0
HasPredecessor positions position = (0 < position.1) × ((position.1 ≡ 1) ⊎ Contains positions (position.0, position.1 - 1))

abbrev pub HasPredecessorIn : List (Bor (List ℕ) × ℕ × ℕ) → Bor (List ℕ) × ℕ × ℕ → Type 0
HasPredecessorIn positions position = HasPredecessor (map position_view positions) (position_view position)
