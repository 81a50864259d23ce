-- When a table takes more rows: SQLite inserts a row at the last rowid plus one.
use Rattle.std.specs.Prelude.{◌≡◌, ℕ, ◌+◌, ◌^◌, ◌≤◌, ℤ, pos, List, [], ◌∷◌, ⊤}
use Rattle.sqlite.specs.declared.types.Value.TheVariants.{Int}
use Rattle.sqlite.specs.Order.{Row}
use Rattle.sqlite.specs.Tree.{rowid}
use Rattle.sqlite.specs.Edit.{next_rowid}
use Rattle.sqlite.specs.Table.{Table}
use Rattle.sqlite.specs.Schema.{Schema}
use Rattle.sqlite_rules.specs.Edit.{IsOversized}
use Rattle.reg_tables.specs.Layout.{layout_one}

-- a row with these cells can be stored at any rowid
abbrev pub CanBeStoredIn : Schema → Table → Row → Type 0
CanBeStoredIn schema table cells = (id : ℤ) → ¬ IsOversized schema table (Int id ∷ cells)

-- the same in layout 1
abbrev pub CanBeStored : Table → Row → Type 0
CanBeStored = CanBeStoredIn layout_one

-- the rows are in the order of their rowids, which are at least `low`
abbrev pub Ascends : ℕ → List Row → Type 0
Ascends low [] = ⊤
Ascends low (row ∷ rows) = (id : ℕ) × (rowid row ≡ Int (pos id)) × (low ≤ id) × Ascends (id + 1) rows

-- `count` more rows can be inserted after the last one
pub record HasRoom (rows : List Row) (count : ℕ) : Type 0 where
  pub ascends : Ascends 1 rows
  pub next : ℕ
  pub is_next : next_rowid rows ≡ pos next
  pub room : next + count ≤ 2 ^ 63
