-- Rows that SQLite can store at any rowid: they are small enough and have no floats.
use Rattle.std.proofs.Common.{arith, ◌≡◌, inl, inr, ℕ, zero, suc, ◌+◌, ◌/◌, ◌%◌, ◌^◌, ◌<◌, ◌≤◌, ℤ, pos, negsuc, All, [], ◌∷◌, length, ap, sym, refl, subst}
use Rattle.reg_tables.proofs.Kit.{AllByRecursion, sum_by, NotNan, sum_by-cons, Value, Null, Int, Real, Text, Blob, Row, Table, number, bytes, Index, table_reals, index_reals, entry_of, IsStorable, Has, all_has}
use native.Mathlib.Nat.{zero-div}
use Rattle.reg_tables.specs.Layout.{layout_one, meta}
use Rattle.reg_tables.specs.Rooms.{CanBeStored}

-- the value is no float
abbrev pub IsNoFloat : Value → Type 0
IsNoFloat (Real x) = ⊥
IsNoFloat _ = Unit {0}

-- the size of a row, with 18 bytes for the type and the number of each value
abbrev pub size_of : Row → ℕ
size_of = sum_by (λ v. 18 + length (bytes v))

not_nan : (v : Value) → IsNoFloat v → NotNan (number v)
unfolding lib.Ieee.is_nan
not_nan Null plain = tt
not_nan (Int (pos n)) plain = tt
not_nan (Int (negsuc n)) plain = tt
not_nan (Real x) plain = absurd plain
not_nan (Text t) plain = tt
not_nan (Blob b) plain = tt

not_nans : (row : Row) → AllByRecursion IsNoFloat row → All (λ v. NotNan (number v)) row
not_nans [] plain k d low = absurd (omega (arith, low))
not_nans (v ∷ row) plain zero d low = not_nan v plain.0
not_nans (v ∷ row) plain (suc k) d low = not_nans row plain.1 k d (omega (arith, low))

-- without REAL columns, a row without floats can be stored unless it is too large
pub storable : (row : Row) → AllByRecursion IsNoFloat row → 0 < length row → length row ≤ 2001 → size_of row ≤ 10 ^ 9 → IsStorable 0 row
storable row plain some few short = record {
  typed = λ c on. absurd (let none : 0 / 2 ^ c % 2 ≡ 0 = ap (λ n. n % 2) (zero-div (2 ^ c)) in let one : 0 / 2 ^ c % 2 ≡ 1 = on in omega (arith, none, one));
  columns = (some, few);
  numbers = not_nans row plain;
  short = short;
}

-- a table without REAL columns whose only index is on its first column
pub record IsKeyedTable (table : Table) : Type 0 where
  pub reals : table_reals table ≡ 0
  pub key : (i : Index) → Has layout_one.indexes i → i.table ≡ table.tree → i.columns ≡ 1 ∷ []

pub meta_is_keyed : IsKeyedTable meta
meta_is_keyed = record {
  reals = refl;
  key = λ i there. all_has (λ (i : Index). i.table ≡ meta.tree → i.columns ≡ 1 ∷ []) layout_one.indexes i
      (λ no. absurd (omega (arith, no)), (λ no. absurd (omega (arith, no)), (λ no. absurd (omega (arith, no)), (λ no. absurd (omega (arith, no)), (λ is. refl, (λ no. absurd (omega (arith, no)), tt)))))) there;
}

module _ (table : Table) (keyed : IsKeyedTable table) (key : Value) (rest : Row) (plain : AllByRecursion IsNoFloat (key ∷ rest)) (few : length rest < 2000) (short : 18 + size_of (key ∷ rest) ≤ 10 ^ 9) where
  row_is_storable : (id : ℤ) → IsStorable 0 (Int id ∷ key ∷ rest)
  row_is_storable id = storable (Int id ∷ key ∷ rest) (tt, plain) (omega arith) (omega (arith, few)) (let is = sum_by-cons (λ v. 18 + length (bytes v)) (Int id) (key ∷ rest) in omega (arith, is, short))

  entry_is_storable : (id : ℤ) → IsStorable 0 (key ∷ Int id ∷ [])
  entry_is_storable id = storable (key ∷ Int id ∷ []) (plain.0, (tt, tt)) (omega arith) (omega arith) (let is = sum_by-cons (λ v. 18 + length (bytes v)) key rest in omega (arith, is, short))

  -- such a table can store a row without floats of at most 2000 columns and 10^9 bytes
  pub can_be_stored : CanBeStored table (key ∷ rest)
  can_be_stored id (inl row) = row (subst (λ reals. IsStorable reals (Int id ∷ key ∷ rest)) (sym keyed.reals) (row_is_storable id), omega arith)
  can_be_stored id (inr entry) =
      let columns = keyed.key entry.0 entry.1 entry.2 in
      entry.3 (subst (λ columns. IsStorable (index_reals (table_reals table) columns) (entry_of columns (Int id ∷ key ∷ rest))) (sym columns)
      (subst (λ reals. IsStorable (index_reals reals (1 ∷ [])) (key ∷ Int id ∷ [])) (sym keyed.reals) (entry_is_storable id)))
