-- The lines of a listing, read one at a time.
use Rattle.std.specs.Prelude.{◌≡◌, ℕ, ◌+◌, Bool, true, List, [], ◌∷◌, ◌++◌, take, slice_get, Option, None, Some, option_map, Vec, String}
use Rattle.std.specs.declared.cmp.Ordering.{Ordering}
use Rattle.std.specs.declared.alloc.Global.{Global}
use Rattle.std.specs.Ordering.{is_gt}
use Rattle.std.specs.FinMap.{entries}
use Rattle.std.specs.List.{last_or}
use Rattle.sqlite_trees.specs.declared.store.Store.{Ghosts}
use Rattle.reg_core.specs.Registry.{Registry, Row, RowKey}
use Rattle.reg_store.specs.declared.error.StoreError.{StoreError}
use Rattle.reg_store.specs.declared.listing.Listing.{Listing}
use Rattle.reg_store.specs.declared.listing.Listing.TheVariants.{Subjects, Versions, Schemas}
use Rattle.reg_store.specs.declared.store.cursor.Cursor.{Cursor}
use Rattle.reg_store.specs.declared.store.cursor.Cursor.TheVariants.{Subject, Version, Schema}
use Rattle.reg_store.specs.declared.store.Store.{Store}
use Rattle.reg_store.specs.declared.store.line_iterator.Lines.{Lines}
use Rattle.reg_store.specs.Listings.{Fields, fields_of, listing_lines, subjects_of}

-- ---- versions

abbrev pub subject_in : Row → List ℕ
subject_in row = row.0.0

abbrev pub key_in : Row → RowKey
key_in row = row.0

-- the key comes after the last one, if any
abbrev pub is_after : {K : Type 0} → (K → K → Ordering) → Option K → K → Bool
is_after cmp None key = true
is_after cmp (Some last) key = is_gt (cmp key last)

-- ---- cursors

-- this project's choice: the cursor is after this number of lines
abbrev pub IsCursorAt : Listing → Registry → ℕ → Cursor → Type 0
IsCursorAt Subjects g count (Subject last) = option_map subject_in last ≡ last_or None (take count (subjects_of (entries g.rows)))
IsCursorAt Versions g count (Version last) = last ≡ last_or None (take count (entries g.rows))
IsCursorAt Schemas g count (Schema id) = id ≡ count
IsCursorAt _ g count _ = ⊥

-- one more line, if any
abbrev pub count_after : {X : Type 0} → Option X → ℕ → ℕ
count_after None count = count
count_after (Some line) count = count + 1

-- the next line, or `None`, and the cursor after it
pub record IsNextLine (kind : Listing) (g : Registry) (count : ℕ) (found : Option (Vec (String Global) Global) × Cursor) : Type 0 where
  pub line : option_map fields_of found.0 ≡ slice_get (listing_lines kind g) count
  pub cursor : IsCursorAt kind g (count_after found.0 count) found.1

-- ---- lines

-- the store that the lines borrow
abbrev pub store_of : {S P : Type 0} {g : Ghosts S} → Lines S P g → Store S g
store_of lines = lines.store.now

-- the error that every call returns from now on, if one has failed
abbrev pub failure_in : {S P : Type 0} {g : Ghosts S} → Lines S P g → Option StoreError
failure_in lines = lines.failure

-- this project's choice: the lines returned so far begin the listing
pub record HasYielded {S : Type 0} {g : Ghosts S} (lines : Lines S Cursor g) (kind : Listing) (registry : Registry) (done : List Fields) : Type 0 where
  pub count : ℕ
  pub begins : done ≡ take count (listing_lines kind registry)
  pub cursor : IsCursorAt kind registry count lines.cursor

-- one more line is returned, or the lines returned so far are all
abbrev pub YieldsNext : {S : Type 0} {g : Ghosts S} → Lines S Cursor g → Listing → Registry → List Fields → Option (Vec (String Global) Global) → Type 0
YieldsNext lines kind registry done (Some line) = HasYielded lines kind registry (done ++ fields_of line ∷ [])
YieldsNext lines kind registry done None = (done ≡ listing_lines kind registry) × HasYielded lines kind registry done
