-- The ids of versions, read for one version at a time. If their rowids are distinct and as many as the rows of `against`, they are all rows.
use Rattle.std.proofs.Common.{◌≡◌, ◌⊎◌, ◌↔◌, inl, inr, ℕ, ℤ, ◌≤◌, ◌<◌, List, [], ◌∷◌, ◌++◌, map, filter, flat_map, length, Bool, true, IsTrue, refl, sym, ap, subst, subst₂, ◌∙◌, arith}
use Rattle.std.specs.Prelude.{Contains}
use Rattle.std.specs.List.{AllByRecursion, AllZip}
use Rattle.std.specs.Ordering.{is_eq}
use Rattle.std.specs.List.Sorted.{IsPermutation}
use Rattle.std.proofs.lemmas.Bool.{both_ways}
use Rattle.std.proofs.lemmas.Cmp.{tied_itself}
use Rattle.std.proofs.lemmas.List.{length-map}
use Rattle.std.proofs.lemmas.List.Sorted.{IsPermutation-refl, IsPermutation-sym, IsPermutation-trans, IsPermutation-cons, IsPermutation-middle, IsPermutation-append, IsPermutation-map, length_permutation}
use Rattle.std.proofs.lemmas.Map.Keys.{IsDistinct-IsPermutation}
use Rattle.std.proofs.lemmas.Simd.{map-map}
use Rattle.sqlite.specs.declared.types.Value.TheVariants.{Int}
use Rattle.sqlite.specs.Order.{Row, column, value_cmp}
use Rattle.sqlite.specs.Tree.{IsAscending, rowid}
use Rattle.sqlite.specs.Effect.{Database}
use Rattle.sqlite_rules.specs.Lists.{Has}
use Rattle.sqlite_rules.proofs.ListLemmas.{all_has, has_contained, contains_had, has_filtered, has_kept}
use Rattle.sqlite_value.proofs.OrderLemmas.{value_cmp_total}
use Rattle.reg_core.specs.Registry.{RowKey}
use Rattle.reg_tables.specs.declared.evidence.RawAgainst.{RawAgainst}
use Rattle.reg_tables.specs.TableMaps.{HaveDifferentRowids}
use Rattle.reg_tables.specs.Contents.{version_cmp, against_form, position_key_cells}
use Rattle.reg_tables.specs.Listings.{RowParts, parts_of, entry_parts, Lists, against_entry, against_rows, is_of, ListsAgainst, ListsAgainstOf}
use Rattle.reg_tables.proofs.KeyedTables.{version_order}
use Rattle.reg_tables.proofs.ListMembers.{has_mapped, maps_had, has_permuted}
use Rattle.reg_tables.proofs.ListingLemmas.{same_id, same_id_swaps, apart_if_distinct, distinct_ints}
use Rattle.reg_tables.proofs.MapLemmas.{same_key, tied_key, same_or_not}
use Rattle.reg_tables.proofs.Keys.{distinct_positions}
use Rattle.reg_tables.proofs.VersionIds.{is_of_told}
use Rattle.reg_rows.specs.Positions.{PositionKey, IsContiguousFor, AreContiguous}
use Rattle.reg_store.specs.Inside.TableChecks.{AreDistinct, against_fits, position_at, ArePositionsContiguous, rowids_in, JudgesVersions}
use Rattle.reg_store.proofs.TextParts.{mapped-append}

-- ---- members of lists that are joined

has_either : {X : Type 0} (xs ys : List X) (x : X) → Has (xs ++ ys) x → Has xs x ⊎ Has ys x
has_either [] ys x there = inr there
has_either (a ∷ xs) ys x (inl is) = inl (inl is)
has_either (a ∷ xs) ys x (inr there) = elim (has_either xs ys x there) [ inl left ↦ inl (inr left) | inr right ↦ inr right ]

fit_both : (xs ys : List RawAgainst) → AllByRecursion against_fits xs → AllByRecursion against_fits ys → AllByRecursion against_fits (xs ++ ys)
fit_both [] ys one two = two
fit_both (x ∷ xs) ys one two = (one.0, fit_both xs ys one.1 two)

between : {X : Type 0} (xs : List X) (x : X) → Has xs x → (before : List X) × (after : List X) × (xs ≡ before ++ x ∷ after)
between [] x there = absurd there
between (a ∷ xs) x (inl is) = ([], xs, ap (λ y. y ∷ xs) (sym is))
between (a ∷ xs) x (inr there) = let it = between xs x there in (a ∷ it.0, it.1, ap (λ l. a ∷ l) it.2)

all_rows_are : (xs ys : List Row) → IsAscending HaveDifferentRowids xs → ((x : Row) → Has xs x → Has ys x) → length ys ≤ length xs → IsPermutation ys xs
all_rows_are [] [] up among few = IsPermutation-refl []
all_rows_are [] (y ∷ ys) up among few = absurd (omega (arith, few))
all_rows_are (x ∷ xs) ys up among few =
    let it = between ys x (among x (inl refl)) in
    let rest = it.0 ++ it.1 in
    let moved : IsPermutation ys (x ∷ rest) = subst (λ l. IsPermutation l (x ∷ rest)) (sym it.2) (IsPermutation-middle it.0 x it.1) in
    let long : length (x ∷ rest) ≡ length ys = length_permutation ys (x ∷ rest) moved in
    let others = λ (y : Row) (there : Has xs y). other rest y there (has_permuted ys (x ∷ rest) y moved (among y (inr there))) in
    IsPermutation-trans ys (x ∷ rest) (x ∷ xs) moved (IsPermutation-cons x rest xs (all_rows_are xs rest up.1 others (omega (arith, few, long))))
  where
    other : (l : List Row) (y : Row) → Has xs y → Has (x ∷ l) y → Has l y
    other l y there (inl is) = absurd (both_ways _ (all_has (HaveDifferentRowids x) xs y up.0 there) (ap (λ (r : Row). is_eq (value_cmp (rowid x) (rowid r))) is ∙ ap is_eq (tied_itself value_cmp_total (rowid x))))
    other l y there (inr later) = later

-- ---- rows and lines

abbrev pub HasPosition : List Row → PositionKey → Type 0
HasPosition rows position = (row : Row) × Has rows row × (against_form.key_of row ≡ position_key_cells position)

-- the positions of a version in these rows are the numbers from 1 to a count
pub record Counted (rows : List Row) (version : RowKey) : Type 0 where
  pub count : ℕ
  pub positions : (position : ℕ) → HasPosition rows (version, position) ↔ ((0 < position) × (position ≤ count))

pub key_is : (row : Row) (line : RawAgainst) → parts_of against_form row ≡ entry_parts against_form (against_entry line) → against_form.key_of row ≡ position_key_cells (position_at line)
key_is row line same = ap (λ (p : RowParts). p.1) same

module _ (rows : List Row) (lines : List RawAgainst) (lists : Lists against_form rows (map against_entry lines)) where
  abbrev shown : List RowParts
  shown = map (entry_parts against_form) (map against_entry lines)

  line_of : (row : Row) → Has rows row → (line : RawAgainst) × Has lines line × (parts_of against_form row ≡ entry_parts against_form (against_entry line))
  line_of row there =
      let e = has_mapped (entry_parts against_form) (map against_entry lines) (parts_of against_form row) (has_permuted (map (parts_of against_form) rows) shown (parts_of against_form row) lists (maps_had (parts_of against_form) rows row there)) in
      let l = has_mapped against_entry lines e.0 e.1 in
      (l.0, l.1, e.2 ∙ ap (entry_parts against_form) l.2)

  pub line_row : (line : RawAgainst) → Has lines line → (row : Row) × Has rows row × (parts_of against_form row ≡ entry_parts against_form (against_entry line))
  line_row line there =
      let entry = entry_parts against_form (against_entry line) in
      let r = has_mapped (parts_of against_form) rows entry (has_permuted shown (map (parts_of against_form) rows) entry (IsPermutation-sym (map (parts_of against_form) rows) shown lists) (maps_had (entry_parts against_form) (map against_entry lines) (against_entry line) (maps_had against_entry lines line there))) in
      (r.0, r.1, sym r.2)

  pub placed : (position : PositionKey) → Contains (map position_at lines) position ↔ HasPosition rows position
  placed position = (
    λ h.
        (let l = has_mapped position_at lines position (has_contained (map position_at lines) position h) in
        let r = line_row l.0 l.1 in
        (r.0, r.1, key_is r.0 l.0 r.2 ∙ ap position_key_cells (sym l.2))),
    λ h.
        (let l = line_of h.0 h.1 in
        let same : position_at l.0 ≡ position = distinct_positions (position_at l.0) position (sym (key_is h.0 l.0 l.2) ∙ h.2) in
        subst (Contains (map position_at lines)) same (contains_had (map position_at lines) (position_at l.0) (maps_had position_at lines l.0 l.1))),
  )

  pub counted_if : (version : RowKey) → IsContiguousFor (map position_at lines) version → Counted rows version
  counted_if version it = record { count = it.count; positions = λ position. (λ h. (it.positions position).0 ((placed (version, position)).1 h), λ within. (placed (version, position)).0 ((it.positions position).1 within)) }

  pub if_counted : (version : RowKey) → Counted rows version → IsContiguousFor (map position_at lines) version
  if_counted version it = record { count = it.count; positions = λ position. (λ h. (it.positions position).0 ((placed (version, position)).0 h), λ within. (placed (version, position)).1 ((it.positions position).1 within)) }

  lines_rowids : IsPermutation (map rowid rows) (map Int (rowids_in lines))
  lines_rowids =
      let first = λ (p : RowParts). p.0 in
      subst (IsPermutation (map rowid rows)) (ap (map first) (map-map (entry_parts against_form) against_entry lines) ∙ map-map first (λ (line : RawAgainst). entry_parts against_form (against_entry line)) lines ∙ sym (map-map Int (λ (line : RawAgainst). line.rowid) lines))
      (subst (λ l. IsPermutation l (map first shown)) (map-map first (parts_of against_form) rows) (IsPermutation-map first (map (parts_of against_form) rows) shown lists))

  pub many_lines : length (rowids_in lines) ≡ length rows
  many_lines =
      let same = length_permutation (map rowid rows) (map Int (rowids_in lines)) lines_rowids in
      let left = length-map rows rowid in
      let right = length-map (rowids_in lines) Int in
      omega (arith, same, left, right)

  pub rows_apart : AreDistinct (rowids_in lines) → IsAscending HaveDifferentRowids rows
  rows_apart apart = apart_if_distinct rows (IsDistinct-IsPermutation same_id same_id_swaps (map Int (rowids_in lines)) (map rowid rows) (IsPermutation-sym (map rowid rows) (map Int (rowids_in lines)) lines_rowids) (distinct_ints (rowids_in lines) apart))

-- ---- the rows of a version

version_cells_are : (row : Row) (position : PositionKey) → against_form.key_of row ≡ position_key_cells position → column row 1 ∷ column row 2 ∷ [] ≡ column (position_key_cells position) 0 ∷ column (position_key_cells position) 1 ∷ []
version_cells_are row position is = ap (λ (r : Row). column r 0 ∷ column r 1 ∷ []) is

pub of_itself : (row : Row) (position : PositionKey) → against_form.key_of row ≡ position_key_cells position → is_of position.0 row ≡ true
of_itself row position is = is_of_told position.0 row position.0 (version_cells_are row position is) ∙ tied_key version_cmp version_order position.0 position.0 refl

pub of_one : (row : Row) (position : PositionKey) (version : RowKey) → against_form.key_of row ≡ position_key_cells position → is_of version row ≡ true → position.0 ≡ version
of_one row position version is passes = same_key version_cmp version_order position.0 version (sym (is_of_told version row position.0 (version_cells_are row position is)) ∙ passes)

module _ (rows : List Row) (version : RowKey) where
  narrow : (position : ℕ) → HasPosition rows (version, position) → HasPosition (filter (is_of version) rows) (version, position)
  narrow position h = (h.0, has_kept (is_of version) rows h.0 h.1 (of_itself h.0 (version, position) h.2), h.2)

  widen : (position : ℕ) → HasPosition (filter (is_of version) rows) (version, position) → HasPosition rows (version, position)
  widen position h = (h.0, (has_filtered (is_of version) rows h.0 h.1).0, h.2)

  pub wide : Counted (filter (is_of version) rows) version → Counted rows version
  wide it = record { count = it.count; positions = λ position. (λ h. (it.positions position).0 (narrow position h), λ within. widen position ((it.positions position).1 within)) }

  pub close : Counted rows version → Counted (filter (is_of version) rows) version
  close it = record { count = it.count; positions = λ position. (λ h. (it.positions position).0 (widen position h), λ within. narrow position ((it.positions position).1 within)) }

pub uncounted : (positions : List PositionKey) (version : RowKey) → ((position : ℕ) → Contains positions (version, position) → ⊥) → IsContiguousFor positions version
uncounted positions version none = record { count = 0; positions = λ position. (λ h. absurd (none position h), λ within. absurd (let low = within.0 in let high = within.1 in omega (arith, low, high))) }

module _ (db : Database) where
  abbrev pub rows : List Row
  rows = against_rows db

  abbrev pub rows_of : List RowKey → List Row
  rows_of versions = flat_map (λ (version : RowKey). filter (is_of version) rows) versions

  abbrev pub joined : List (List RawAgainst) → List RawAgainst
  joined = flat_map (λ (lines : List RawAgainst). lines)

  abbrev pub Parts : List RowKey → List (List RawAgainst) → Type 0
  Parts = AllZip (λ version lines. ListsAgainstOf version db lines)

  shown-append : (xs ys : List RawAgainst) → map (entry_parts against_form) (map against_entry (xs ++ ys)) ≡ map (entry_parts against_form) (map against_entry xs) ++ map (entry_parts against_form) (map against_entry ys)
  shown-append xs ys = ap (map (entry_parts against_form)) (mapped-append against_entry xs ys) ∙ mapped-append (entry_parts against_form) (map against_entry xs) (map against_entry ys)

  pub all_listed : (versions : List RowKey) (parts : List (List RawAgainst)) → Parts versions parts → Lists against_form (rows_of versions) (map against_entry (joined parts))
  all_listed [] [] lists = IsPermutation-refl []
  all_listed [] (lines ∷ parts) lists = absurd lists
  all_listed (version ∷ versions) [] lists = absurd lists
  all_listed (version ∷ versions) (lines ∷ parts) lists =
      subst₂ IsPermutation (sym (mapped-append (parts_of against_form) (filter (is_of version) rows) (rows_of versions))) (sym (shown-append lines (joined parts)))
      (IsPermutation-append (map (parts_of against_form) (filter (is_of version) rows)) (map (entry_parts against_form) (map against_entry lines)) (map (parts_of against_form) (rows_of versions))
      (map (entry_parts against_form) (map against_entry (joined parts))) lists.0 (all_listed versions parts lists.1))

  pub version_read : (versions : List RowKey) (parts : List (List RawAgainst)) → Parts versions parts → (line : RawAgainst) → Has (joined parts) line → Has versions (position_at line).0
  version_read [] [] lists line there = absurd there
  version_read [] (lines ∷ parts) lists line there = absurd lists
  version_read (version ∷ versions) [] lists line there = absurd lists
  version_read (version ∷ versions) (lines ∷ parts) lists line there = elim (has_either lines (joined parts) line there) [
    | inl here ↦
        let r = line_row (filter (is_of version) rows) lines lists.0 line here in
        inl (of_one r.0 (position_at line) version (key_is r.0 line r.2) (has_filtered (is_of version) rows r.0 r.1).1)
    | inr later ↦ inr (version_read versions parts lists.1 line later)
  ]

  -- facts about each part are facts about the rows of each version that was read
  part_of : (Q : List RawAgainst → Type 0) (versions : List RowKey) (parts : List (List RawAgainst)) → Parts versions parts → AllByRecursion Q parts → (version : RowKey) → Has versions version → (lines : List RawAgainst) × ListsAgainstOf version db lines × Q lines
  part_of Q [] parts lists all version there = absurd there
  part_of Q (first ∷ versions) [] lists all version there = absurd lists
  part_of Q (first ∷ versions) (lines ∷ parts) lists all version (inl is) = (lines, subst (λ v. ListsAgainstOf v db lines) (sym is) lists.0, all.0)
  part_of Q (first ∷ versions) (lines ∷ parts) lists all version (inr later) = part_of Q versions parts lists.1 all.1 version later

  rows_among : (versions : List RowKey) (row : Row) → Has (rows_of versions) row → Has rows row
  rows_among [] row there = absurd there
  rows_among (version ∷ versions) row there = elim (has_either (filter (is_of version) rows) (rows_of versions) row there) [ inl here ↦ (has_filtered (is_of version) rows row here).0 | inr later ↦ rows_among versions row later ]

  read_or_not : (versions : List RowKey) (version : RowKey) → Has versions version ⊎ (Has versions version → ⊥)
  read_or_not [] version = inr (λ there. there)
  read_or_not (first ∷ versions) version = elim (same_or_not version_cmp version_order version first) [
    | inl same ↦ inl (inl same)
    | inr apart ↦ elim (read_or_not versions version) [ inl later ↦ inl (inr later) | inr none ↦ inr (λ there. elim there [ inl same ↦ apart same | inr later ↦ none later ]) ]
  ]

  fits_joined : (parts : List (List RawAgainst)) → AllByRecursion ArePositionsContiguous parts → AllByRecursion against_fits (joined parts)
  fits_joined [] all = tt
  fits_joined (lines ∷ parts) all = fit_both lines (joined parts) all.0.0 (fits_joined parts all.1)

  module _ (versions : List RowKey) (rowids : List ℤ) (fit : Bool) (it : JudgesVersions versions db rowids fit) where
    abbrev pub against : List RawAgainst
    against = joined it.parts

    -- if the rowids are distinct and as many as the rows, every row was read
    pub lists_all : AreDistinct rowids → length rows ≡ length rowids → ListsAgainst db against
    lists_all apart many =
        let listed = all_listed versions it.parts it.lists in
        let long = many_lines (rows_of versions) against listed in
        let same = ap length it.have in
        let whole = all_rows_are (rows_of versions) rows (rows_apart (rows_of versions) against listed (subst AreDistinct (sym it.have) apart)) (rows_among versions) (omega (arith, many, long, same)) in
        IsPermutation-trans (map (parts_of against_form) rows) (map (parts_of against_form) (rows_of versions)) (map (entry_parts against_form) (map against_entry against)) (IsPermutation-map (parts_of against_form) rows (rows_of versions) whole) listed

    pub positions_if_fit : ListsAgainst db against → IsTrue fit → AreContiguous (map position_at against)
    positions_if_fit all sure version = elim (read_or_not versions version) [
      | inl there ↦
          let part = part_of ArePositionsContiguous versions it.parts it.lists (it.judged.0 sure) version there in
          if_counted rows against all version (wide rows version (counted_if (filter (is_of version) rows) part.0 part.1 version (part.2.1 version)))
      | inr none ↦ uncounted (map position_at against) version (λ position h.
          let l = has_mapped position_at against (version, position) (has_contained (map position_at against) (version, position) h) in
          none (subst (λ (position : PositionKey). Has versions position.0) (sym l.2) (version_read versions it.parts it.lists l.0 l.1)))
    ]

    pub fits_if_fit : IsTrue fit → AllByRecursion against_fits against
    fits_if_fit sure = fits_joined it.parts (it.judged.0 sure)
