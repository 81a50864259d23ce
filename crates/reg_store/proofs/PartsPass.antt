-- The ids that a registry's tables hold are valid, read one version after another; and valid ids are evidence.
use Rattle.std.proofs.Common.{◌≡◌, ◌||◌, inl, inr, ℕ, ℤ, List, [], ◌∷◌, map, filter, length, Bool, true, false, IsTrue, refl, sym, ap, subst, ◌∙◌}
use Rattle.std.specs.Prelude.{Contains, IsSome}
use Rattle.std.specs.FinMap.{get}
use Rattle.std.specs.List.{AllByRecursion, IsDistinct}
use Rattle.std.specs.Ordering.{eq_by_cmp}
use Rattle.std.specs.List.Sorted.{IsPermutation}
use Rattle.std.proofs.lemmas.Bool.{both_ways, cases_Bool}
use Rattle.std.proofs.lemmas.List.Sorted.{IsPermutation-refl, IsPermutation-trans, IsPermutation-append_right, IsPermutation-map}
use Rattle.std.proofs.lemmas.Simd.{map-map}
use Rattle.sqlite.specs.Order.{Row}
use Rattle.sqlite.specs.Effect.{Database}
use Rattle.sqlite_rules.specs.Lists.{Has}
use Rattle.sqlite_rules.proofs.ListLemmas.{all_has, has_contained, contains_had, has_filtered}
use Rattle.reg_core.specs.Registry.{RowKey}
use Rattle.reg_tables.specs.declared.evidence.RawEvidence.{RawEvidence}
use Rattle.reg_tables.specs.declared.evidence.RawAgainst.{RawAgainst}
use Rattle.reg_tables.specs.Layout.{table_at}
use Rattle.reg_tables.specs.Contents.{version_cmp, position_key_cells, evidence_form, against_form, TableName, Against, Contents, HoldsContents}
use Rattle.reg_tables.specs.TableMaps.{ShowsMap}
use Rattle.reg_tables.specs.Listings.{parts_of, entry_parts, evidence_entry, against_entry, against_rows, is_of, ListsEvidence, ListsAgainst}
use Rattle.reg_tables.proofs.KeyedTables.{distinct_texts, version_order, distinct_versions}
use Rattle.reg_tables.proofs.ListMembers.{has_mapped}
use Rattle.reg_tables.proofs.ListingLemmas.{listed_if_shown}
use Rattle.reg_tables.proofs.MapLemmas.{same_or_not, tied_key}
use Rattle.reg_tables.proofs.Tables.{shown_by}
use Rattle.reg_rows.specs.Positions.{PositionKey, IsContiguousFor, AreContiguous}
use Rattle.reg_store.specs.Spells.{SpellsUnopened}
use Rattle.reg_store.specs.Inside.TableChecks.{AreDistinct, against_fits, version_at, position_at, evidence_fits, ArePositionsContiguous, JudgesVersions, EvidenceFits, EvidenceTablesPass, SpellsSome}
use Rattle.reg_store.proofs.EvidenceMaps.{evidence_if_spelled}
use Rattle.reg_store.proofs.EvidenceRows.{version_listed}
use Rattle.reg_store.proofs.LayoutTwoChecks.{all_tables_known, evidence_passes}
use Rattle.reg_store.proofs.TextParts.{Splits, split, all_pass, none_passes}
use Rattle.reg_store.proofs.VersionParts.{key_is, line_row, counted_if, if_counted, many_lines, of_itself, of_one, close, uncounted, rows_of, joined, Parts, all_listed, version_read, against, lists_all, positions_if_fit, fits_if_fit}

-- ---- the rows of different versions

abbrev among : List RowKey → Row → Bool
among [] row = false
among (version ∷ versions) row = is_of version row || among versions row

among_has : (versions : List RowKey) (row : Row) → among versions row ≡ true → (version : RowKey) × Has versions version × (is_of version row ≡ true)
among_has [] row is = absurd (cc)
among_has (version ∷ versions) row is = go (is_of version row) refl is (among_has versions row)
  where
    go : (b : Bool) → is_of version row ≡ b → (b || among versions row) ≡ true → (among versions row ≡ true → (found : RowKey) × Has versions found × (is_of found row ≡ true))
        → (found : RowKey) × Has (version ∷ versions) found × (is_of found row ≡ true)
    go true own is later = (version, inl refl, own)
    go false own is later = let it = later is in (it.0, inr it.1, it.2)

has_among : (versions : List RowKey) (version : RowKey) (row : Row) → Has versions version → is_of version row ≡ true → among versions row ≡ true
has_among [] version row there is = absurd there
has_among (first ∷ versions) version row (inl same) is = ap (λ b. b || among versions row) (subst (λ v. is_of v row ≡ true) same is)
has_among (first ∷ versions) version row (inr later) is = go (is_of first row) (has_among versions version row later is)
  where
    go : (b : Bool) → among versions row ≡ true → (b || among versions row) ≡ true
    go true rest = refl
    go false rest = rest

-- each row has a position
abbrev HavePositions : List Row → Type 0
HavePositions rows = (row : Row) → Has rows row → (position : PositionKey) × (against_form.key_of row ≡ position_key_cells position)

module _ (db : Database) (keyed : HavePositions (against_rows db)) where
  parted : (versions : List RowKey) → IsDistinct (eq_by_cmp version_cmp) versions → IsPermutation (filter (among versions) (against_rows db)) (rows_of db versions)
  unfolding IsDistinct
  parted [] apart = subst (λ l. IsPermutation l []) (sym (none_passes (among []) (against_rows db) (λ row there. refl))) (IsPermutation-refl [])
  parted (version ∷ versions) apart =
      IsPermutation-trans _ _ _ (split (among (version ∷ versions)) (is_of version) (among versions) (against_rows db) each)
      (IsPermutation-append_right (filter (is_of version) (against_rows db)) (filter (among versions) (against_rows db)) (rows_of db versions) (parted versions apart.1))
    where
      alone : (row : Row) → Has (against_rows db) row → is_of version row ≡ true → among versions row ≡ true → ⊥
      alone row there own other =
          let position = keyed row there in
          let it = among_has versions row other in
          let same = sym (of_one row position.0 version position.1 own) ∙ of_one row position.0 it.0 position.1 it.2 in
          both_ways _ (all_has (λ k. eq_by_cmp version_cmp version k ≡ false) versions it.0 apart.0 it.1) (tied_key version_cmp version_order version it.0 same)

      each : (row : Row) → Has (against_rows db) row → Splits (among (version ∷ versions) row) (is_of version row) (among versions row)
      each row there = elim (cases_Bool (is_of version row)) [
        | inl own ↦ elim (cases_Bool (among versions row)) [ inl other ↦ absurd (alone row there own other) | inr none ↦ inl (ap (λ b. b || among versions row) own, own, none) ]
        | inr apart ↦ elim (cases_Bool (among versions row)) [
          | inl other ↦ inr (inl (ap (λ b. b || among versions row) apart ∙ other, apart, other))
          | inr none ↦ inr (inr (ap (λ b. b || among versions row) apart ∙ none, apart, none))
        ]
      ]

-- ---- both directions

module _ (db : Database) (evidence : List RawEvidence) (lists : ListsEvidence db evidence) (rowids : List ℤ) (fit : Bool) (it : JudgesVersions (map version_at evidence) db rowids fit) where
  abbrev versions : List RowKey
  versions = map version_at evidence

  abbrev ids : List RawAgainst
  ids = against db versions rowids fit it

  pub parts_passed : AreDistinct (map (λ (line : RawEvidence). line.rowid) evidence) × AllByRecursion evidence_fits evidence → AreDistinct rowids → length (against_rows db) ≡ length rowids → IsTrue fit → EvidenceTablesPass db
  parts_passed passed apart many sure =
      let listed = lists_all db versions rowids fit it apart many in
      record {
        evidence = evidence;
        against = ids;
        lists = (lists, listed);
        fits = record {
          apart = passed.0;
          fit = passed.1;
          against_rowids_apart = subst AreDistinct (sym it.have) apart;
          positions_fit = fits_if_fit db versions rowids fit it sure;
          placed = (
            λ position h.
                (let l = has_mapped position_at ids position (has_contained (map position_at ids) position h) in
                subst (λ (p : PositionKey). Contains versions p.0) (sym l.2) (contains_had versions (position_at l.0).0 (version_read db versions it.parts it.lists l.0 l.1))),
            positions_if_fit db versions rowids fit it listed sure,
          );
        };
      }

  module _ (s : SpellsSome SpellsUnopened db) where
    abbrev held : Contents
    held = s.spells.contents

    holds : HoldsContents db.schema db held
    holds = subst (λ x. HoldsContents x db held) (sym s.spells.holds.declared) s.spells.holds

    shows : ShowsMap against_form (against_rows db) (get held.against)
    shows = shown_by holds Against (all_tables_known db s)

    keyed : HavePositions (against_rows db)
    keyed row there = let e = shows.sound row there in (e.0, e.3.0)

    covered : IsPermutation (against_rows db) (rows_of db versions)
    unfolding IsDistinct
    covered =
        let levels = listed_if_shown evidence_form version_cmp version_order distinct_versions (db.trees (table_at db.schema 6).tree) (map evidence_entry evidence) lists held.evidence distinct_texts (shown_by holds TableName.Evidence (all_tables_known db s)) in
        let rows = evidence_if_spelled held s.stored.evidence s.spells.spelled.evidence in
        let apart = subst (IsDistinct (eq_by_cmp version_cmp)) (map-map (λ (e : ℤ × RowKey × List ℕ). e.1) evidence_entry evidence) levels.apart.keys in
        subst (λ l. IsPermutation l (rows_of db versions)) (all_pass (among versions) (against_rows db) (λ row there.
        let e = shows.sound row there in
        let owner = subst (λ m. IsSome (get m e.0.0)) levels.is (rows.owners e.0 e.1 e.2) in
        let listed = version_listed evidence [] levels.apart (record { rowids = tt; keys = tt }) e.0.0 owner in
        has_among versions e.0.0 row (has_contained versions e.0.0 listed) (of_itself row e.0 e.3.0)))
        (parted db keyed versions apart)

    all : ListsAgainst db ids
    all =
        let parts = map (parts_of against_form) in
        IsPermutation-trans (parts (against_rows db)) (parts (rows_of db versions)) (map (entry_parts against_form) (map against_entry ids)) (IsPermutation-map (parts_of against_form) (against_rows db) (rows_of db versions) covered)
        (all_listed db versions it.parts it.lists)

    pub fits : EvidenceFits evidence ids
    fits = evidence_passes db s evidence ids lists all

    stand : (some : List RowKey) (parts : List (List RawAgainst)) → Parts db some parts → AllByRecursion against_fits (joined db parts) → AllByRecursion ArePositionsContiguous parts
    stand [] [] lists fit = tt
    stand [] (lines ∷ parts) lists fit = absurd lists
    stand (version ∷ some) [] lists fit = absurd lists
    stand (version ∷ some) (lines ∷ parts) lists fit = ((front lines fit, positions), stand some parts lists.1 (later_fit lines fit))
      where
        front : (lines : List RawAgainst) → AllByRecursion against_fits (joined db (lines ∷ parts)) → AllByRecursion against_fits lines
        front [] fit = tt
        front (line ∷ lines) fit = (fit.0, front lines fit.1)

        later_fit : (lines : List RawAgainst) → AllByRecursion against_fits (joined db (lines ∷ parts)) → AllByRecursion against_fits (joined db parts)
        later_fit [] fit = fit
        later_fit (line ∷ lines) fit = later_fit lines fit.1

        positions : AreContiguous (map position_at lines)
        positions other = elim (same_or_not version_cmp version_order other version) [
          | inl same ↦
              subst (λ v. IsContiguousFor (map position_at lines) v) (sym same)
              (if_counted (filter (is_of version) (against_rows db)) lines lists.0 version (close (against_rows db) version (counted_if (against_rows db) ids all version (fits.placed.1 version))))
          | inr apart ↦ uncounted (map position_at lines) other (λ position h.
              let l = has_mapped position_at lines (other, position) (has_contained (map position_at lines) (other, position) h) in
              let r = line_row (filter (is_of version) (against_rows db)) lines lists.0 l.0 l.1 in
              let kept = has_filtered (is_of version) (against_rows db) r.0 r.1 in
              apart (ap (λ (p : PositionKey). p.0) l.2 ∙ of_one r.0 (position_at l.0) version (key_is r.0 l.0 r.2) kept.1))
        ]

    pub parts_apart : AreDistinct rowids
    parts_apart = subst AreDistinct it.have fits.against_rowids_apart

    pub parts_counted : length (against_rows db) ≡ length rowids
    parts_counted = sym (many_lines (against_rows db) ids all) ∙ ap length it.have

    pub parts_fit : IsTrue fit
    parts_fit = it.judged.1 (stand versions it.parts it.lists fits.positions_fit)
