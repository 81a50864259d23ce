-- The last version of a subject with an id, found among the first versions of that id.
use Rattle.std.proofs.Common.{◌≡◌, ◌∙◌, inl, inr, ℕ, ◌<◌, ◌≤◌, ◌==◌, ◌&&◌, Bool, true, false, true≢false, List, [], ◌∷◌, ◌++◌, map, refl, ap, sym, subst, arith}
use Rattle.std.specs.Prelude.{Option, None, Some, not, ◌||◌, bytes_eq, filter, length, option_map, string_bytes, if◌then◌else◌}
use Rattle.std.specs.FinMap.{entries, get}
use Rattle.std.specs.List.{last_or}
use Rattle.std.proofs.lemmas.Bool.{both_ways}
use Rattle.std.proofs.lemmas.List.{length-map}
use Rattle.std.proofs.lemmas.List.Elements.{All-nil, All-cons, All-append, All-contains, All-filter, All-weaker, Contains-append_left, Contains-append_right}
use Rattle.std.proofs.lemmas.Slice.Eq.{bytes_eq-Decides}
use Rattle.sqlite_rules.specs.Lists.{Has}
use Rattle.sqlite_rules.proofs.ListLemmas.{contains_had, has_contained, has_filtered, has_kept}
use Rattle.sqlite_trees.proofs.ListLemmas.{filter-map}
use Rattle.reg_core.specs.Registry.{Registry, Row, RowKey}
use Rattle.reg_core.specs.Rows.{rows_of, rows_with, visible_rows}
use Rattle.reg_core.proofs.ChosenRows.{last_or-map}
use Rattle.reg_core.proofs.LastRows.{Rising, rows_of-rise}
use Rattle.reg_tables.specs.Contents.{Contents}
use Rattle.reg_tables.specs.declared.listed.ListedVersion.{ListedVersion}
use Rattle.reg_tables.specs.declared.listed.SubjectVersion.{SubjectVersion}
use Rattle.reg_tables.specs.Entries.{SubjectVersionView, subject_version_view, subject_versions, ListedVersionView, listed_version_view, id_versions, versions_limit, AreVersionsOfId}
use Rattle.reg_tables.proofs.LastVersions.{filter_both}
use Rattle.reg_tables.proofs.ListMembers.{has_mapped, maps_had}
use Rattle.reg_store.specs.Spells.{stored_version}
use Rattle.reg_store.specs.Inside.Viewing.{AreSome, IsLastShown, IsLaterOf, is_shown_of, row_numbered, row_spelled}
use Rattle.reg_store.proofs.ChosenLemmas.{map_map}
use Rattle.reg_store.proofs.RowLemmas.{subject_spelled}

both_parts : (a b : Bool) → (a && b) ≡ true → (a ≡ true) × (b ≡ true)
both_parts true b e = (refl, e)
both_parts false b e = absurd (true≢false (sym e))

-- ---- one version after another

module _ (deleted : Bool) (subject : List ℕ) (rows : List Row) (row : Row) where
  abbrev Shown : Row → Type 0
  Shown r = is_shown_of deleted subject r ≡ true

  pub last_stays : (last : Option Row) → is_shown_of deleted subject row ≡ false → IsLastShown deleted subject rows last → IsLastShown deleted subject (rows ++ row ∷ []) last
  last_stays None hidden none = All-append (λ (r : Row). is_shown_of deleted subject r ≡ false) rows (row ∷ []) none (All-cons (λ (r : Row). is_shown_of deleted subject r ≡ false) row [] hidden (All-nil (λ (r : Row). is_shown_of deleted subject r ≡ false)))
  last_stays (Some last) hidden is = (
    Contains-append_left rows (row ∷ []) last is.0,
    is.1,
    All-append (λ (r : Row). Shown r → r.0.1 ≤ last.0.1) rows (row ∷ []) is.2 (All-cons (λ (r : Row). Shown r → r.0.1 ≤ last.0.1) row [] (λ shown. absurd (both_ways _ hidden shown)) (All-nil (λ (r : Row). Shown r → r.0.1 ≤ last.0.1))),
  )

  pub last_begins : Shown row → IsLastShown deleted subject rows None → IsLastShown deleted subject (rows ++ row ∷ []) (Some row)
  last_begins shown none = (
    Contains-append_right rows (row ∷ []) row (0, omega arith, refl),
    shown,
    All-append (λ (r : Row). Shown r → r.0.1 ≤ row.0.1) rows (row ∷ []) (All-weaker (λ (r : Row). is_shown_of deleted subject r ≡ false) (λ (r : Row). Shown r → r.0.1 ≤ row.0.1) (λ r hidden s. absurd (both_ways _ hidden s)) rows none)
        (All-cons (λ (r : Row). Shown r → r.0.1 ≤ row.0.1) row [] (λ s. omega arith) (All-nil (λ (r : Row). Shown r → r.0.1 ≤ row.0.1))),
  )

  pub last_is_kept : (last : Row) → row.0.1 ≤ last.0.1 → IsLastShown deleted subject rows (Some last) → IsLastShown deleted subject (rows ++ row ∷ []) (Some last)
  last_is_kept last low is = (
    Contains-append_left rows (row ∷ []) last is.0,
    is.1,
    All-append (λ (r : Row). Shown r → r.0.1 ≤ last.0.1) rows (row ∷ []) is.2 (All-cons (λ (r : Row). Shown r → r.0.1 ≤ last.0.1) row [] (λ s. low) (All-nil (λ (r : Row). Shown r → r.0.1 ≤ last.0.1))),
  )

  pub last_is_passed : (last : Row) → Shown row → last.0.1 ≤ row.0.1 → IsLastShown deleted subject rows (Some last) → IsLastShown deleted subject (rows ++ row ∷ []) (Some row)
  last_is_passed last shown high is = (
    Contains-append_right rows (row ∷ []) row (0, omega arith, refl),
    shown,
    All-append (λ (r : Row). Shown r → r.0.1 ≤ row.0.1) rows (row ∷ []) (All-weaker (λ (r : Row). Shown r → r.0.1 ≤ last.0.1) (λ (r : Row). Shown r → r.0.1 ≤ row.0.1) (λ r low s. let n : r.0.1 ≤ last.0.1 = low s in omega arith) rows is.2)
        (All-cons (λ (r : Row). Shown r → r.0.1 ≤ row.0.1) row [] (λ s. omega arith) (All-nil (λ (r : Row). Shown r → r.0.1 ≤ row.0.1))),
  )

  pub last_of_two : (line_row : ListedVersion → Row) → ((a : ListedVersion) → (line_row a).0.1 ≡ a.number) → (last : Option ListedVersion) (line result : ListedVersion) → row ≡ line_row line → IsLaterOf last line result → Shown row
      → IsLastShown deleted subject rows (option_map line_row last) → IsLastShown deleted subject (rows ++ row ∷ []) (Some (line_row result))
  last_of_two line_row numbers None line result it same shown none = subst (λ (r : Row). IsLastShown deleted subject (rows ++ row ∷ []) (Some r)) (it ∙ ap line_row (sym same)) (last_begins shown none)
  last_of_two line_row numbers (Some before) line result it (inl kept) shown is =
      let low : row.0.1 ≤ (line_row before).0.1 = omega (arith, kept.1, ap (λ (r : Row). r.0.1) it, numbers line, numbers before) in
      subst (λ (r : Row). IsLastShown deleted subject (rows ++ row ∷ []) (Some r)) (ap line_row (sym kept.0)) (last_is_kept (line_row before) low is)
  last_of_two line_row numbers (Some before) line result it (inr passed) shown is =
      let high : (line_row before).0.1 ≤ row.0.1 = omega (arith, passed.1, ap (λ (r : Row). r.0.1) it, numbers line, numbers before) in
      subst (λ (r : Row). IsLastShown deleted subject (rows ++ row ∷ []) (Some r)) (it ∙ ap line_row (sym passed.0)) (last_is_passed (line_row before) shown high is)

pub last_of_subject : (deleted : Bool) (subject : List ℕ) (rows : List Row) (line : ListedVersion) → IsLastShown deleted subject rows (Some (row_spelled (listed_version_view line)))
    → IsLastShown deleted subject rows (Some (row_numbered subject (line.number, record { id = line.id; deleted = line.deleted })))
last_of_subject deleted subject rows line is =
    let same : string_bytes line.subject ≡ subject = (bytes_eq-Decides (string_bytes line.subject) subject).0 (both_parts (bytes_eq (string_bytes line.subject) subject) (deleted || not line.deleted) is.1).0 in
    subst (λ (text : List ℕ). IsLastShown deleted subject rows (Some ((text, line.number), record { id = line.id; deleted = line.deleted }))) same is

-- ---- ascending numbers

rises_filtered : (p : Row → Bool) (rows : List Row) → Rising rows → Rising (filter p rows)
rises_filtered p [] up = tt
rises_filtered p (row ∷ rows) up = by (p row) (rises_filtered p rows up.1)
  where
    by : (b : Bool) → Rising (filter p rows) → Rising (if b then row ∷ filter p rows else filter p rows)
    by true later = (All-filter p (λ (r : Row). row.0.1 < r.0.1) rows up.0, later)
    by false later = later

last_is_greatest : (rows : List Row) (o : Option Row) (last : Row) → Rising rows → Has rows last → ((r : Row) → Has rows r → r.0.1 ≤ last.0.1) → last_or o rows ≡ Some last
last_is_greatest [] o last up there greatest = absurd there
last_is_greatest (x ∷ []) o last up (inl same) greatest = ap Some (sym same)
last_is_greatest (x ∷ []) o last up (inr none) greatest = absurd none
last_is_greatest (x ∷ y ∷ rows) o last up (inl same) greatest =
    let below : y.0.1 ≤ last.0.1 = greatest y (inr (inl refl)) in
    let above : x.0.1 < y.0.1 = All-contains (λ (r : Row). x.0.1 < r.0.1) (y ∷ rows) y up.0 (0, omega arith, refl) in
    let its : last.0.1 ≡ x.0.1 = ap (λ (r : Row). r.0.1) same in
    absurd (omega arith)
last_is_greatest (x ∷ y ∷ rows) o last up (inr later) greatest = last_is_greatest (y ∷ rows) (Some x) last up.1 later (λ r there. greatest r (inr there))

-- ---- the versions of the id

module _ (g : Registry) (subject : List ℕ) (deleted : Bool) (id : ℕ) where
  abbrev its : List Row
  its = rows_with id (visible_rows deleted (rows_of g subject))

  abbrev is_it : Row → Bool
  is_it row = row.1.id == id

  its_are_shown : (row : Row) → Has its row → Has (rows_with id (entries g.rows)) row × (is_shown_of deleted subject row ≡ true)
  its_are_shown row there =
      let one = has_filtered is_it (visible_rows deleted (rows_of g subject)) row there in
      let two = has_filtered (λ (r : Row). deleted || not r.1.deleted) (rows_of g subject) row one.0 in
      let three = has_filtered (λ (r : Row). bytes_eq r.0.0 subject) (entries g.rows) row two.0 in
      (has_kept is_it (entries g.rows) row three.0 one.1, rw (three.1, two.1) refl)

  shown_are_its : (row : Row) → Has (rows_with id (entries g.rows)) row → is_shown_of deleted subject row ≡ true → Has its row
  shown_are_its row there shown =
      let one = has_filtered is_it (entries g.rows) row there in
      let parts = both_parts (bytes_eq row.0.0 subject) (deleted || not row.1.deleted) shown in
      has_kept is_it (visible_rows deleted (rows_of g subject)) row (has_kept (λ (r : Row). deleted || not r.1.deleted) (rows_of g subject) row (has_kept (λ (r : Row). bytes_eq r.0.0 subject) (entries g.rows) row one.0 parts.0) parts.1) one.1

  -- the last shown version among all of the id is the subject's last
  pub last_is_told : (rows : List Row) → AreSome rows (rows_with id (entries g.rows)) → length rows < versions_limit → (last : Option Row) → IsLastShown deleted subject rows last → last ≡ last_or None its
  last_is_told rows some few None none = by its (λ row there. there)
    where
      by : (xs : List Row) → ((row : Row) → Has xs row → Has its row) → None ≡ last_or None xs
      by [] inside = refl
      by (x ∷ xs) inside =
          let it = its_are_shown x (inside x (inl refl)) in
          absurd (both_ways _ (All-contains (λ (r : Row). is_shown_of deleted subject r ≡ false) rows x none (some.few few x (contains_had (rows_with id (entries g.rows)) x it.0))) it.1)
  last_is_told rows some few (Some last) is =
      sym (last_is_greatest its None last (rises_filtered is_it (visible_rows deleted (rows_of g subject)) (rises_filtered (λ (r : Row). deleted || not r.1.deleted) (rows_of g subject) (rows_of-rise g subject)))
      (shown_are_its last (has_contained (rows_with id (entries g.rows)) last (some.each last is.0)) is.1)
      (λ r there. let it = its_are_shown r there in All-contains (λ (x : Row). is_shown_of deleted subject x ≡ true → x.0.1 ≤ last.0.1) rows r is.2 (some.few few r (contains_had (rows_with id (entries g.rows)) r it.0)) it.1))

-- fewer rows than the limit are all versions of the id
module _ (contents : Contents) (g : Registry) (id : ℕ) (spelled : map row_spelled (id_versions id contents) ≡ rows_with id (entries g.rows)) (versions : List ListedVersionView) (are : AreVersionsOfId id contents versions) where
  pub some_are_told : AreSome (map row_spelled versions) (rows_with id (entries g.rows))
  some_are_told = record {
    each = λ row there.
        let version = has_mapped row_spelled versions row (has_contained (map row_spelled versions) row there) in
        let known = contains_had versions version.0 version.1 in
        contains_had (rows_with id (entries g.rows)) row
        (subst (λ l. Has l row) spelled
        (subst (Has (map row_spelled (id_versions id contents))) (sym version.2) (maps_had row_spelled (id_versions id contents) version.0 (has_contained (id_versions id contents) version.0 (are.each version.0 known)))));
    few = λ low row there.
        let version = has_mapped row_spelled (id_versions id contents) row (subst (λ l. Has l row) (sym spelled) (has_contained (rows_with id (entries g.rows)) row there)) in
        let known = contains_had (id_versions id contents) version.0 version.1 in
        let fewer : length versions < versions_limit = omega (arith, low, length-map versions row_spelled) in
        contains_had (map row_spelled versions) row (subst (Has (map row_spelled versions)) (sym version.2) (maps_had row_spelled versions version.0 (has_contained versions version.0 (are.all fewer version.0 known))));
  }

module _ (contents : Contents) (g : Registry) (spelled : (key : RowKey) → get contents.versions key ≡ option_map stored_version (get g.rows key)) (subject : List ℕ) (id : ℕ) (deleted : Bool) where
  pub last_with_id_told : (found : Option SubjectVersion)
      → option_map subject_version_view found ≡ last_or None (filter (λ (version : SubjectVersionView). (deleted || not version.1.deleted) && (version.1.id == id)) (subject_versions subject contents))
      → option_map (λ (line : SubjectVersion). row_numbered subject (subject_version_view line)) found ≡ last_or None (rows_with id (visible_rows deleted (rows_of g subject)))
  last_with_id_told found is =
      let shown = λ (row : Row). (deleted || not row.1.deleted) && (row.1.id == id) in
      map_map subject_version_view (row_numbered subject) found ∙ ap (option_map (row_numbered subject)) is
      ∙ sym (last_or-map (row_numbered subject) None (filter (λ (version : SubjectVersionView). (deleted || not version.1.deleted) && (version.1.id == id)) (subject_versions subject contents)))
      ∙ ap (last_or None)
      (sym (filter-map shown (row_numbered subject) (subject_versions subject contents)) ∙ ap (filter shown) (subject_spelled contents g spelled subject)
      ∙ sym (filter_both (λ (row : Row). row.1.id == id) (λ (row : Row). deleted || not row.1.deleted) (rows_of g subject)))
