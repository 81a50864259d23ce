-- What the queries of versions with their subjects return.
use Rattle.std.proofs.Common.{◌≡◌, ◌≢◌, ◌≤◌, ◌==◌, ◌&&◌, inl, inr, ℕ, pos, List, [], ◌∷◌, length, map, All, Bool, true, false, Option, None, Some, MatchOption, slice_get, refl, sym, ap, subst, ◌∙◌, arith}
use Rattle.reg_tables.proofs.Kit.{unsigned_Decides, entries, get, IsUtf8, ◌<◌, ◌^◌, option_map, is_eq, nat_cmp, cases_Bool, both_ways, false_from_ne_true, length-map, map-map, Int, Text, Row, overlay, Output, IsAnswer, Schema, State, Shown, Has, contains_had, has_contained, has_filtered, has_kept, is_true, from_truth, all_of, filter_all, value_cmp-Int}
use Rattle.std.proofs.lemmas.List.{length-take}
use Rattle.sqlite.specs.Order.{column}
use Rattle.sqlite_sql.specs.Ops.{binary}
use Rattle.reg_tables.specs.Layout.{HasFiveTables}
use Rattle.reg_tables.specs.TableMaps.{IsEntry}
use Rattle.reg_tables.specs.Contents.{VersionEntryView, version_cells, version_cmp, version_form, Contents, AreReadable, HoldsContents}
use Rattle.reg_tables.specs.Entries.{ListedVersionView, listed_version_view, listed_version_cells, id_versions, versions_limit, AreVersionsOfId, IsReadableListedVersion}
use Rattle.reg_tables.specs.declared.listed.ListedVersion.{ListedVersion}
use Rattle.reg_tables.specs.Inside.Statements.{IsQuery, body_of}
use Rattle.reg_tables.proofs.KeyedTables.{number_order, version_order, same_pos, with_nothing, answered}
use Rattle.reg_tables.proofs.MapLemmas.{same_key, tied_key}
use Rattle.reg_tables.proofs.ListMembers.{has_mapped, maps_had, has_taken, all_taken, takes_one}
use Rattle.reg_tables.proofs.Keys.{distinct_version_rows}
use Rattle.reg_tables.proofs.OrderedQueries.{entry_got, got_entry}
use Rattle.reg_tables.proofs.Queries.{passes, ordered_has, has_ordered}
use Rattle.reg_tables.proofs.Tables.{five}
use Rattle.reg_tables.proofs.Statements.{first_row, first_rows, by_its_id, laid_out, find_of_id, asks_of_id, find_one_of_id, asks_one_of_id, find_some_of_id, asks_some_of_id, list_versions, asks_list}
use Rattle.reg_tables.proofs.TableLines.{all_if_each}
use Rattle.reg_tables.proofs.TableReads.{first_shown}
use Rattle.reg_tables.proofs.VersionLists.{same_cells, lists_versions, readable_versions}

pub distinct_keyed : (a b : ListedVersionView) → listed_version_cells a ≡ listed_version_cells b → a ≡ b
distinct_keyed a b h =
    let subject : a.0.0 ≡ b.0.0 = cc in
    let number : a.0.1 ≡ b.0.1 = cc in
    let rest : version_cells a.1 ≡ version_cells b.1 = cc in
    λ i. ((subject i, number i), distinct_version_rows a.1 b.1 rest i)

pub whole : (row : Row) (e : ListedVersionView) → IsEntry version_form row e.0 e.1 → column row 1 ∷ column row 2 ∷ column row 3 ∷ column row 4 ∷ [] ≡ listed_version_cells e
whole row e is =
    let subject : column row 1 ≡ Text e.0.0 = (let k = is.0 in cc) in
    let number : column row 2 ≡ Int (pos e.0.1) = (let k = is.0 in cc) in
    λ i. subject i ∷ number i ∷ is.1 i

pub can_be_held : (e : ListedVersionView) → IsUtf8 e.0.0 × (e.0.1 < 2 ^ 32) × (e.1.id < 2 ^ 32) → IsReadableListedVersion (listed_version_cells e)
can_be_held e can = record { subject = e.0.0; number = e.0.1; version = e.1; is = refl; utf8 = can.0; low = can.1; low_id = can.2 }

-- the values read are those of the rows
keyed_lines : (es : List ListedVersionView) (found : List Row) → found ≡ map listed_version_cells es → (lines : List ListedVersion)
    → map (λ (row : Row). column row 0 ∷ column row 1 ∷ column row 2 ∷ column row 3 ∷ []) found ≡ map (λ (line : ListedVersion). listed_version_cells (listed_version_view line)) lines → map listed_version_view lines ≡ es
keyed_lines es found is lines read = same_cells listed_version_cells distinct_keyed (map listed_version_view lines) es
    (map-map listed_version_cells listed_version_view lines ∙ sym read ∙ ap (map (λ (row : Row). column row 0 ∷ column row 1 ∷ column row 2 ∷ column row 3 ∷ [])) is
    ∙ map-map (λ (row : Row). column row 0 ∷ column row 1 ∷ column row 2 ∷ column row 3 ∷ []) listed_version_cells es)

-- ---- by the id

pub same_id : (a b : ℕ) → is_eq (nat_cmp a b) ≡ (a == b)
same_id a b = elim (cases_Bool (is_eq (nat_cmp a b))) [
  | inl same ↦ same ∙ sym ((unsigned_Decides a b).1 (same_key nat_cmp number_order a b same))
  | inr other ↦ other ∙ sym (false_from_ne_true _ (λ same. both_ways _ other (tied_key nat_cmp number_order a b ((unsigned_Decides a b).0 same))))
]

by_its_id_test : (row : Row) (id its : ℕ) → column row 3 ≡ Int (pos its) → passes by_its_id (Int (pos id) ∷ []) row ≡ (its == id)
unfolding binary
by_its_id_test row id its is = rw (is, value_cmp-Int (pos its) (pos id), same_pos its id) (truth (is_eq (nat_cmp its id))) ∙ same_id its id
  where
    truth : (b : Bool) → (is_true (from_truth (Some b)) && true) ≡ b
    truth true = refl
    truth false = refl

by_entry_id : (id : ℕ) (row : Row) (e : ListedVersionView) → IsEntry version_form row e.0 e.1 → passes by_its_id (Int (pos id) ∷ []) row ≡ (e.1.id == id)
by_entry_id id row e is = by_its_id_test row id e.1.id (let v = is.1 in cc)

module _ (old new : State) (schema : Schema) (contents : Contents) (h : HoldsContents schema old.now contents) (first : HasFiveTables schema) (found : List Row) where
  module _ (id : ℕ) (shown : Shown find_of_id.sql (Int (pos id) ∷ []) old new found) where
    its : IsQuery find_of_id old.now.schema
    its = (asks_of_id id).is old.now.schema (laid_out h first)

    pub lines_of_id : (lines : List ListedVersion) → map (λ (row : Row). column row 0 ∷ column row 1 ∷ column row 2 ∷ column row 3 ∷ []) found ≡ map (λ (line : ListedVersion). listed_version_cells (listed_version_view line)) lines → map listed_version_view lines ≡ id_versions id contents
    lines_of_id = keyed_lines (id_versions id contents) found (lists_versions find_of_id refl (Int (pos id) ∷ []) old new its found shown contents (five h first).versions (λ e. e.1.id == id) (by_entry_id id) listed_version_cells whole)

    pub readable_of_id : AreReadable contents → All IsReadableListedVersion found
    readable_of_id = readable_versions find_of_id refl (Int (pos id) ∷ []) old new its found shown contents (five h first).versions (λ e. e.1.id == id) (by_entry_id id) listed_version_cells whole IsReadableListedVersion can_be_held

  module _ (shown : Shown list_versions.sql [] old new found) where
    it : IsQuery list_versions old.now.schema
    it = asks_list.is old.now.schema (laid_out h first)

    pub all_lines : (lines : List ListedVersion) → map (λ (row : Row). column row 0 ∷ column row 1 ∷ column row 2 ∷ column row 3 ∷ []) found ≡ map (λ (line : ListedVersion). listed_version_cells (listed_version_view line)) lines → map listed_version_view lines ≡ entries contents.versions
    all_lines = keyed_lines (entries contents.versions) found
        (lists_versions list_versions refl [] old new it found shown contents (five h first).versions (λ e. true) (λ row e is. refl) listed_version_cells whole
        ∙ ap (map listed_version_cells) (filter_all (λ (e : ListedVersionView). true) (entries contents.versions) (all_of (λ (e : ListedVersionView). true ≡ true) (λ e. refl) (entries contents.versions))))

    pub all_readable : AreReadable contents → All IsReadableListedVersion found
    all_readable = readable_versions list_versions refl [] old new it found shown contents (five h first).versions (λ e. true) (λ row e is. refl) listed_version_cells whole IsReadableListedVersion can_be_held

-- ---- one version of the id

module _ (old new : State) (schema : Schema) (contents : Contents) (h : HoldsContents schema old.now contents) (first : HasFiveTables schema) (found : List Row) (id : ℕ) (shown : Shown find_one_of_id.sql (Int (pos id) ∷ []) old new found) where
  answer : IsAnswer (body_of find_one_of_id) (overlay old.now.trees []) (Int (pos id) ∷ []) found
  answer = answered find_one_of_id (Int (pos id) ∷ []) old new ((asks_one_of_id id).is old.now.schema (laid_out h first)) found shown

  abbrev IsOf : Row → Type 0
  IsOf row = (e : ListedVersionView) × (get contents.versions e.0 ≡ Some e.1) × (e.1.id ≡ id) × (row ≡ listed_version_cells e)

  abbrev HasNone : Type 0
  HasNone = (key : List ℕ × ℕ) (version : VersionEntryView) → get contents.versions key ≡ Some version → version.id ≢ id

  is_of : (row : Row) → Has found row → IsOf row
  is_of row there =
      let o = has_mapped (λ (o : Output). o.1) answer.ordered row (has_taken 1 (map (λ (o : Output). o.1) answer.ordered) row (subst (λ l. Has l row) answer.shown there)) in
      let r = ordered_has by_its_id (Int (pos id) ∷ []) 2 find_one_of_id.shown [] first_row (overlay old.now.trees []) found answer o.0 o.1 in
      let e = (five h first).versions.sound r.0 (subst (λ l. Has l r.0) (with_nothing old.now.trees 2) r.1) in
      ((e.0, e.1), e.2, (unsigned_Decides e.1.id id).0 (sym (by_entry_id id r.0 (e.0, e.1) e.3) ∙ r.2), o.2 ∙ ap (λ (p : Output). p.1) r.3 ∙ whole r.0 (e.0, e.1) e.3)

  none_of_id : ((row : Row) → Has found row → ⊥) → HasNone
  none_of_id none key version got same =
      let r = (five h first).versions.complete key version got in
      let on = by_entry_id id r.0 (key, version) r.2 ∙ (unsigned_Decides version.id id).1 same in
      let there = has_ordered by_its_id (Int (pos id) ∷ []) 2 find_one_of_id.shown [] first_row (overlay old.now.trees []) found answer r.0 (subst (λ l. Has l r.0) (sym (with_nothing old.now.trees 2)) r.1) on in
      let row = takes_one (map (λ (o : Output). o.1) answer.ordered) _ (maps_had (λ (o : Output). o.1) answer.ordered _ there) in
      none row.0 (subst (λ l. Has l row.0) (sym answer.shown) row.1)

  pub one_of_id : (line : Option ListedVersion) → option_map (λ (row : Row). column row 0 ∷ column row 1 ∷ column row 2 ∷ column row 3 ∷ []) (slice_get found 0) ≡ option_map (λ (line : ListedVersion). listed_version_cells (listed_version_view line)) line
      → MatchOption line HasNone (λ line. (get contents.versions (listed_version_view line).0 ≡ Some (listed_version_view line).1) × (line.id ≡ id))
  one_of_id line read = go (slice_get found 0) line read (first_shown found IsOf HasNone is_of none_of_id (slice_get found 0) refl)
    where
      go : (o : Option Row) (line : Option ListedVersion) → option_map (λ (row : Row). column row 0 ∷ column row 1 ∷ column row 2 ∷ column row 3 ∷ []) o ≡ option_map (λ (line : ListedVersion). listed_version_cells (listed_version_view line)) line → MatchOption o HasNone IsOf
          → MatchOption line HasNone (λ line. (get contents.versions (listed_version_view line).0 ≡ Some (listed_version_view line).1) × (line.id ≡ id))
      go None None read it = it
      go None (Some line) read it = absurd (cc)
      go (Some row) None read it = absurd (cc)
      go (Some row) (Some line) read it =
          let cells : column row 0 ∷ column row 1 ∷ column row 2 ∷ column row 3 ∷ [] ≡ listed_version_cells (listed_version_view line) = cc in
          let same : it.0 ≡ listed_version_view line = distinct_keyed it.0 (listed_version_view line) (sym (ap (λ (row : Row). column row 0 ∷ column row 1 ∷ column row 2 ∷ column row 3 ∷ []) it.3) ∙ cells) in
          (subst (λ (e : ListedVersionView). get contents.versions e.0 ≡ Some e.1) same it.1, ap (λ (e : ListedVersionView). e.1.id) (sym same) ∙ it.2)

  pub readable_one : AreReadable contents → All IsReadableListedVersion found
  readable_one readable = all_if_each IsReadableListedVersion found (λ row there. let it = is_of row there in subst IsReadableListedVersion (sym it.3) (can_be_held it.0 (readable.versions it.0.0 it.0.1 it.1)))

-- ---- some versions of the id, and all if they are fewer than the limit

module _ (old new : State) (schema : Schema) (contents : Contents) (h : HoldsContents schema old.now contents) (first : HasFiveTables schema) (found : List Row) (id : ℕ) (shown : Shown find_some_of_id.sql (Int (pos id) ∷ []) old new found) where
  some_answer : IsAnswer (body_of find_some_of_id) (overlay old.now.trees []) (Int (pos id) ∷ []) found
  some_answer = answered find_some_of_id (Int (pos id) ∷ []) old new ((asks_some_of_id id).is old.now.schema (laid_out h first)) found shown

  abbrev all_shown : List Row
  all_shown = map (λ (o : Output). o.1) some_answer.ordered

  abbrev has_id : ListedVersionView → Bool
  has_id e = e.1.id == id

  some_is_of : (row : Row) → Has found row → (e : ListedVersionView) × Has (id_versions id contents) e × (row ≡ listed_version_cells e)
  some_is_of row there =
      let o = has_mapped (λ (o : Output). o.1) some_answer.ordered row (has_taken 33 all_shown row (subst (λ l. Has l row) some_answer.shown there)) in
      let r = ordered_has by_its_id (Int (pos id) ∷ []) 2 find_some_of_id.shown [] first_rows (overlay old.now.trees []) found some_answer o.0 o.1 in
      let e = (five h first).versions.sound r.0 (subst (λ l. Has l r.0) (with_nothing old.now.trees 2) r.1) in (
        (e.0, e.1),
        has_kept has_id (entries contents.versions) (e.0, e.1) (got_entry version_cmp version_order contents.versions e.0 e.1 e.2) (sym (by_entry_id id r.0 (e.0, e.1) e.3) ∙ r.2),
        o.2 ∙ ap (λ (p : Output). p.1) r.3 ∙ whole r.0 (e.0, e.1) e.3,
      )

  at_most : length found ≤ versions_limit
  at_most = omega (arith, ap length some_answer.shown ∙ length-take 33 all_shown)

  few_are_all : length found < versions_limit → (e : ListedVersionView) → Has (id_versions id contents) e → Has found (listed_version_cells e)
  few_are_all few e there =
      let kept = has_filtered has_id (entries contents.versions) e there in
      let r = (five h first).versions.complete e.0 e.1 (entry_got version_cmp version_order contents.versions e kept.0) in
      let o = has_ordered by_its_id (Int (pos id) ∷ []) 2 find_some_of_id.shown [] first_rows (overlay old.now.trees []) found some_answer r.0 (subst (λ l. Has l r.0) (sym (with_nothing old.now.trees 2)) r.1) (by_entry_id id r.0 e r.2 ∙ kept.1) in
      let all : found ≡ all_shown = some_answer.shown ∙ all_taken 33 all_shown (subst (λ (l : List Row). length l < versions_limit) some_answer.shown few) in
      let made : Row = column r.0 1 ∷ column r.0 2 ∷ column r.0 3 ∷ column r.0 4 ∷ [] in
      subst (Has found) (whole r.0 e r.2) (subst (λ (l : List Row). Has l made) (sym all) (maps_had (λ (o : Output). o.1) some_answer.ordered _ o))

  pub some_of_id : (lines : List ListedVersion) → map (λ (row : Row). column row 0 ∷ column row 1 ∷ column row 2 ∷ column row 3 ∷ []) found ≡ map (λ (line : ListedVersion). listed_version_cells (listed_version_view line)) lines → AreVersionsOfId id contents (map listed_version_view lines)
  some_of_id lines read = record {
    few = subst (λ n. n ≤ versions_limit) (sym count) at_most;
    each = λ version there. contains_had (id_versions id contents) version (each version (has_contained (map listed_version_view lines) version there));
    all = λ few version there. contains_had (map listed_version_view lines) version (all (subst (λ n. n < versions_limit) count few) version (has_contained (id_versions id contents) version there));
  }
    where
      columns : Row → Row
      columns row = column row 0 ∷ column row 1 ∷ column row 2 ∷ column row 3 ∷ []

      cells : ListedVersion → Row
      cells line = listed_version_cells (listed_version_view line)

      count : length (map listed_version_view lines) ≡ length found
      count = length-map lines listed_version_view ∙ sym (length-map lines cells) ∙ ap length (sym read) ∙ length-map found columns

      each : (version : ListedVersionView) → Has (map listed_version_view lines) version → Has (id_versions id contents) version
      each version there =
          let line = has_mapped listed_version_view lines version there in
          let row = has_mapped columns found (cells line.0) (subst (λ l. Has l (cells line.0)) (sym read) (maps_had cells lines line.0 line.1)) in
          let it = some_is_of row.0 row.1 in
          subst (Has (id_versions id contents)) (distinct_keyed it.0 (listed_version_view line.0) (sym (row.2 ∙ ap columns it.2)) ∙ sym line.2) it.1

      all : length found < versions_limit → (version : ListedVersionView) → Has (id_versions id contents) version → Has (map listed_version_view lines) version
      all few version there =
          let row = subst (λ l. Has l (listed_version_cells version)) read (maps_had columns found (listed_version_cells version) (few_are_all few version there)) in
          let line = has_mapped cells lines (listed_version_cells version) row in
          subst (Has (map listed_version_view lines)) (sym (distinct_keyed version (listed_version_view line.0) line.2)) (maps_had listed_version_view lines line.0 line.1)

  pub readable_some : AreReadable contents → All IsReadableListedVersion found
  readable_some readable = all_if_each IsReadableListedVersion found (λ row there.
      let it = some_is_of row there in
      let kept = has_filtered has_id (entries contents.versions) it.0 it.1 in
      subst IsReadableListedVersion (sym it.2) (can_be_held it.0 (readable.versions it.0.0 it.0.1 (entry_got version_cmp version_order contents.versions it.0 kept.0))))
