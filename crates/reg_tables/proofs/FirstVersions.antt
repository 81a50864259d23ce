-- A query ordered by subject and number returns the first version that passes its tests.
use Rattle.std.proofs.Common.{◌≡◌, ◌&&◌, ℕ, pos, List, [], ◌∷◌, map, take, filter, find, All, Bool, true, false, cond, Option, Some, slice_get, Less, refl, sym, ap, subst, ◌∙◌}
use Rattle.reg_tables.proofs.Kit.{bytes_eq, IsUtf8, ◌<◌, ◌^◌, option_map, entries, get, is_eq, is_gt, nat_cmp, slice_get-map, map-map, Int, Text, Row, overlay, Output, IsAnswer, State, Shown, Schema, eval_all, Has, has_filtered, has_kept, is_true, from_truth, ascending-filter, ascending_weaker, value_cmp-Int, value_cmp-Text}
use Rattle.sqlite.specs.Order.{column}
use Rattle.sqlite_sql.specs.Ops.{binary}
use Rattle.reg_tables.specs.Layout.{HasFiveTables}
use Rattle.reg_tables.specs.TableMaps.{IsEntry, ShowsMap}
use Rattle.reg_tables.specs.Contents.{text_cmp, version_cmp, version_key_cells, version_form, Contents, AreReadable, HoldsContents}
use Rattle.reg_tables.specs.Entries.{SubjectVersionView, subject_version_view, subject_version_cells, subject_versions, IsReadableSubjectVersion, listed_version_view, listed_version_cells, IsReadableListedVersion}
use Rattle.reg_tables.specs.declared.listed.SubjectVersion.{SubjectVersion}
use Rattle.reg_tables.specs.declared.listed.ListedVersion.{ListedVersion}
use Rattle.reg_tables.specs.Inside.Statements.{ordered_query, TableQuery, body_of, IsQuery}
use Rattle.reg_tables.proofs.KeyedLists.{distinct_keyed, whole as keyed_shown, can_be_held}
use Rattle.reg_tables.proofs.KeyedTables.{int_order, version_order, with_nothing, answered}
use Rattle.reg_tables.proofs.LastVersions.{first_taken, map_twice, same_shown, entry_version, line_columns}
use Rattle.reg_tables.proofs.ListMembers.{has_mapped, has_taken}
use Rattle.reg_tables.proofs.OrderedQueries.{entries_rise, entry_got, got_entry, in_order_as}
use Rattle.reg_tables.proofs.Queries.{passes}
use Rattle.reg_tables.proofs.Tables.{five}
use Rattle.reg_tables.proofs.Statements.{in_order, first_row, laid_out, by_later_subject, find_after, asks_after, by_later_number, find_next, asks_next}
use Rattle.reg_tables.proofs.TableLines.{all_if_each}
use Rattle.reg_tables.proofs.VersionLists.{Entry, ranks, distinct_numbered, same_text, entry_cells, entry_shown, readable_entry}

-- ---- the first row that passes

first_kept : {A : Type 0} (p : A → Bool) (xs : List A) → slice_get (filter p xs) 0 ≡ find p xs
first_kept p [] = refl
first_kept p (x ∷ xs) = elim (p x) as (λ b. slice_get (cond b (x ∷ filter p xs) (filter p xs)) 0 ≡ cond b (Some x) (find p xs)) [ true ↦ refl | false ↦ first_kept p xs ]

pub find-map : {A B : Type 0} (f : A → B) (p : B → Bool) (xs : List A) → find p (map f xs) ≡ option_map f (find (λ x. p (f x)) xs)
find-map f p [] = refl
find-map f p (x ∷ xs) = elim (p (f x)) as (λ b. cond b (Some (f x)) (find p (map f xs)) ≡ option_map f (cond b (Some x) (find (λ y. p (f y)) xs))) [ true ↦ refl | false ↦ find-map f p xs ]

pub find-filter : {A : Type 0} (q p : A → Bool) (xs : List A) → find q (filter p xs) ≡ find (λ x. p x && q x) xs
find-filter q p [] = refl
find-filter q p (x ∷ xs) =
    elim (p x) as (λ b. find q (cond b (x ∷ filter p xs) (filter p xs)) ≡ cond (b && q x) (Some x) (find (λ y. p y && q y) xs))
    [ true ↦ ap (λ o. cond (q x) (Some x) o) (find-filter q p xs) | false ↦ find-filter q p xs ]

-- the query returns its columns of the first version that passes
module _ (q : TableQuery) (ordered : body_of q ≡ ordered_query 2 q.tests q.shown in_order first_row) (params : Row) (old new : State) (it : IsQuery q old.now.schema) (found : List Row) (h : Shown q.sql params old new found) (contents : Contents)
    (shows : ShowsMap version_form (old.now.trees 2) (get contents.versions)) (p : Entry → Bool) (test : (row : Row) (e : Entry) → IsEntry version_form row e.0 e.1 → passes q.tests params row ≡ p e) (cells : Entry → Row)
    (whole : (row : Row) (e : Entry) → IsEntry version_form row e.0 e.1 → eval_all q.shown (params ∷ row ∷ []) ≡ cells e) where
  answer : IsAnswer (ordered_query 2 q.tests q.shown in_order first_row) (overlay old.now.trees []) params found
  answer = subst (λ b. IsAnswer b (overlay old.now.trees []) params found) ordered (answered q params old new it found h)

  abbrev out : Entry → Output
  out e = (version_key_cells e.0, cells e)

  abbrev passed : List Entry
  passed = filter p (entries contents.versions)

  first_of_passed : found ≡ take 1 (map cells passed)
  first_of_passed =
      let as_ordered = in_order_as version_form version_cmp 2 q.tests q.shown in_order first_row params (overlay old.now.trees []) found answer contents.versions
      (subst (λ l. ShowsMap version_form l (get contents.versions)) (sym (with_nothing old.now.trees 2)) shows) passed out
      (λ row e is i. (is.0 i, whole row e is i))
      (λ row e is got on. has_kept p (entries contents.versions) e (got_entry version_cmp version_order contents.versions e.0 e.1 got) (sym (test row e is) ∙ on))
      (λ e there. let kept = has_filtered p (entries contents.versions) e there in (entry_got version_cmp version_order contents.versions e kept.0, λ row is. test row e is ∙ kept.1))
      (ascending-filter _ p (entries contents.versions)
      (ascending_weaker (λ (a b : Entry). version_cmp a.0 b.0 ≡ Less) _ (λ a b. ranks a.0 b.0) (entries contents.versions) (entries_rise version_cmp version_order contents.versions))) in
      answer.shown ∙ ap (λ (l : List Output). take 1 (map (λ (o : Output). o.1) l)) as_ordered ∙ ap (take 1) (map-map (λ (o : Output). o.1) out passed)

  pub shows_first : slice_get found 0 ≡ option_map cells (find p (entries contents.versions))
  shows_first = ap (λ (l : List Row). slice_get l 0) first_of_passed ∙ first_taken (map cells passed) ∙ slice_get-map cells passed 0 ∙ ap (option_map cells) (first_kept p (entries contents.versions))

  -- over readable contents the returned rows are readable
  pub readable_first : (is_readable : Row → Type 0) → ((e : Entry) → IsUtf8 e.0.0 × (e.0.1 < 2 ^ 32) × (e.1.id < 2 ^ 32) → is_readable (cells e)) → AreReadable contents → All is_readable found
  readable_first is_readable can readable = all_if_each is_readable found (λ x there.
      let e = has_mapped cells passed x (has_taken 1 (map cells passed) x (subst (λ l. Has l x) first_of_passed there)) in
      let kept = has_filtered p (entries contents.versions) e.0 e.1 in
      subst is_readable (sym e.2) (can e.0 (readable.versions e.0.0 e.0.1 (entry_got version_cmp version_order contents.versions e.0 kept.0))))

-- ---- after a subject, and after a version of a subject

by_after : (subject : List ℕ) (row : Row) (e : Entry) → IsEntry version_form row e.0 e.1 → passes by_later_subject (Text subject ∷ []) row ≡ is_gt (text_cmp e.0.0 subject)
unfolding binary
by_after subject row e is = let key : column row 1 ≡ Text e.0.0 = (let k = is.0 in cc) in rw (key, value_cmp-Text e.0.0 subject) (truth (is_gt (text_cmp e.0.0 subject)))
  where
    truth : (b : Bool) → (is_true (from_truth (Some b)) && true) ≡ b
    truth true = refl
    truth false = refl

by_next : (subject : List ℕ) (number : ℕ) (row : Row) (e : Entry) → IsEntry version_form row e.0 e.1 → passes by_later_number (Text subject ∷ Int (pos number) ∷ []) row ≡ (bytes_eq e.0.0 subject && is_gt (nat_cmp e.0.1 number))
unfolding binary
by_next subject number row e is =
    let key : column row 1 ≡ Text e.0.0 = (let k = is.0 in cc) in
    let its : column row 2 ≡ Int (pos e.0.1) = (let k = is.0 in cc) in
    rw (key, value_cmp-Text e.0.0 subject, its, value_cmp-Int (pos e.0.1) (pos number), int_order e.0.1 number) (truth (is_eq (text_cmp e.0.0 subject)) (is_gt (nat_cmp e.0.1 number)))
    ∙ ap (λ b. b && is_gt (nat_cmp e.0.1 number)) (same_text e.0.0 subject)
  where
    truth : (a d : Bool) → (is_true (from_truth (Some a)) && (is_true (from_truth (Some d)) && true)) ≡ (a && d)
    truth true true = refl
    truth true false = refl
    truth false true = refl
    truth false false = refl

-- the columns that are read from a row with its subject
abbrev keyed_columns : Row → Row
keyed_columns row = column row 0 ∷ column row 1 ∷ column row 2 ∷ column row 3 ∷ []

module _ (old new : State) (schema : Schema) (contents : Contents) (h : HoldsContents schema old.now contents) (first : HasFiveTables schema) (subject : List ℕ) (found : List Row) where
  module _ (shown : Shown find_after.sql (Text subject ∷ []) old new found) where
    abbrev is_after : Entry → Bool
    is_after e = is_gt (text_cmp e.0.0 subject)

    its : IsQuery find_after old.now.schema
    its = (asks_after subject).is old.now.schema (laid_out h first)

    pub line_after : (line : Option ListedVersion) → option_map keyed_columns (slice_get found 0) ≡ option_map (λ (line : ListedVersion). listed_version_cells (listed_version_view line)) line
        → option_map listed_version_view line ≡ find is_after (entries contents.versions)
    line_after line read =
        let first = shows_first find_after refl (Text subject ∷ []) old new its found shown contents (five h first).versions is_after (by_after subject) listed_version_cells keyed_shown in
        same_shown listed_version_cells distinct_keyed (option_map listed_version_view line) (find is_after (entries contents.versions))
        (map_twice listed_version_cells listed_version_view line ∙ sym read ∙ ap (option_map keyed_columns) first ∙ map_twice keyed_columns listed_version_cells (find is_after (entries contents.versions)))

    pub readable_after : AreReadable contents → All IsReadableListedVersion found
    readable_after = readable_first find_after refl (Text subject ∷ []) old new its found shown contents (five h first).versions is_after (by_after subject) listed_version_cells keyed_shown IsReadableListedVersion can_be_held

  module _ (number : ℕ) (shown : Shown find_next.sql (Text subject ∷ Int (pos number) ∷ []) old new found) where
    abbrev is_next : Entry → Bool
    is_next e = bytes_eq e.0.0 subject && is_gt (nat_cmp e.0.1 number)

    it : IsQuery find_next old.now.schema
    it = (asks_next subject number).is old.now.schema (laid_out h first)

    next_entry : find (λ (version : SubjectVersionView). is_gt (nat_cmp version.0 number)) (subject_versions subject contents) ≡ option_map entry_version (find is_next (entries contents.versions))
    next_entry =
        find-map entry_version (λ (version : SubjectVersionView). is_gt (nat_cmp version.0 number)) (filter (λ (e : Entry). bytes_eq e.0.0 subject) (entries contents.versions))
        ∙ ap (option_map entry_version) (find-filter (λ (e : Entry). is_gt (nat_cmp e.0.1 number)) (λ (e : Entry). bytes_eq e.0.0 subject) (entries contents.versions))

    pub next_line : (line : Option SubjectVersion) → option_map line_columns (slice_get found 0) ≡ option_map (λ (line : SubjectVersion). subject_version_cells (subject_version_view line)) line
        → option_map subject_version_view line ≡ find (λ (version : SubjectVersionView). is_gt (nat_cmp version.0 number)) (subject_versions subject contents)
    next_line line read =
        let first = shows_first find_next refl (Text subject ∷ Int (pos number) ∷ []) old new it found shown contents (five h first).versions is_next (by_next subject number) entry_cells entry_shown in
        same_shown subject_version_cells distinct_numbered (option_map subject_version_view line) (option_map entry_version (find is_next (entries contents.versions)))
        (map_twice subject_version_cells subject_version_view line ∙ sym read ∙ ap (option_map line_columns) first ∙ map_twice line_columns entry_cells (find is_next (entries contents.versions))
        ∙ sym (map_twice subject_version_cells entry_version (find is_next (entries contents.versions)))) ∙ sym next_entry

    pub readable_next : AreReadable contents → All IsReadableSubjectVersion found
    readable_next = readable_first find_next refl (Text subject ∷ Int (pos number) ∷ []) old new it found shown contents (five h first).versions is_next (by_next subject number) entry_cells entry_shown IsReadableSubjectVersion readable_entry
