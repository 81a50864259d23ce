-- A query in descending order returns the last version that passes its tests.
use Rattle.std.proofs.Common.{◌≡◌, ◌&&◌, ◌==◌, ℕ, pos, List, [], ◌∷◌, map, take, reverse, filter, All, Bool, true, false, not, cond, Option, None, Some, slice_get, Less, refl, sym, ap, subst, ◌∙◌}
use Rattle.reg_tables.proofs.Kit.{◌||◌, bytes_eq, IsUtf8, ◌<◌, ◌^◌, option_map, AllByRecursion, last_or, entries, get, is_eq, is_le, int_cmp, nat_cmp, slice_get-map, map-map, Int, Text, Row, overlay, Output, IsAnswer, key_cmp, State, Shown, Schema, Term, eval_all, IsAscending, Has, has_filtered, has_kept, is_true, from_truth, all_of, all_both, ascending-filter, ascending_weaker, filter-map, Key, value_cmp-Int, value_cmp-Text}
use mathlib.Core.List.{reverse_aux}
use Rattle.sqlite.specs.Order.{column}
use Rattle.sqlite_sql.specs.Ops.{binary}
use Rattle.reg_tables.specs.Layout.{HasFiveTables}
use Rattle.reg_tables.specs.TableMaps.{IsEntry, ShowsMap}
use Rattle.reg_tables.specs.Contents.{text_cmp, version_cmp, version_key_cells, version_form, flag_cell, Contents, AreReadable, HoldsContents}
use Rattle.reg_tables.specs.Entries.{SubjectVersionView, subject_version_view, subject_version_cells, subject_versions, IsReadableSubjectVersion}
use Rattle.reg_tables.specs.declared.listed.SubjectVersion.{SubjectVersion}
use Rattle.reg_tables.specs.Inside.Statements.{ordered_query, TableQuery, body_of, IsQuery}
use Rattle.reg_tables.proofs.KeyedTables.{same_pos, version_order, with_nothing, answered}
use Rattle.reg_tables.proofs.KeyedLists.{same_id}
use Rattle.reg_tables.proofs.ListMembers.{has_mapped, has_reversed, reversed_has, has_taken}
use Rattle.reg_tables.proofs.OrderedQueries.{entries_rise, entry_got, got_entry, in_order_as}
use Rattle.reg_tables.proofs.Queries.{passes}
use Rattle.reg_tables.proofs.Tables.{five}
use Rattle.reg_tables.proofs.Statements.{from_greatest, first_row, laid_out, by_live_key, find_last_version, asks_last_version, find_last_live, asks_last_live, by_shown_id, find_last_with_id, asks_last_with_id}
use Rattle.reg_tables.proofs.TableLines.{all_if_each}
use Rattle.reg_tables.proofs.VersionLists.{Entry, ranks, distinct_numbered, same_text, entry_cells, by_subject, entry_shown, readable_entry}

-- ---- lists from their last item

module _ {A : Type 0} where
  first_onto : (xs ys : List A) → slice_get (reverse_aux xs ys) 0 ≡ last_or (slice_get ys 0) xs
  first_onto [] ys = refl
  first_onto (x ∷ xs) ys = first_onto xs (x ∷ ys)

  pub first_taken : (xs : List A) → slice_get (take 1 xs) 0 ≡ slice_get xs 0
  first_taken [] = refl
  first_taken (x ∷ xs) = refl

  falls_onto : (R : A → A → Type 0) (xs ys : List A) → IsAscending R xs → IsAscending (λ a b. R b a) ys → AllByRecursion (λ x. AllByRecursion (λ y. R y x) ys) xs → IsAscending (λ a b. R b a) (reverse_aux xs ys)
  falls_onto R [] ys up down across = down
  falls_onto R (x ∷ xs) ys up down across =
      falls_onto R xs (x ∷ ys) up.1 (across.0, down)
      (all_both (R x) (λ z. AllByRecursion (λ y. R y z) ys) (λ z. AllByRecursion (λ y. R y z) (x ∷ ys)) (λ z above more. (above, more)) xs up.0 across.1)

  falls : (R : A → A → Type 0) (xs : List A) → IsAscending R xs → IsAscending (λ a b. R b a) (reverse xs)
  falls R xs up = falls_onto R xs [] up tt (all_of (λ x. AllByRecursion (λ y. R y x) []) (λ x. tt) xs)

last_mapped : {A B : Type 0} (f : A → B) (o : Option A) (xs : List A) → last_or (option_map f o) (map f xs) ≡ option_map f (last_or o xs)
last_mapped f o [] = refl
last_mapped f o (x ∷ xs) = last_mapped f (Some x) xs

pub map_twice : {A B C : Type 0} (f : B → C) (g : A → B) (o : Option A) → option_map f (option_map g o) ≡ option_map (λ x. f (g x)) o
map_twice f g None = refl
map_twice f g (Some x) = refl

pub filter_both : {A : Type 0} (q p : A → Bool) (xs : List A) → filter q (filter p xs) ≡ filter (λ x. p x && q x) xs
filter_both q p [] = refl
filter_both q p (x ∷ xs) =
    elim (p x) as (λ b. filter q (cond b (x ∷ filter p xs) (filter p xs)) ≡ cond (b && q x) (x ∷ filter (λ y. p y && q y) xs) (filter (λ y. p y && q y) xs))
    [ true ↦ ap (λ l. cond (q x) (x ∷ l) l) (filter_both q p xs) | false ↦ filter_both q p xs ]

-- values with the same cells are equal
pub same_shown : {A : Type 0} (f : A → Row) → ((a b : A) → f a ≡ f b → a ≡ b) → (a b : Option A) → option_map f a ≡ option_map f b → a ≡ b
same_shown f distinct None None h = refl
same_shown f distinct None (Some b) h = absurd (cc)
same_shown f distinct (Some a) None h = absurd (cc)
same_shown f distinct (Some a) (Some b) h = let first : f a ≡ f b = cc in ap Some (distinct a b first)

-- the query returns its columns of the last version that passes
module _ (q : TableQuery) (ordered : body_of q ≡ ordered_query 2 q.tests q.shown from_greatest first_row) (params : Row) (old new : State) (it : IsQuery q old.now.schema) (found : List Row) (h : Shown q.sql params old new found) (contents : Contents)
    (shows : ShowsMap version_form (old.now.trees 2) (get contents.versions)) (p : Entry → Bool) (test : (row : Row) (e : Entry) → IsEntry version_form row e.0 e.1 → passes q.tests params row ≡ p e) (cells : Entry → Row)
    (whole : (row : Row) (e : Entry) → IsEntry version_form row e.0 e.1 → eval_all q.shown (params ∷ row ∷ []) ≡ cells e) where
  answer : IsAnswer (ordered_query 2 q.tests q.shown from_greatest first_row) (overlay old.now.trees []) params found
  answer = subst (λ b. IsAnswer b (overlay old.now.trees []) params found) ordered (answered q params old new it found h)

  abbrev out : Entry → Output
  out e = (version_key_cells e.0, cells e)

  abbrev passed : List Entry
  passed = filter p (entries contents.versions)

  first_of_reversed : found ≡ take 1 (map cells (reverse passed))
  first_of_reversed =
      let as_ordered = in_order_as version_form version_cmp 2 q.tests q.shown from_greatest first_row params (overlay old.now.trees []) found answer contents.versions
      (subst (λ l. ShowsMap version_form l (get contents.versions)) (sym (with_nothing old.now.trees 2)) shows) (reverse passed) out
      (λ row e is i. (is.0 i, whole row e is i))
      (λ row e is got on. reversed_has passed e (has_kept p (entries contents.versions) e (got_entry version_cmp version_order contents.versions e.0 e.1 got) (sym (test row e is) ∙ on)))
      (λ e there. let kept = has_filtered p (entries contents.versions) e (has_reversed passed e there) in (entry_got version_cmp version_order contents.versions e kept.0, λ row is. test row e is ∙ kept.1))
      (falls (λ a b. key_cmp 0 (map (λ (k : Term × Key). k.1) from_greatest) (version_key_cells b.0) (version_key_cells a.0) ≡ Less) passed
      (ascending-filter _ p (entries contents.versions)
      (ascending_weaker (λ (a b : Entry). version_cmp a.0 b.0 ≡ Less) _ (λ a b. ranks a.0 b.0) (entries contents.versions) (entries_rise version_cmp version_order contents.versions)))) in
      answer.shown ∙ ap (λ (l : List Output). take 1 (map (λ (o : Output). o.1) l)) as_ordered ∙ ap (take 1) (map-map (λ (o : Output). o.1) out (reverse passed))

  pub shows_last : slice_get found 0 ≡ option_map cells (last_or None passed)
  shows_last =
      ap (λ (l : List Row). slice_get l 0) first_of_reversed ∙ first_taken (map cells (reverse passed)) ∙ slice_get-map cells (reverse passed) 0
      ∙ ap (option_map cells) (first_onto passed [])

  -- over readable contents the returned rows are readable
  pub readable_last : (is_readable : Row → Type 0) → ((e : Entry) → IsUtf8 e.0.0 × (e.0.1 < 2 ^ 32) × (e.1.id < 2 ^ 32) → is_readable (cells e)) → AreReadable contents → All is_readable found
  readable_last is_readable can readable = all_if_each is_readable found (λ x there.
      let e = has_mapped cells (reverse passed) x (has_taken 1 (map cells (reverse passed)) x (subst (λ l. Has l x) first_of_reversed there)) in
      let kept = has_filtered p (entries contents.versions) e.0 (has_reversed passed e.0 e.1) in
      subst is_readable (sym e.2) (can e.0 (readable.versions e.0.0 e.0.1 (entry_got version_cmp version_order contents.versions e.0 kept.0))))

-- ---- the versions of a subject

abbrev pub entry_version : Entry → SubjectVersionView
entry_version e = (e.0.1, e.1)

-- the columns that are read from a row
abbrev pub line_columns : Row → Row
line_columns row = column row 0 ∷ column row 1 ∷ column row 2 ∷ []

-- the value read is the row's
numbered_line : (es : List Entry) (found : List Row) → slice_get found 0 ≡ option_map entry_cells (last_or None es) → (line : Option SubjectVersion)
    → option_map line_columns (slice_get found 0) ≡ option_map (λ (line : SubjectVersion). subject_version_cells (subject_version_view line)) line
    → option_map subject_version_view line ≡ last_or None (map entry_version es)
numbered_line es found is line read = same_shown subject_version_cells distinct_numbered (option_map subject_version_view line) (last_or None (map entry_version es))
    (map_twice subject_version_cells subject_version_view line ∙ sym read ∙ ap (option_map line_columns) is ∙ map_twice line_columns entry_cells (last_or None es)
    ∙ sym (map_twice subject_version_cells entry_version (last_or None es)) ∙ ap (option_map subject_version_cells) (sym (last_mapped entry_version None es)))

-- a row passes by its subject and its deleted flag
by_live_subject : (subject : List ℕ) (row : Row) (e : Entry) → IsEntry version_form row e.0 e.1 → passes by_live_key (Text subject ∷ []) row ≡ (bytes_eq e.0.0 subject && not e.1.deleted)
unfolding binary
by_live_subject subject row e is =
    let flag = cond e.1.deleted (pos 1) (pos 0) in
    let key : column row 1 ≡ Text e.0.0 = (let k = is.0 in cc) in
    let mark : column row 4 ≡ Int flag = (let v = is.1 in cc) in
    rw (key, value_cmp-Text e.0.0 subject, mark, value_cmp-Int flag (pos 0)) (truth (is_eq (text_cmp e.0.0 subject)) e.1.deleted) ∙ ap (λ b. b && not e.1.deleted) (same_text e.0.0 subject)
  where
    truth : (a d : Bool) → (is_true (from_truth (Some a)) && (is_true (from_truth (Some (is_eq (int_cmp (cond d (pos 1) (pos 0)) (pos 0))))) && true)) ≡ (a && not d)
    truth true true = refl
    truth true false = refl
    truth false true = refl
    truth false false = refl

-- a row passes by its subject, its deleted flag and its id
by_shown_subject : (subject : List ℕ) (id : ℕ) (deleted : Bool) (row : Row) (e : Entry) → IsEntry version_form row e.0 e.1
    → passes by_shown_id (Text subject ∷ Int (pos id) ∷ flag_cell deleted ∷ []) row ≡ (bytes_eq e.0.0 subject && ((deleted || not e.1.deleted) && (e.1.id == id)))
unfolding binary
by_shown_subject subject id deleted row e is =
    let flag = cond e.1.deleted (pos 1) (pos 0) in
    let versions_limit = cond deleted (pos 1) (pos 0) in
    let key : column row 1 ≡ Text e.0.0 = (let k = is.0 in cc) in
    let its : column row 3 ≡ Int (pos e.1.id) = (let v = is.1 in cc) in
    let mark : column row 4 ≡ Int flag = (let v = is.1 in cc) in
    rw (key, value_cmp-Text e.0.0 subject, its, value_cmp-Int (pos e.1.id) (pos id), same_pos e.1.id id, mark, value_cmp-Int flag versions_limit) (truth (is_eq (text_cmp e.0.0 subject)) (is_eq (nat_cmp e.1.id id)) deleted e.1.deleted)
    ∙ (λ i. same_text e.0.0 subject i && ((deleted || not e.1.deleted) && same_id e.1.id id i))
  where
    truth : (a b s d : Bool)
        → (is_true (from_truth (Some a)) && (is_true (from_truth (Some b)) && (is_true (from_truth (Some (is_le (int_cmp (cond d (pos 1) (pos 0)) (cond s (pos 1) (pos 0)))))) && true))) ≡ (a && ((s || not d) && b))
    truth false b s d = refl
    truth true false true true = refl
    truth true false true false = refl
    truth true false false true = refl
    truth true false false false = refl
    truth true true true true = refl
    truth true true true false = refl
    truth true true false true = refl
    truth true true false false = refl

module _ (old new : State) (schema : Schema) (contents : Contents) (h : HoldsContents schema old.now contents) (first : HasFiveTables schema) (subject : List ℕ) (found : List Row) where
  abbrev of_subject : Entry → Bool
  of_subject e = bytes_eq e.0.0 subject

  module _ (shown : Shown find_last_version.sql (Text subject ∷ []) old new found) where
    its : IsQuery find_last_version old.now.schema
    its = (asks_last_version subject).is old.now.schema (laid_out h first)

    pub last_line : (line : Option SubjectVersion) → option_map line_columns (slice_get found 0) ≡ option_map (λ (line : SubjectVersion). subject_version_cells (subject_version_view line)) line
        → option_map subject_version_view line ≡ last_or None (subject_versions subject contents)
    last_line = numbered_line (filter of_subject (entries contents.versions)) found (shows_last find_last_version refl (Text subject ∷ []) old new its found shown contents (five h first).versions of_subject (by_subject subject) entry_cells entry_shown)

    pub readable_last_line : AreReadable contents → All IsReadableSubjectVersion found
    readable_last_line = readable_last find_last_version refl (Text subject ∷ []) old new its found shown contents (five h first).versions of_subject (by_subject subject) entry_cells entry_shown IsReadableSubjectVersion readable_entry

  module _ (shown : Shown find_last_live.sql (Text subject ∷ []) old new found) where
    abbrev of_live : Entry → Bool
    of_live e = of_subject e && not e.1.deleted

    it : IsQuery find_last_live old.now.schema
    it = (asks_last_live subject).is old.now.schema (laid_out h first)

    live_entries : filter (λ (version : SubjectVersionView). not version.1.deleted) (subject_versions subject contents) ≡ map entry_version (filter of_live (entries contents.versions))
    live_entries =
        filter-map (λ (version : SubjectVersionView). not version.1.deleted) entry_version (filter of_subject (entries contents.versions))
        ∙ ap (map entry_version) (filter_both (λ (e : Entry). not e.1.deleted) of_subject (entries contents.versions))

    pub last_live_line : (line : Option SubjectVersion) → option_map line_columns (slice_get found 0) ≡ option_map (λ (line : SubjectVersion). subject_version_cells (subject_version_view line)) line
        → option_map subject_version_view line ≡ last_or None (filter (λ (version : SubjectVersionView). not version.1.deleted) (subject_versions subject contents))
    last_live_line line read =
        numbered_line (filter of_live (entries contents.versions)) found (shows_last find_last_live refl (Text subject ∷ []) old new it found shown contents (five h first).versions of_live (by_live_subject subject) entry_cells entry_shown) line read
        ∙ ap (last_or None) (sym live_entries)

    pub readable_last_live : AreReadable contents → All IsReadableSubjectVersion found
    readable_last_live = readable_last find_last_live refl (Text subject ∷ []) old new it found shown contents (five h first).versions of_live (by_live_subject subject) entry_cells entry_shown IsReadableSubjectVersion readable_entry

  module _ (id : ℕ) (deleted : Bool) (shown : Shown find_last_with_id.sql (Text subject ∷ Int (pos id) ∷ flag_cell deleted ∷ []) old new found) where
    abbrev has_it : SubjectVersionView → Bool
    has_it version = (deleted || not version.1.deleted) && (version.1.id == id)

    abbrev of_it : Entry → Bool
    of_it e = of_subject e && has_it (entry_version e)

    that : IsQuery find_last_with_id old.now.schema
    that = (asks_last_with_id subject id deleted).is old.now.schema (laid_out h first)

    its_entries : filter has_it (subject_versions subject contents) ≡ map entry_version (filter of_it (entries contents.versions))
    its_entries = filter-map has_it entry_version (filter of_subject (entries contents.versions)) ∙ ap (map entry_version) (filter_both (λ (e : Entry). has_it (entry_version e)) of_subject (entries contents.versions))

    pub last_line_with_id : (line : Option SubjectVersion) → option_map line_columns (slice_get found 0) ≡ option_map (λ (line : SubjectVersion). subject_version_cells (subject_version_view line)) line
        → option_map subject_version_view line ≡ last_or None (filter has_it (subject_versions subject contents))
    last_line_with_id line read =
        numbered_line (filter of_it (entries contents.versions)) found
        (shows_last find_last_with_id refl (Text subject ∷ Int (pos id) ∷ flag_cell deleted ∷ []) old new that found shown contents (five h first).versions of_it (by_shown_subject subject id deleted) entry_cells entry_shown) line read
        ∙ ap (last_or None) (sym its_entries)

    pub readable_last_with_id : AreReadable contents → All IsReadableSubjectVersion found
    readable_last_with_id = readable_last find_last_with_id refl (Text subject ∷ Int (pos id) ∷ flag_cell deleted ∷ []) old new that found shown contents (five h first).versions of_it (by_shown_subject subject id deleted) entry_cells entry_shown IsReadableSubjectVersion readable_entry
