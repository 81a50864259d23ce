-- What the queries of versions return, in the order of subjects and numbers.
use Rattle.std.proofs.Common.{◌≡◌, inl, inr, ℕ, pos, List, [], ◌∷◌, map, filter, All, Bool, Ordering, Less, Equal, Greater, refl, sym, ap, subst, ◌∙◌}
use Rattle.reg_tables.proofs.Kit.{bytes_eq, IsUtf8, ◌<◌, ◌^◌, entries, get, nat_cmp, ordering_then, is_eq, Int, Text, Row, overlay, Output, IsAnswer, key_cmp, State, Shown, Schema, Term, eval_all, Has, has_filtered, has_kept, ascending-filter, ascending_weaker, Key, value_cmp-Int, value_cmp-Text, cases_Bool, both_ways, false_from_ne_true, bytes_eq-Decides, map-map}
use Rattle.sqlite.specs.Order.{column}
use Rattle.reg_tables.specs.Layout.{HasFiveTables}
use Rattle.reg_tables.specs.TableMaps.{IsEntry, ShowsMap}
use Rattle.reg_tables.specs.Contents.{version_cmp, VersionEntryView, version_cells, version_key_cells, version_form, text_cmp, Contents, AreReadable, HoldsContents}
use Rattle.reg_tables.specs.Entries.{SubjectVersionView, subject_version_view, subject_version_cells, subject_versions, IsReadableSubjectVersion}
use Rattle.reg_tables.specs.declared.listed.SubjectVersion.{SubjectVersion}
use Rattle.reg_tables.specs.Inside.Statements.{no_limit, ordered_query, TableQuery, body_of, IsQuery, by_first_column}
use Rattle.reg_tables.proofs.KeyedTables.{int_order, text_order, version_order, by_first_column_test, with_nothing, answered}
use Rattle.reg_tables.proofs.ListMembers.{has_mapped}
use Rattle.reg_tables.proofs.MapLemmas.{same_key, tied_key}
use Rattle.reg_tables.proofs.Keys.{distinct_version_rows}
use Rattle.reg_tables.proofs.OrderedQueries.{entries_rise, entry_got, got_entry, in_order_as}
use Rattle.reg_tables.proofs.Queries.{passes}
use Rattle.reg_tables.proofs.Tables.{five}
use Rattle.reg_tables.proofs.Statements.{in_order, laid_out, find_versions, asks_versions}
use Rattle.reg_tables.proofs.TableLines.{all_if_each}

-- the key of a version and its other columns
abbrev pub Entry : Type 0
Entry = (List ℕ × ℕ) × VersionEntryView

-- versions are ordered by the columns of their keys
pub ranks : (a b : List ℕ × ℕ) → version_cmp a b ≡ Less → key_cmp 0 (map (λ (k : Term × Key). k.1) in_order) (version_key_cells a) (version_key_cells b) ≡ Less
ranks a b h = rw (value_cmp-Text a.0 b.0, value_cmp-Int (pos a.1) (pos b.1), int_order a.1 b.1) (go (text_cmp a.0 b.0) (nat_cmp a.1 b.1) h)
  where
    go : (x y : Ordering) → ordering_then x y ≡ Less → ordering_then x (ordering_then y Equal) ≡ Less
    go Less y h = refl
    go Equal Less h = refl
    go Equal Equal h = h
    go Equal Greater h = h
    go Greater y h = h

-- lists with the same cells are equal if this is true of their members
pub same_cells : {A : Type 0} (f : A → Row) → ((a b : A) → f a ≡ f b → a ≡ b) → (xs ys : List A) → map f xs ≡ map f ys → xs ≡ ys
same_cells f distinct [] [] h = refl
same_cells f distinct [] (y ∷ ys) h = absurd (cc)
same_cells f distinct (x ∷ xs) [] h = absurd (cc)
same_cells f distinct (x ∷ xs) (y ∷ ys) h =
    let first : f x ≡ f y = cc in
    let rest : map f xs ≡ map f ys = cc in
    λ i. distinct x y first i ∷ same_cells f distinct xs ys rest i

-- the query returns its columns of the versions that pass, in order
module _ (q : TableQuery) (ordered : body_of q ≡ ordered_query 2 q.tests q.shown in_order no_limit) (params : Row) (old new : State) (it : IsQuery q old.now.schema) (found : List Row) (h : Shown q.sql params old new found) (contents : Contents)
    (shows : ShowsMap version_form (old.now.trees 2) (get contents.versions)) (p : Entry → Bool) (test : (row : Row) (e : Entry) → IsEntry version_form row e.0 e.1 → passes q.tests params row ≡ p e) (cells : Entry → Row)
    (whole : (row : Row) (e : Entry) → IsEntry version_form row e.0 e.1 → eval_all q.shown (params ∷ row ∷ []) ≡ cells e) where
  answer : IsAnswer (ordered_query 2 q.tests q.shown in_order no_limit) (overlay old.now.trees []) params found
  answer = subst (λ b. IsAnswer b (overlay old.now.trees []) params found) ordered (answered q params old new it found h)

  abbrev out : Entry → Output
  out e = (version_key_cells e.0, cells e)

  pub lists_versions : found ≡ map cells (filter p (entries contents.versions))
  lists_versions =
      let es = filter p (entries contents.versions) in
      let as_ordered = in_order_as version_form version_cmp 2 q.tests q.shown in_order no_limit params (overlay old.now.trees []) found answer contents.versions
      (subst (λ l. ShowsMap version_form l (get contents.versions)) (sym (with_nothing old.now.trees 2)) shows) es out
      (λ row e is i. (is.0 i, whole row e is i))
      (λ row e is got on. has_kept p (entries contents.versions) e (got_entry version_cmp version_order contents.versions e.0 e.1 got) (sym (test row e is) ∙ on))
      (λ e there. let kept = has_filtered p (entries contents.versions) e there in (entry_got version_cmp version_order contents.versions e kept.0, λ row is. test row e is ∙ kept.1))
      (ascending-filter _ p (entries contents.versions)
      (ascending_weaker (λ (a b : Entry). version_cmp a.0 b.0 ≡ Less) _ (λ a b. ranks a.0 b.0) (entries contents.versions) (entries_rise version_cmp version_order contents.versions))) in
      answer.shown ∙ ap (map (λ (o : Output). o.1)) as_ordered ∙ map-map (λ (o : Output). o.1) out es

  -- over readable contents each row is readable
  pub readable_versions : (is_readable : Row → Type 0) → ((e : Entry) → IsUtf8 e.0.0 × (e.0.1 < 2 ^ 32) × (e.1.id < 2 ^ 32) → is_readable (cells e)) → AreReadable contents → All is_readable found
  readable_versions is_readable can readable = all_if_each is_readable found (λ x there.
      let e = has_mapped cells (filter p (entries contents.versions)) x (subst (λ l. Has l x) lists_versions there) in
      let kept = has_filtered p (entries contents.versions) e.0 e.1 in
      subst is_readable (sym e.2) (can e.0 (readable.versions e.0.0 e.0.1 (entry_got version_cmp version_order contents.versions e.0 kept.0))))

-- ---- the versions of a subject

pub same_text : (a b : List ℕ) → is_eq (text_cmp a b) ≡ bytes_eq a b
same_text a b = elim (cases_Bool (is_eq (text_cmp a b))) [
  | inl same ↦ same ∙ sym ((bytes_eq-Decides a b).1 (same_key text_cmp text_order a b same))
  | inr other ↦ other ∙ sym (false_from_ne_true _ (λ same. both_ways _ other (tied_key text_cmp text_order a b ((bytes_eq-Decides a b).0 same))))
]

pub distinct_numbered : (a b : SubjectVersionView) → subject_version_cells a ≡ subject_version_cells b → a ≡ b
distinct_numbered a b h =
    let number : a.0 ≡ b.0 = cc in
    let rest : version_cells a.1 ≡ version_cells b.1 = cc in
    λ i. (number i, distinct_version_rows a.1 b.1 rest i)

abbrev pub entry_cells : Entry → Row
entry_cells e = subject_version_cells (e.0.1, e.1)

pub by_subject : (subject : List ℕ) (row : Row) (e : Entry) → IsEntry version_form row e.0 e.1 → passes by_first_column (Text subject ∷ []) row ≡ bytes_eq e.0.0 subject
by_subject subject row e is = by_first_column_test row subject e.0.0 (let k = is.0 in cc) ∙ same_text e.0.0 subject

pub entry_shown : (row : Row) (e : Entry) → IsEntry version_form row e.0 e.1 → column row 2 ∷ column row 3 ∷ column row 4 ∷ [] ≡ entry_cells e
entry_shown row e is =
    let number : column row 2 ≡ Int (pos e.0.1) = (let k = is.0 in cc) in
    λ i. number i ∷ is.1 i

pub readable_entry : (e : Entry) → IsUtf8 e.0.0 × (e.0.1 < 2 ^ 32) × (e.1.id < 2 ^ 32) → IsReadableSubjectVersion (entry_cells e)
readable_entry e can = record { number = e.0.1; version = e.1; is = refl; low = can.1; low_id = can.2 }

module _ (old new : State) (schema : Schema) (contents : Contents) (h : HoldsContents schema old.now contents) (first : HasFiveTables schema) (subject : List ℕ) (found : List Row) (shown : Shown find_versions.sql (Text subject ∷ []) old new found) where
  its : IsQuery find_versions old.now.schema
  its = (asks_versions subject).is old.now.schema (laid_out h first)

  pub finds_versions : found ≡ map subject_version_cells (subject_versions subject contents)
  finds_versions =
      lists_versions find_versions refl (Text subject ∷ []) old new its found shown contents (five h first).versions (λ e. bytes_eq e.0.0 subject) (by_subject subject) entry_cells entry_shown
      ∙ sym (map-map subject_version_cells (λ (e : Entry). (e.0.1, e.1)) (filter (λ (e : Entry). bytes_eq e.0.0 subject) (entries contents.versions)))

  pub numbered_lines : (lines : List SubjectVersion) → map (λ (row : Row). column row 0 ∷ column row 1 ∷ column row 2 ∷ []) found ≡ map (λ (line : SubjectVersion). subject_version_cells (subject_version_view line)) lines → map subject_version_view lines ≡ subject_versions subject contents
  numbered_lines lines read = same_cells subject_version_cells distinct_numbered (map subject_version_view lines) (subject_versions subject contents)
      (map-map subject_version_cells subject_version_view lines ∙ sym read ∙ ap (map (λ (row : Row). column row 0 ∷ column row 1 ∷ column row 2 ∷ [])) finds_versions
      ∙ map-map (λ (row : Row). column row 0 ∷ column row 1 ∷ column row 2 ∷ []) subject_version_cells (subject_versions subject contents))

  pub readable_numbered : AreReadable contents → All IsReadableSubjectVersion found
  readable_numbered = readable_versions find_versions refl (Text subject ∷ []) old new its found shown contents (five h first).versions (λ e. bytes_eq e.0.0 subject) (by_subject subject) entry_cells entry_shown IsReadableSubjectVersion readable_entry
