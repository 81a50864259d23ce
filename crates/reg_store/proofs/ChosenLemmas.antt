-- The chosen version of a subject, and a version of an id, from rows of `versions`.
use Rattle.std.proofs.Common.{◌≡◌, ◌≢◌, ◌∙◌, inl, inr, ℕ, ◌==◌, List, [], ◌∷◌, true, false, map, length, Vec, Global, vec_len, refl, sym, ap, eqb-true, arith}
use Rattle.std.specs.Prelude.{All, Bool, Option, None, Some, not, ◌||◌, filter, option_map, if◌then◌else◌}
use Rattle.std.specs.FinMap.{get, entries}
use Rattle.std.specs.List.{Contains, last_or}
use Rattle.std.proofs.lemmas.Bool.{both_ways, cases_Bool, eq-eqb}
use Rattle.std.proofs.lemmas.Bool.Decides.{nat_tests}
use Rattle.std.proofs.lemmas.List.{nil_from_length}
use Rattle.std.proofs.lemmas.List.Elements.{All-head, All-tail, All-weaker, filter_passes}
use Rattle.sqlite_trees.proofs.ListLemmas.{filter-map}
use Rattle.reg_core.specs.Compatibility.{latest}
use Rattle.reg_core.specs.Registry.{Registry, Row, RowKey, Version, row_cmp}
use Rattle.reg_core.specs.Rows.{rows_of, rows_with, visible_rows}
use Rattle.reg_core.proofs.RowLemmas.{each_got, got_entry, row_order, row_keys_apart, filter_keeps}
use Rattle.reg_core.proofs.ChosenRows.{filter_all, last_or-map}
use Rattle.reg_tables.specs.declared.listed.SubjectVersion.{SubjectVersion}
use Rattle.reg_tables.specs.declared.versions.VersionEntry.{VersionEntry}
use Rattle.reg_tables.specs.Contents.{Contents, VersionEntryView}
use Rattle.reg_tables.specs.Entries.{SubjectVersionView, subject_version_view, subject_versions, version_entry_view as entry_row}
use Rattle.reg_store.specs.Spells.{stored_version}
use Rattle.reg_store.specs.Inside.Viewing.{row_numbered}
use Rattle.reg_store.proofs.RowLemmas.{subject_spelled}
use Rattle.reg_store.proofs.Texts.{was_written}

is_zero : (n : ℕ) → (n == 0) ≡ true → n ≡ 0
is_zero n e = grind (arith, nat_tests)

pub no_rows : (rows : Vec Row Global) → (vec_len rows == 0) ≡ true → rows.items ≡ []
no_rows rows e = nil_from_length rows.items (sym rows.ok.0 ∙ is_zero rows.len e)

pub some_rows : (rows : Vec Row Global) → (vec_len rows == 0) ≡ false → rows.items ≢ []
some_rows rows e none = both_ways _ e (ap (λ n. n == 0) (rows.ok.0 ∙ ap length none))

pub map_map : {A B C : Type 0} (f : A → B) (h : B → C) (o : Option A) → option_map (λ x. h (f x)) o ≡ option_map h (option_map f o)
map_map f h None = refl
map_map f h (Some x) = refl

module _ (contents : Contents) (g : Registry) (spelled : (key : RowKey) → get contents.versions key ≡ option_map stored_version (get g.rows key)) (subject : List ℕ) where
  -- the last of all versions: if deleted ones are shown, every version is shown
  pub last_told : (found : Option SubjectVersion) → option_map subject_version_view found ≡ last_or None (subject_versions subject contents)
      → option_map (λ (line : SubjectVersion). row_numbered subject (subject_version_view line)) found ≡ last_or None (visible_rows true (rows_of g subject))
  last_told found is =
      map_map subject_version_view (row_numbered subject) found ∙ ap (option_map (row_numbered subject)) is ∙ sym (last_or-map (row_numbered subject) None (subject_versions subject contents))
      ∙ ap (last_or None) (subject_spelled contents g spelled subject ∙ sym (filter_all (λ row. true || not row.1.deleted) (rows_of g subject) (λ k d lt. refl)))

  pub last_live_told : (found : Option SubjectVersion) → option_map subject_version_view found ≡ last_or None (filter (λ (version : SubjectVersionView). not version.1.deleted) (subject_versions subject contents))
      → option_map (λ (line : SubjectVersion). row_numbered subject (subject_version_view line)) found ≡ last_or None (visible_rows false (rows_of g subject))
  last_live_told found is =
      map_map subject_version_view (row_numbered subject) found ∙ ap (option_map (row_numbered subject)) is
      ∙ sym (last_or-map (row_numbered subject) None (filter (λ (version : SubjectVersionView). not version.1.deleted) (subject_versions subject contents)))
      ∙ ap (last_or None) (sym (filter-map (λ row. not row.1.deleted) (row_numbered subject) (subject_versions subject contents)) ∙ ap (visible_rows false) (subject_spelled contents g spelled subject))

  pub entry_told : (number : ℕ) (entry : VersionEntry) → get contents.versions (subject, number) ≡ Some (entry_row entry) → get g.rows (subject, number) ≡ Some (record { id = entry.id; deleted = entry.deleted })
  entry_told number entry there =
      let it = was_written stored_version (get g.rows (subject, number)) (entry_row entry) (sym (spelled (subject, number)) ∙ there) in
      let is = sym it.2 in
      it.1 ∙ λ i. Some (record { id = (is i).id; deleted = (is i).deleted })

  pub none_told : (number : ℕ) → get contents.versions (subject, number) ≡ None → (version : Version) → get g.rows (subject, number) ≡ Some version → ⊥
  none_told number none version there = let both = sym none ∙ spelled (subject, number) ∙ ap (option_map stored_version) there in cc

-- ---- ids

filter_none : {X : Type 0} (p : X → Bool) (xs : List X) → All (λ x. p x ≡ false) xs → filter p xs ≡ []
filter_none p [] h = refl
filter_none p (x ∷ xs) h =
    ap (λ b. if b then x ∷ filter p xs else filter p xs) (All-head (λ y. p y ≡ false) x xs h) ∙ filter_none p xs (All-tail (λ y. p y ≡ false) x xs h)

id_of_last : (id : ℕ) (rows : List Row) (row : Row) → All (λ (r : Row). r.1.id ≡ id) rows → Contains rows row → map (λ (r : Row). r.1.id) (latest rows) ≡ id ∷ []
id_of_last id [] row ids there = absurd (omega (arith, there.1))
id_of_last id (first ∷ rows) row ids there = at_last first rows ids
  where
    at_last : (r : Row) (rs : List Row) → All (λ (x : Row). x.1.id ≡ id) (r ∷ rs) → map (λ (x : Row). x.1.id) (latest (r ∷ rs)) ≡ id ∷ []
    at_last r [] all = ap (λ n. n ∷ []) (All-head (λ (x : Row). x.1.id ≡ id) r [] all)
    at_last r (next ∷ rs) all = at_last next rs (All-tail (λ (x : Row). x.1.id ≡ id) r (next ∷ rs) all)

module _ (contents : Contents) (g : Registry) (spelled : (key : RowKey) → get contents.versions key ≡ option_map stored_version (get g.rows key)) (id : ℕ) where
  pub no_version_told : ((key : RowKey) (entry : VersionEntryView) → get contents.versions key ≡ Some entry → entry.id ≢ id) → rows_with id (entries g.rows) ≡ []
  no_version_told none = filter_none (λ (row : Row). row.1.id == id) (entries g.rows) (λ k d lt. not_it _ (each_got row_cmp row_order g.rows k d lt))
    where
      not_it : (row : Row) → get g.rows row.0 ≡ Some row.1 → (row.1.id == id) ≡ false
      not_it row found = elim (cases_Bool (row.1.id == id)) [
        | inl has ↦ absurd (none row.0 (stored_version row.1) (spelled row.0 ∙ ap (option_map stored_version) found) (eqb-true row.1.id id has))
        | inr not ↦ not
      ]

  pub version_told : (key : RowKey) (entry : VersionEntryView) → get contents.versions key ≡ Some entry → entry.id ≡ id → map (λ (row : Row). row.1.id) (latest (rows_with id (entries g.rows))) ≡ id ∷ []
  version_told key entry there is =
      let it = was_written stored_version (get g.rows key) entry (sym (spelled key) ∙ there) in
      let has : (it.0.id == id) ≡ true = eq-eqb it.0.id id (sym (ap (λ (e : VersionEntryView). e.id) it.2) ∙ is) in
      let p = λ (row : Row). row.1.id == id in
      id_of_last id (rows_with id (entries g.rows)) (key, it.0)
      (All-weaker (λ (row : Row). (row.1.id == id) ≡ true) (λ (row : Row). row.1.id ≡ id) (λ row h. eqb-true row.1.id id h) (rows_with id (entries g.rows)) (filter_passes p (entries g.rows)))
      (filter_keeps p (entries g.rows) (key, it.0) (got_entry row_cmp row_order g.rows key it.0 row_keys_apart it.1) has)
