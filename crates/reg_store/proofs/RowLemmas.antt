-- The versions of a registry, and the rows of `versions` that spell them.
use Rattle.std.proofs.Common.{◌≡◌, List, [], ◌∷◌, ℕ, Bool, true, false, cond, map, refl, sym, ap, subst, ◌∙◌}
use Rattle.std.specs.Prelude.{All, IsTrue, ◌==◌, ◌&&◌, filter, bytes_eq, option_map}
use lib.Dec.{T}
use Rattle.std.specs.Ordering.{is_lt}
use Rattle.std.specs.FinMap.Entries.{below_all}
use Rattle.std.specs.FinMap.{get, entries, is_sorted, get-entries, from_sorted, entries_sorted, entries-from_sorted, get-from_sorted, same_map}
use Rattle.std.specs.List.{AllByRecursion}
use Rattle.std.proofs.lemmas.Slice.Eq.{bytes_eq-Decides}
use Rattle.std.proofs.lemmas.List.Elements.{All-nil, All-cons, All-filter}
use Rattle.sqlite_rules.proofs.ListLemmas.{all_from}
use Rattle.reg_core.proofs.RowLemmas.{All-mapped}
use Rattle.reg_core.specs.Registry.{Registry, Row, RowKey, row_cmp}
use Rattle.reg_core.specs.Rows.{rows_of, rows_with}
use Rattle.reg_core.specs.Subjects.{is_subject}
use Rattle.reg_core.specs.KeptReplies.{Kept}
use Rattle.reg_tables.specs.declared.listed.ListedVersion.{ListedVersion}
use Rattle.reg_tables.specs.Contents.{Contents, version_cmp}
use Rattle.reg_tables.specs.Entries.{ListedVersionView, listed_version_view, subject_versions, id_versions}
use Rattle.reg_tables.proofs.KeyedTables.{version_order}
use Rattle.reg_tables.proofs.OrderedQueries.{entry_got}
use Rattle.reg_store.specs.Spells.{IsSpelled, stored_version}
use Rattle.reg_store.proofs.Schemas.{find-mapped}
use Rattle.reg_store.proofs.Texts.{was_written}
use Rattle.reg_store.specs.Inside.Viewing.{HasSubject, version_spelled, row_spelled, row_numbered}

-- ---- entries

abbrev row_entry : Row → ListedVersionView
row_entry row = (row.0, stored_version row.1)

entries_back : (rows : List Row) → map row_spelled (map row_entry rows) ≡ rows
entries_back [] = refl
entries_back (row ∷ rows) = ap (λ rest. row ∷ rest) (entries_back rows)

-- other values keep the order of the keys
sorted_mapped : (rows : List Row) → is_sorted version_cmp (map row_entry rows) ≡ is_sorted row_cmp rows
sorted_mapped [] = refl
sorted_mapped (row ∷ rows) = λ i. below rows i && sorted_mapped rows i
  where
    below : (rs : List Row) → below_all version_cmp row.0 (map row_entry rs) ≡ below_all row_cmp row.0 rs
    below [] = refl
    below (r ∷ rs) = ap (λ b. is_lt (row_cmp row.0 r.0) && b) (below rs)

module _ (contents : Contents) (g : Registry) (spelled : (key : RowKey) → get contents.versions key ≡ option_map stored_version (get g.rows key)) where
  entries_spelled : entries contents.versions ≡ map row_entry (entries g.rows)
  entries_spelled =
      let es = map row_entry (entries g.rows) in
      let sorted = subst T (sym (sorted_mapped (entries g.rows))) (entries_sorted g.rows) in
      let same = same_map version_order.total version_order.antisymmetric contents.versions (from_sorted es) (λ key.
      spelled key ∙ ap (option_map stored_version) (get-entries g.rows key) ∙ sym (find-mapped version_cmp stored_version key (entries g.rows)) ∙ sym (get-from_sorted version_cmp es key sorted)) in
      ap entries same ∙ entries-from_sorted version_cmp es sorted

  pub all_spelled : map row_spelled (entries contents.versions) ≡ entries g.rows
  all_spelled = ap (map row_spelled) entries_spelled ∙ entries_back (entries g.rows)

  pub id_spelled : (id : ℕ) → map row_spelled (id_versions id contents) ≡ rows_with id (entries g.rows)
  id_spelled id = filtered (entries contents.versions) ∙ ap (rows_with id) all_spelled
    where
      filtered : (es : List ListedVersionView) → map row_spelled (filter (λ (e : ListedVersionView). e.1.id == id) es) ≡ rows_with id (map row_spelled es)
      filtered [] = refl
      filtered (e ∷ es) = by (e.1.id == id) (filter (λ (x : ListedVersionView). x.1.id == id) es) (rows_with id (map row_spelled es)) (filtered es)
        where
          by : (b : Bool) (xs : List ListedVersionView) (ys : List Row) → map row_spelled xs ≡ ys → map row_spelled (cond b (e ∷ xs) xs) ≡ cond b (row_spelled e ∷ ys) ys
          by true xs ys h = ap (λ rest. row_spelled e ∷ rest) h
          by false xs ys h = h

  pub subject_spelled : (subject : List ℕ) → map (row_numbered subject) (subject_versions subject contents) ≡ rows_of g subject
  subject_spelled subject = numbered (entries contents.versions) ∙ ap (filter (λ (row : Row). bytes_eq row.0.0 subject)) all_spelled
    where
      numbered : (es : List ListedVersionView) → map (row_numbered subject) (map (λ (e : ListedVersionView). (e.0.1, e.1)) (filter (λ (e : ListedVersionView). bytes_eq e.0.0 subject) es)) ≡ filter (λ (row : Row). bytes_eq row.0.0 subject) (map row_spelled es)
      numbered [] = refl
      numbered (e ∷ es) = by (bytes_eq e.0.0 subject) refl (filter (λ (x : ListedVersionView). bytes_eq x.0.0 subject) es) (filter (λ (row : Row). bytes_eq row.0.0 subject) (map row_spelled es)) (numbered es)
        where
          by : (b : Bool) → bytes_eq e.0.0 subject ≡ b → (xs : List ListedVersionView) (ys : List Row) → map (row_numbered subject) (map (λ (x : ListedVersionView). (x.0.1, x.1)) xs) ≡ ys
              → map (row_numbered subject) (map (λ (x : ListedVersionView). (x.0.1, x.1)) (cond b (e ∷ xs) xs)) ≡ cond b (row_spelled e ∷ ys) ys
          by true is xs ys h = let its : e.0.0 ≡ subject = (bytes_eq-Decides e.0.0 subject).0 is in λ i. ((sym its i, e.0.1), version_spelled e.1) ∷ h i
          by false is xs ys h = h

-- ---- subjects

all_of : {X : Type 0} (P : X → Type 0) (xs : List X) → AllByRecursion P xs → All P xs
all_of P [] h = All-nil P
all_of P (x ∷ xs) h = All-cons P x xs h.0 (all_of P xs h.1)

abbrev IsOfSubject : ListedVersionView → Type 0
IsOfSubject entry = IsTrue (is_subject entry.0.0)

module _ (contents : Contents) (g : Registry) (k : Kept) (s : IsSpelled contents g k) where
  of_subjects : All IsOfSubject (entries contents.versions)
  of_subjects = all_of IsOfSubject (entries contents.versions) (all_from IsOfSubject (entries contents.versions) (λ entry there.
      let found = entry_got version_cmp version_order contents.versions entry there in
      let it = was_written stored_version (get g.rows entry.0) entry.1 (sym (s.versions entry.0) ∙ found) in
      s.registered entry.0 it.0 it.1))

  pub all_lines : (lines : List ListedVersion) → map listed_version_view lines ≡ entries contents.versions → All HasSubject lines
  all_lines lines is = All-mapped IsOfSubject listed_version_view lines (subst (All IsOfSubject) (sym is) of_subjects)

  pub id_lines : (lines : List ListedVersion) (id : ℕ) → map listed_version_view lines ≡ id_versions id contents → All HasSubject lines
  id_lines lines id is = All-mapped IsOfSubject listed_version_view lines (subst (All IsOfSubject) (sym is) (All-filter (λ (e : ListedVersionView). e.1.id == id) IsOfSubject (entries contents.versions) of_subjects))
