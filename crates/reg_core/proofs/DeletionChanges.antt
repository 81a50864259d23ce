-- The changes of a deletion give the same registry as the abstract machine.
use Rattle.std.proofs.Common.{◌≡◌, ◌∙◌, ℕ, List, [], ◌∷◌, ◌++◌, Bool, true, false, true≢false, cond, refl, ap, sym, subst}
use Rattle.std.specs.Prelude.{All, Option, None, Some, not, bytes_eq, ◌||◌, map, option_map, if◌then◌else◌}
use Rattle.std.specs.FinMap.{entries, get, remove, retain_keys, from_entries, same_map}
use Rattle.std.specs.List.{Contains}
use Rattle.std.proofs.lemmas.List.Elements.{All-nil, All-cons, All-contains}
use Rattle.std.proofs.lemmas.Slice.Eq.{bytes_eq-Decides}
use Rattle.reg_core.specs.declared.decision.Change.{Change}
use Rattle.reg_core.specs.Inside.Deleting.{version_change, own_settings_dropped}
use Rattle.reg_core.specs.Inside.Evidence.{AddNoVersion}
use Rattle.reg_core.specs.DeletionCommands.{as_deleted, with_deleted, without_row, deleted_of, with_subject_deleted, without_subject}
use Rattle.reg_core.specs.Registry.{Registry, Row, RowKey, Rows, Version, own_without}
use Rattle.reg_core.specs.Rows.{rows_of, live_rows}
use Rattle.reg_core.specs.Views.{altered, after_changes, ChangesFit}
use Rattle.reg_core.proofs.DeletedRows.{same_key, key_is, key_ties, put_back, delete_all, all_removed, is_one_of, all_deleted_at, all_removed_at, deleted_at, subject_deleted_at, subject_removed_at}
use Rattle.reg_core.proofs.RowLemmas.{row_order, row_keys_apart, got-rows_of, filter_keeps}

-- ---- one version

key_of : (subject : List ℕ) (row : Row) → row.0.0 ≡ subject → (subject, row.0.1) ≡ row.0
key_of subject row its = λ i. (sym its i, row.0.1)

pub deleted_as : (g : Registry) (subject : List ℕ) (row : Row) → row.0.0 ≡ subject → get g.rows row.0 ≡ Some row.1 → after_changes (version_change false subject row.0.1 ∷ []) g ≡ with_deleted g row
deleted_as g subject row its there =
    ap (λ (key : RowKey). record g { rows = altered g.rows key as_deleted }) (key_of subject row its)
    ∙ ap (λ (found : Option Version). record g { rows = put_back g.rows row.0 as_deleted found }) there

pub removed_as : (g : Registry) (subject : List ℕ) (row : Row) → row.0.0 ≡ subject → after_changes (version_change true subject row.0.1 ∷ []) g ≡ without_row g row
removed_as g subject row its = ap (λ (key : RowKey). record g { rows = remove g.rows key }) (key_of subject row its)

-- ---- the versions of a subject

abbrev keys_of : List ℕ → List Row → List RowKey
keys_of subject rows = map (λ (row : Row). (subject, row.0.1)) rows

abbrev pub changes_of : Bool → List ℕ → List Row → List Change
changes_of permanent subject rows = map (λ (row : Row). version_change permanent subject row.0.1) rows

-- the changes can be applied to any registry, in order
pub changes_of-fit : (permanent : Bool) (subject : List ℕ) (rows : List Row) (g : Registry) → ChangesFit (changes_of permanent subject rows ++ own_settings_dropped permanent subject) g
changes_of-fit false subject [] g = (tt, tt)
changes_of-fit true subject [] g = (tt, (tt, tt))
changes_of-fit false subject (row ∷ rows) g = (tt, changes_of-fit false subject rows _)
changes_of-fit true subject (row ∷ rows) g = (tt, changes_of-fit true subject rows _)

-- the changes add no version
pub changes_of-add_none : (permanent : Bool) (subject : List ℕ) (rows : List Row) → AddNoVersion (changes_of permanent subject rows ++ own_settings_dropped permanent subject)
changes_of-add_none false subject [] = (tt, tt)
changes_of-add_none true subject [] = (tt, (tt, tt))
changes_of-add_none false subject (row ∷ rows) = (tt, changes_of-add_none false subject rows)
changes_of-add_none true subject (row ∷ rows) = (tt, changes_of-add_none true subject rows)

changes_deleted : (g : Registry) (subject : List ℕ) (rows : List Row) (rest : List Change) → after_changes (changes_of false subject rows ++ rest) g ≡ after_changes rest (record g { rows = delete_all g.rows (keys_of subject rows) })
changes_deleted g subject [] rest = refl
changes_deleted g subject (row ∷ rows) rest = changes_deleted (record g { rows = altered g.rows (subject, row.0.1) as_deleted }) subject rows rest

changes_removed : (g : Registry) (subject : List ℕ) (rows : List Row) (rest : List Change) → after_changes (changes_of true subject rows ++ rest) g ≡ after_changes rest (record g { rows = all_removed g.rows (keys_of subject rows) })
changes_removed g subject [] rest = refl
changes_removed g subject (row ∷ rows) rest = changes_removed (record g { rows = remove g.rows (subject, row.0.1) }) subject rows rest

-- each of these keys is the subject's
of_subject : (subject : List ℕ) (rows : List Row) (q : RowKey) → is_one_of (keys_of subject rows) q ≡ true → q.0 ≡ subject
of_subject subject [] q e = absurd (true≢false (sym e))
of_subject subject (row ∷ rows) q e = by (same_key q (subject, row.0.1)) refl e (of_subject subject rows q)
  where
    by : (b : Bool) → same_key q (subject, row.0.1) ≡ b → (b || is_one_of (keys_of subject rows) q) ≡ true → (is_one_of (keys_of subject rows) q ≡ true → q.0 ≡ subject) → q.0 ≡ subject
    by true is h rest = ap (λ (key : RowKey). key.0) (key_is q (subject, row.0.1) is)
    by false is h rest = rest h

-- the key of each of the subject's versions is one of these
among : (subject : List ℕ) (rows : List Row) (q : RowKey) (version : Version) → q.0 ≡ subject → Contains rows (q, version) → is_one_of (keys_of subject rows) q ≡ true
among subject rows q version its there = All-contains (λ (row : Row). row.0 ≡ q → is_one_of (keys_of subject rows) q ≡ true) rows (q, version) (each rows) there refl
  where
    or_right : (b : Bool) (c : Bool) → c ≡ true → (b || c) ≡ true
    or_right true c h = refl
    or_right false c h = h

    first : (row : Row) (rs : List Row) → row.0 ≡ q → is_one_of (keys_of subject (row ∷ rs)) q ≡ true
    first row rs is =
        let key : q ≡ (subject, row.0.1) = λ i. (its i, ap (λ (k : RowKey). k.1) (sym is) i) in
        ap (λ b. b || is_one_of (keys_of subject rs) q) (key_ties q (subject, row.0.1) key)

    each : (rs : List Row) → All (λ (row : Row). row.0 ≡ q → is_one_of (keys_of subject rs) q ≡ true) rs
    each [] = All-nil (λ (row : Row). row.0 ≡ q → is_one_of [] q ≡ true)
    each (row ∷ rs) = All-cons (λ (r : Row). r.0 ≡ q → is_one_of (keys_of subject (row ∷ rs)) q ≡ true) row rs (first row rs) (λ k d lt h. or_right (same_key q (subject, row.0.1)) (is_one_of (keys_of subject rs) q) (each rs k d lt h))

-- ---- soft deletion of a subject

module _ (g : Registry) (subject : List ℕ) where
  abbrev live : List Row
  live = live_rows (rows_of g subject)

  -- the deleted versions include each live version of the subject
  live_among : (q : RowKey) (version : Version) → q.0 ≡ subject → get g.rows q ≡ Some version → version.deleted ≡ false → is_one_of (keys_of subject live) q ≡ true
  live_among q version its there alive =
      let here : get g.rows (subject, q.1) ≡ Some version = ap (λ (s : List ℕ). get g.rows (s, q.1)) (sym its) ∙ there in
      let key : (subject, q.1) ≡ q = λ i. (sym its i, q.1) in
      among subject live q version its
      (subst (λ (k : RowKey). Contains live (k, version)) key
      (filter_keeps (λ (row : Row). not row.1.deleted) (rows_of g subject) ((subject, q.1), version) (got-rows_of g subject q.1 version here) (ap not alive)))

  agrees : (q : RowKey) → cond (is_one_of (keys_of subject live) q) (option_map as_deleted (get g.rows q)) (get g.rows q) ≡ option_map (deleted_at subject q) (get g.rows q)
  agrees q = by (is_one_of (keys_of subject live) q) refl (bytes_eq q.0 subject) refl (get g.rows q) refl
    where
      by : (one : Bool) → is_one_of (keys_of subject live) q ≡ one → (its : Bool) → bytes_eq q.0 subject ≡ its → (found : Option Version) → get g.rows q ≡ found
          → cond one (option_map as_deleted found) found ≡ option_map (λ (version : Version). if its then as_deleted version else version) found
      by one is its same None there = elim one as (λ b. cond b (option_map as_deleted None) None ≡ None) [ true ↦ refl | false ↦ refl ]
      by true is true same (Some version) there = refl
      by true is false same (Some version) there = absurd (true≢false (sym ((bytes_eq-Decides q.0 subject).1 (of_subject subject live q is)) ∙ same))
      by false is false same (Some version) there = refl
      by false is true same (Some version) there = already version.deleted refl
        where
          already : (b : Bool) → version.deleted ≡ b → Some version ≡ Some (as_deleted version)
          already true e = λ i. Some (record { id = version.id; deleted = e i })
          already false e = absurd (true≢false (sym (live_among q version ((bytes_eq-Decides q.0 subject).0 same) there e) ∙ is))

  -- soft-deleting the live versions in order and removing the own level soft-deletes the subject
  pub subject_deleted_as : after_changes (changes_of false subject live ++ own_settings_dropped false subject) g ≡ with_subject_deleted g subject
  subject_deleted_as =
      changes_deleted g subject live (own_settings_dropped false subject)
      ∙ ap (λ (rows : Rows). record g { rows = rows; own = own_without g.own subject })
      (same_map row_order row_keys_apart (delete_all g.rows (keys_of subject live)) (from_entries (map (deleted_of subject) (entries g.rows)))
      (λ q. all_deleted_at (keys_of subject live) g.rows q ∙ agrees q ∙ sym (subject_deleted_at g.rows subject q)))

-- ---- permanent deletion of a subject

module _ (g : Registry) (subject : List ℕ) where
  abbrev all : List Row
  all = rows_of g subject

  all_among : (q : RowKey) (version : Version) → q.0 ≡ subject → get g.rows q ≡ Some version → is_one_of (keys_of subject all) q ≡ true
  all_among q version its there =
      let here : get g.rows (subject, q.1) ≡ Some version = ap (λ (s : List ℕ). get g.rows (s, q.1)) (sym its) ∙ there in
      let key : (subject, q.1) ≡ q = λ i. (sym its i, q.1) in
      among subject all q version its (subst (λ (k : RowKey). Contains all (k, version)) key (got-rows_of g subject q.1 version here))

  leaves : (q : RowKey) → cond (is_one_of (keys_of subject all) q) None (get g.rows q) ≡ cond (not (bytes_eq q.0 subject)) (get g.rows q) None
  leaves q = by (is_one_of (keys_of subject all) q) refl (bytes_eq q.0 subject) refl (get g.rows q) refl
    where
      by : (one : Bool) → is_one_of (keys_of subject all) q ≡ one → (its : Bool) → bytes_eq q.0 subject ≡ its → (found : Option Version) → get g.rows q ≡ found → cond one None found ≡ cond (not its) found None
      by true is true same found there = refl
      by true is false same found there = absurd (true≢false (sym ((bytes_eq-Decides q.0 subject).1 (of_subject subject all q is)) ∙ same))
      by false is false same found there = refl
      by false is true same None there = refl
      by false is true same (Some version) there = absurd (true≢false (sym (all_among q version ((bytes_eq-Decides q.0 subject).0 same) there) ∙ is))

  -- removing the versions in order, the own level and the own mode removes the subject
  pub subject_removed_as : after_changes (changes_of true subject all ++ own_settings_dropped true subject) g ≡ without_subject g subject
  subject_removed_as =
      changes_removed g subject all (own_settings_dropped true subject)
      ∙ ap (λ (rows : Rows). record g { rows = rows; own = own_without g.own subject; own_modes = own_without g.own_modes subject })
      (same_map row_order row_keys_apart (all_removed g.rows (keys_of subject all)) (retain_keys g.rows (λ (key : RowKey). not (bytes_eq key.0 subject)))
      (λ q. all_removed_at (keys_of subject all) g.rows q ∙ leaves q ∙ sym (subject_removed_at g.rows subject q)))
