-- Each version after a deletion was there before.
use Rattle.std.proofs.Common.{◌≡◌, ◌∙◌, ℕ, List, [], ◌∷◌, Bool, true, false, cond, refl, ap, sym, subst}
use Rattle.std.specs.Prelude.{All, Option, None, Some, Result, Ok, Err, not, bytes_eq, map, option_map, option_to_list, if◌then◌else◌}
use Rattle.std.specs.FinMap.{entries, get, get-remove, remove, from_entries}
use Rattle.std.specs.List.{last_or}
use Rattle.std.specs.Option.{ok_or}
use Rattle.std.proofs.lemmas.List.Elements.{All-head}
use Rattle.std.proofs.lemmas.Option.{none-some, same_Some}
use Rattle.reg_core.specs.declared.code.Code.{Code}
use Rattle.reg_core.specs.declared.code.Code.TheVariants.{SubjectSoftDeleted, VersionNotFound, VersionSoftDeleted, VersionNotSoftDeleted}
use Rattle.reg_core.specs.declared.number.VersionChoice.{VersionChoice}
use Rattle.reg_core.specs.declared.number.VersionChoice.TheVariants.{Latest, Numbered}
use Rattle.reg_core.specs.Additions.{IsRetained}
use Rattle.reg_core.specs.DeletionCommands.{require_live, require_deleted, if_found, row_to_soft_delete, row_to_remove, as_deleted, with_deleted, without_row, version_deleted, delete_version, deleted_of, soft_delete, remove_subject, delete_subject}
use Rattle.reg_core.specs.ReadCommands.{found_row}
use Rattle.reg_core.specs.Registry.{Registry, Row, RowKey, Rows, Version, row_cmp}
use Rattle.reg_core.specs.Rows.{rows_of, live_rows, chosen_row}
use Rattle.reg_core.specs.Views.{altered}
use Rattle.reg_core.proofs.ChosenRows.{All-latest, All-found}
use Rattle.reg_core.proofs.DeletedRows.{same_key, altered_at, subject_deleted_at, subject_removed_at}
use Rattle.reg_core.proofs.RowLemmas.{row_order, get_inserted, rows_of-got, All-live_rows}

-- ---- retained versions

pub itself : (rows : Rows) (key : RowKey) (version : Version) → get rows key ≡ Some version → IsRetained rows key version
itself rows key version there = record { old = version; there = there; same = refl; stays_deleted = λ d. d }

-- a version that a test may have soft-deleted was there before
deleted_was : (rows : Rows) (key : RowKey) (b : Bool) (found : Option Version) (version : Version) → get rows key ≡ found → cond b (option_map as_deleted found) found ≡ Some version → IsRetained rows key version
deleted_was rows key true None version there e = absurd (none-some version e)
deleted_was rows key true (Some old) version there e =
    let is : as_deleted old ≡ version = same_Some (as_deleted old) version e in
    record { old = old; there = there; same = ap (λ (v : Version). v.id) (sym is); stays_deleted = λ d. ap (λ (v : Version). v.deleted) (sym is) }
deleted_was rows key false found version there e = itself rows key version (there ∙ e)

pub altered_was : (rows : Rows) (key : RowKey) (q : RowKey) (version : Version) → get (altered rows key as_deleted) q ≡ Some version → IsRetained rows q version
altered_was rows key q version e = deleted_was rows q (same_key q key) (get rows q) version refl (sym (altered_at rows key as_deleted q) ∙ e)

left_was : (b : Bool) (found : Option Version) (version : Version) → cond b None found ≡ Some version → found ≡ Some version
left_was true found version e = absurd (none-some version e)
left_was false found version e = e

pub removed_was : (rows : Rows) (key : RowKey) (q : RowKey) (version : Version) → get (remove rows key) q ≡ Some version → IsRetained rows q version
removed_was rows key q version e = itself rows q version (left_was (same_key q key) (get rows q) version (sym (get-remove row_order rows key q) ∙ e))

-- ---- facts about the deleted version

found_ok : (test : Row → Result Row Code) (found : Result Row Code) (row : Row) → ((r : Row) → test r ≡ Ok row → r ≡ row) → if_found test found ≡ Ok row → found ≡ Ok row
found_ok test (Err code) row same e = e
found_ok test (Ok r) row same e = ap Ok (same r e)

live_same : (r row : Row) → require_live r ≡ Ok row → r ≡ row
live_same r row e = by r.1.deleted e
  where
    by : (b : Bool) → (if b then Err VersionSoftDeleted else Ok r) ≡ Ok row → r ≡ row
    by true h = absurd cc
    by false h = cc

deleted_same : (r row : Row) → require_deleted r ≡ Ok row → r ≡ row
deleted_same r row e = by r.1.deleted e
  where
    by : (b : Bool) → (if b then Ok r else Err VersionNotSoftDeleted) ≡ Ok row → r ≡ row
    by true h = cc
    by false h = absurd cc

All-last : (P : Row → Type 0) (rows : List Row) (row : Row) → All P rows → ok_or (last_or None rows) SubjectSoftDeleted ≡ Ok row → P row
All-last P rows row h e = by (last_or None rows) refl e
  where
    by : (o : Option Row) → last_or None rows ≡ o → ok_or o SubjectSoftDeleted ≡ Ok row → P row
    by None is k = absurd cc
    by (Some r) is k =
        let same : r ≡ row = cc in
        subst P same (All-head P r [] (subst (λ (o : Option Row). All P (option_to_list o)) is (All-latest P rows h)))

-- if `P` is true of each version, it is true of the soft-deleted one
pub All-row_to_soft_delete : (P : Row → Type 0) (choice : Option VersionChoice) (rows : List Row) (row : Row) → All P rows → row_to_soft_delete choice rows ≡ Ok row → P row
All-row_to_soft_delete P None rows row h e = absurd cc
All-row_to_soft_delete P (Some choice) [] row h e = absurd cc
All-row_to_soft_delete P (Some Latest) (r ∷ rows) row h e = All-last P (live_rows (r ∷ rows)) row (All-live_rows P (r ∷ rows) h) e
All-row_to_soft_delete P (Some (Numbered number)) (r ∷ rows) row h e =
    All-found P (Numbered number) (r ∷ rows) row h (found_ok require_live (ok_or (chosen_row (Numbered number) (r ∷ rows)) VersionNotFound) row (λ x. live_same x row) e)

-- if `P` is true of each version, it is true of the removed one
pub All-row_to_remove : (P : Row → Type 0) (choice : Option VersionChoice) (rows : List Row) (row : Row) → All P rows → row_to_remove choice rows ≡ Ok row → P row
All-row_to_remove P None rows row h e = absurd cc
All-row_to_remove P (Some choice) rows row h e = All-found P choice rows row h (found_ok require_deleted (found_row (Some choice) rows) row (λ x. deleted_same x row) e)

-- ---- after a deletion

abbrev WereThere : Registry → Rows → Type 0
WereThere g rows = (key : RowKey) (version : Version) → get rows key ≡ Some version → IsRetained g.rows key version

all_were : (g : Registry) → WereThere g g.rows
all_were g key version e = itself g.rows key version e

pub deleted_were : (g : Registry) (row : Row) → get g.rows row.0 ≡ Some row.1 → WereThere g (with_deleted g row).rows
deleted_were g row there key version e =
    get_inserted g.rows row.0 (as_deleted row.1) (IsRetained g.rows) (record { old = row.1; there = there; same = refl; stays_deleted = λ _. refl }) (itself g.rows) key version e

marked_were : (g : Registry) (found : Result Row Code) → ((row : Row) → found ≡ Ok row → get g.rows row.0 ≡ Some row.1) → WereThere g (version_deleted with_deleted g found).0.rows
marked_were g (Err code) got = all_were g
marked_were g (Ok row) got = deleted_were g row (got row refl)

removed_were : (g : Registry) (found : Result Row Code) → WereThere g (version_deleted without_row g found).0.rows
removed_were g (Err code) = all_were g
removed_were g (Ok row) = λ key version e. removed_was g.rows row.0 key version e

-- the found version is the registry's version at its key
pub row_to_soft_delete-got : (g : Registry) (subject : List ℕ) (choice : Option VersionChoice) (row : Row) → row_to_soft_delete choice (rows_of g subject) ≡ Ok row → get g.rows row.0 ≡ Some row.1
row_to_soft_delete-got g subject choice row e = All-row_to_soft_delete (λ (r : Row). get g.rows r.0 ≡ Some r.1) choice (rows_of g subject) row (rows_of-got g subject) e

pub delete_version-were : (g : Registry) (subject : List ℕ) (choice : Option VersionChoice) (permanent : Bool) → WereThere g (delete_version g subject choice permanent).0.rows
delete_version-were g subject choice false = marked_were g (row_to_soft_delete choice (rows_of g subject)) (row_to_soft_delete-got g subject choice)
delete_version-were g subject choice true = removed_were g (row_to_remove choice (rows_of g subject))

pub subject_deleted_was : (rows : Rows) (subject : List ℕ) (key : RowKey) (version : Version) → get (from_entries {R = row_cmp} (map (deleted_of subject) (entries rows))) key ≡ Some version → IsRetained rows key version
subject_deleted_was rows subject key version e = by (bytes_eq key.0 subject) (get rows key) refl (sym (subject_deleted_at rows subject key) ∙ e)
  where
    by : (b : Bool) (found : Option Version) → get rows key ≡ found → option_map (λ (v : Version). if b then as_deleted v else v) found ≡ Some version → IsRetained rows key version
    by b None there h = absurd (none-some version h)
    by true (Some old) there h = deleted_was rows key true (Some old) version there h
    by false (Some old) there h = deleted_was rows key false (Some old) version there h

kept_was : (b : Bool) (found : Option Version) (version : Version) → cond (not b) found None ≡ Some version → found ≡ Some version
kept_was true found version e = absurd (none-some version e)
kept_was false found version e = e

soft_delete-were : (g : Registry) (subject : List ℕ) (rows live : List Row) → WereThere g (soft_delete g subject rows live).0.rows
soft_delete-were g subject [] live = all_were g
soft_delete-were g subject (row ∷ rows) [] = all_were g
soft_delete-were g subject (row ∷ rows) (one ∷ live) = subject_deleted_was g.rows subject

pub remove_subject-were : (g : Registry) (subject : List ℕ) (rows live : List Row) → WereThere g (remove_subject g subject rows live).0.rows
remove_subject-were g subject [] live = all_were g
remove_subject-were g subject (row ∷ rows) (one ∷ live) = all_were g
remove_subject-were g subject (row ∷ rows) [] = λ key version e.
    itself g.rows key version (kept_was (bytes_eq key.0 subject) (get g.rows key) version (sym (subject_removed_at g.rows subject key) ∙ e))

pub delete_subject-were : (g : Registry) (subject : List ℕ) (permanent : Bool) → WereThere g (delete_subject g subject permanent).0.rows
delete_subject-were g subject false = soft_delete-were g subject (rows_of g subject) (live_rows (rows_of g subject))
delete_subject-were g subject true = remove_subject-were g subject (rows_of g subject) (live_rows (rows_of g subject))
