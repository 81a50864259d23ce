-- The registry and the reply after a command that deletes.
use Rattle.std.proofs.Common.{◌≡◌, ◌∙◌, ℕ, List, [], ◌∷◌, ◌++◌, Bool, true, false, refl, ap, sym}
use Rattle.std.specs.Prelude.{Option, None, Some, Ok, Err, not, ◌||◌}
use Rattle.std.proofs.lemmas.Option.{none-some, same_Some}
use Rattle.avro_nodes.specs.Nodes.{NodeView}
use Rattle.reg_core.specs.declared.code.Code.{Code}
use Rattle.reg_core.specs.declared.code.Code.TheVariants.{SubjectNotFound, SubjectSoftDeleted, SubjectNotSoftDeleted}
use Rattle.reg_core.specs.declared.command.Command.TheVariants.{DeleteVersion, DeleteSubject}
use Rattle.reg_core.specs.declared.decision.View.{View}
use Rattle.reg_core.specs.Inside.Deleting.{version_change, own_settings_dropped, subject_refusal}
use Rattle.reg_core.specs.DeletionCommands.{row_to_delete, with_deleted, without_row, version_deleted, delete_version, with_subject_deleted, without_subject, numbers_reply, soft_delete, remove_subject, delete_subject}
use Rattle.reg_core.specs.Bodies.{number_body}
use Rattle.reg_core.specs.Machine.{permitted_step}
use Rattle.reg_core.specs.Numbers.{parse_choice}
use Rattle.reg_core.specs.Replies.{ReplyView, success, fault}
use Rattle.reg_core.specs.Registry.{Registry, Row}
use Rattle.reg_core.specs.Rows.{rows_of, visible_rows, live_rows}
use Rattle.reg_core.specs.Views.{after_changes, IsDecisionInput}
use Rattle.reg_core.proofs.ChosenRows.{filter_all}
use Rattle.reg_core.proofs.DeletionLemmas.{All-row_to_soft_delete, All-row_to_remove, row_to_soft_delete-got}
use Rattle.reg_core.proofs.RowLemmas.{rows_of-subject}
use Rattle.reg_core.proofs.DeletionChanges.{deleted_as, removed_as, changes_of, subject_deleted_as, subject_removed_as}

-- with `deleted`, all versions are shown
pub all_shown : (rows : List Row) → visible_rows true rows ≡ rows
all_shown rows = filter_all (λ (row : Row). true || not row.1.deleted) rows (λ k d lt. refl)

module _ (g : Registry) (subject version : List ℕ) (permanent : Bool) (view : View) (schema : Option (List NodeView)) (input : IsDecisionInput g (DeleteVersion subject version permanent) schema view) where
  -- the command rejects a version that can't be deleted
  pub deletion_refused : (code : Code) → Err code ≡ row_to_delete permanent (parse_choice version) view.rows.items → permitted_step g (DeleteVersion subject version permanent) ≡ (g, fault code)
  unfolding permitted_step
  deletion_refused code is = by permanent (is ∙ input.shows.rows)
    where
      by : (b : Bool) → Err code ≡ row_to_delete b (parse_choice version) (rows_of g subject) → delete_version g subject (parse_choice version) b ≡ (g, fault code)
      by false e = ap (version_deleted with_deleted g) (sym e)
      by true e = ap (version_deleted without_row g) (sym e)

  -- else a single change deletes the version, and the reply has its number
  pub version_gone : (row : Row) → Ok row ≡ row_to_delete permanent (parse_choice version) view.rows.items
      → permitted_step g (DeleteVersion subject version permanent) ≡ (after_changes (version_change permanent subject row.0.1 ∷ []) g, success (number_body row.0.1))
  unfolding permitted_step
  version_gone row is = by permanent (is ∙ input.shows.rows)
    where
      by : (b : Bool) → Ok row ≡ row_to_delete b (parse_choice version) (rows_of g subject) → delete_version g subject (parse_choice version) b ≡ (after_changes (version_change b subject row.0.1 ∷ []) g, success (number_body row.0.1))
      by false e =
          let its = All-row_to_soft_delete (λ (r : Row). r.0.0 ≡ subject) (parse_choice version) (rows_of g subject) row (rows_of-subject g subject) (sym e) in
          ap (version_deleted with_deleted g) (sym e) ∙ ap (λ (after : Registry). (after, success (number_body row.0.1))) (sym (deleted_as g subject row its (row_to_soft_delete-got g subject (parse_choice version) row (sym e))))
      by true e =
          let its = All-row_to_remove (λ (r : Row). r.0.0 ≡ subject) (parse_choice version) (rows_of g subject) row (rows_of-subject g subject) (sym e) in
          ap (version_deleted without_row g) (sym e) ∙ ap (λ (after : Registry). (after, success (number_body row.0.1))) (sym (removed_as g subject row its))

module _ (g : Registry) (subject : List ℕ) (permanent : Bool) (view : View) (schema : Option (List NodeView)) (input : IsDecisionInput g (DeleteSubject subject permanent) schema view) where
  abbrev goes : Bool → List Row → List Row → Registry × ReplyView
  goes false rows live = soft_delete g subject rows live
  goes true rows live = remove_subject g subject rows live

  -- the command rejects a subject that can't be deleted
  pub subject_refused : (code : Code) → Some code ≡ subject_refusal permanent view.rows.items (live_rows view.rows.items) → permitted_step g (DeleteSubject subject permanent) ≡ (g, fault code)
  unfolding permitted_step
  subject_refused code is = start permanent (is ∙ ap (λ (rows : List Row). subject_refusal permanent rows (live_rows rows)) input.shows.rows)
    where
      told : Code → Registry × ReplyView
      told why = (g, fault why)

      refused : (why : Code) → Some code ≡ Some why → told why ≡ told code
      refused why e = ap told (sym (same_Some code why e))

      by : (b : Bool) (rows live : List Row) → Some code ≡ subject_refusal b rows live → goes b rows live ≡ (g, fault code)
      by false [] live e = refused SubjectNotFound e
      by false (row ∷ rows) [] e = refused SubjectSoftDeleted e
      by false (row ∷ rows) (one ∷ live) e = absurd (none-some code (sym e))
      by true [] live e = refused SubjectNotFound e
      by true (row ∷ rows) [] e = absurd (none-some code (sym e))
      by true (row ∷ rows) (one ∷ live) e = refused SubjectNotSoftDeleted e

      start : (b : Bool) → Some code ≡ subject_refusal b (rows_of g subject) (live_rows (rows_of g subject)) → delete_subject g subject b ≡ (g, fault code)
      start false e = by false (rows_of g subject) (live_rows (rows_of g subject)) e
      start true e = by true (rows_of g subject) (live_rows (rows_of g subject)) e

-- else these changes delete the subject, and the reply has the numbers
module _ (g : Registry) (subject : List ℕ) (view : View) (schema : Option (List NodeView)) where
  pub subject_gone : IsDecisionInput g (DeleteSubject subject false) schema view → None ≡ subject_refusal false view.rows.items (live_rows view.rows.items)
      → permitted_step g (DeleteSubject subject false) ≡ (after_changes (changes_of false subject (live_rows view.rows.items) ++ own_settings_dropped false subject) g, numbers_reply (live_rows view.rows.items))
  unfolding permitted_step
  subject_gone input is =
      by (rows_of g subject) (live_rows (rows_of g subject)) (is ∙ ap (λ (rows : List Row). subject_refusal false rows (live_rows rows)) input.shows.rows)
      ∙ ap (λ (after : Registry). (after, numbers_reply (live_rows (rows_of g subject)))) (sym (subject_deleted_as g subject))
      ∙ ap (λ (rows : List Row). (after_changes (changes_of false subject (live_rows rows) ++ own_settings_dropped false subject) g, numbers_reply (live_rows rows))) (sym input.shows.rows)
    where
      by : (rows live : List Row) → None ≡ subject_refusal false rows live → soft_delete g subject rows live ≡ (with_subject_deleted g subject, numbers_reply live)
      by [] live e = absurd (none-some SubjectNotFound e)
      by (row ∷ rows) [] e = absurd (none-some SubjectSoftDeleted e)
      by (row ∷ rows) (one ∷ live) e = refl

  pub subject_removed : IsDecisionInput g (DeleteSubject subject true) schema view → None ≡ subject_refusal true view.rows.items (live_rows view.rows.items)
      → permitted_step g (DeleteSubject subject true) ≡ (after_changes (changes_of true subject view.rows.items ++ own_settings_dropped true subject) g, numbers_reply view.rows.items)
  unfolding permitted_step
  subject_removed input is =
      by (rows_of g subject) (live_rows (rows_of g subject)) (is ∙ ap (λ (rows : List Row). subject_refusal true rows (live_rows rows)) input.shows.rows)
      ∙ ap (λ (after : Registry). (after, numbers_reply (rows_of g subject))) (sym (subject_removed_as g subject))
      ∙ ap (λ (rows : List Row). (after_changes (changes_of true subject rows ++ own_settings_dropped true subject) g, numbers_reply rows)) (sym input.shows.rows)
    where
      by : (rows live : List Row) → None ≡ subject_refusal true rows live → remove_subject g subject rows live ≡ (without_subject g subject, numbers_reply rows)
      by [] live e = absurd (none-some SubjectNotFound e)
      by (row ∷ rows) [] e = refl
      by (row ∷ rows) (one ∷ live) e = absurd (none-some SubjectNotSoftDeleted e)
