-- The writes outside `keyed`, in both schemas of layout 2: inserting a text, and marking or deleting a version.
use Rattle.std.proofs.Common.{◌≡◌, ◌<◌, ◌^◌, pos, ℕ, List, [], ◌∷◌, None, Some, Ok, Err}
use Rattle.reg_tables.proofs.Kit.{get, State, Executes, ExecutesInside, Error, Int, Text}
use Rattle.reg_tables.specs.Contents.{version_key_cells, Contents, HoldsContents}
use Rattle.reg_tables.specs.Changes.{with_text, marking_deleted, without_version}
use Rattle.reg_tables.specs.Writing.{ForHeldContents, Changes, ChangesIf}
use Rattle.reg_tables.specs.FailedCalls.{IsFault, IsPutFault, IsInsertFault}
use Rattle.reg_tables.proofs.WellDeclared.{in_layout_two}
use Rattle.reg_tables.proofs.Statements.{put_text, mark_version, drop_version}
use Rattle.reg_tables.proofs.TableWrites.{puts_text, marks_version}
use Rattle.reg_tables.proofs.FailedVersions.{put_text_fails}
use Rattle.reg_tables.proofs.FailedMarks.{mark_version_fails}
use Rattle.reg_tables.proofs.DroppedVersions.{drops_version, drop_version_fails}

module _ (old new : State) where
  pub puts_text_in : (count id : ℕ) (text : List ℕ) → Executes put_text (Int (pos id) ∷ Text text ∷ []) old new (Ok count) → ChangesIf old new (λ contents. get contents.texts id ≡ None) (with_text id text)
  puts_text_in count id text ran = in_layout_two (λ schema. (contents : Contents) → HoldsContents schema old.now contents → get contents.texts id ≡ None → HoldsContents schema new.now (with_text id text contents))
      (λ first indexes high s contents holds free. puts_text first indexes s old new count contents holds id text free ran)

  pub put_text_fails_in : (e : Error) (id : ℕ) (text : List ℕ) → id < 2 ^ 32 → ExecutesInside 0 put_text (Int (pos id) ∷ Text text ∷ []) old new (Err e)
      → ForHeldContents old (λ contents. get contents.texts id ≡ None → ((other : ℕ) → get contents.texts other ≡ Some text → ⊥) → IsPutFault old new e)
  put_text_fails_in e id text low ran = in_layout_two (λ schema. (contents : Contents) → HoldsContents schema old.now contents → get contents.texts id ≡ None → ((other : ℕ) → get contents.texts other ≡ Some text → ⊥) → IsPutFault old new e)
      (λ first indexes high s contents holds free unheld. put_text_fails first indexes high s old new contents holds e id text low free unheld ran)

  pub marks_version_in : (count : ℕ) (key : List ℕ × ℕ) → Executes mark_version (version_key_cells key) old new (Ok count) → Changes old new (marking_deleted key)
  marks_version_in count key ran = in_layout_two (λ schema. (contents : Contents) → HoldsContents schema old.now contents → HoldsContents schema new.now (marking_deleted key contents)) (λ first indexes high s contents holds. marks_version first indexes s old new count contents holds key ran)

  pub mark_version_fails_in : (e : Error) (key : List ℕ × ℕ) → ExecutesInside 0 mark_version (version_key_cells key) old new (Err e) → ForHeldContents old (λ contents. IsInsertFault old new e)
  mark_version_fails_in e key ran = in_layout_two (λ schema. (contents : Contents) → HoldsContents schema old.now contents → IsInsertFault old new e) (λ first indexes high s contents holds. mark_version_fails first indexes high s old new contents holds e key ran)

  -- deleting a version deletes its evidence
  pub drops_version_in : (count : ℕ) (key : List ℕ × ℕ) → Executes drop_version (version_key_cells key) old new (Ok count) → Changes old new (without_version key)
  drops_version_in count key ran = in_layout_two (λ schema. (contents : Contents) → HoldsContents schema old.now contents → HoldsContents schema new.now (without_version key contents)) (λ first indexes high s contents holds. drops_version first high indexes s old new contents holds key count ran)

  pub drop_version_fails_in : (e : Error) (key : List ℕ × ℕ) → ExecutesInside 0 drop_version (version_key_cells key) old new (Err e) → ForHeldContents old (λ contents. IsFault old new e)
  drop_version_fails_in e key ran = in_layout_two (λ schema. (contents : Contents) → HoldsContents schema old.now contents → IsFault old new e) (λ first indexes high s contents holds. drop_version_fails first high indexes s old new contents holds key e ran)
