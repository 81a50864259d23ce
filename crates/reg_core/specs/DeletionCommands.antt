-- Commands that delete versions and subjects, softly or permanently. Each definition lists its refusals in order.
-- (This project's choice: that order, and the codes 40404 to 40407.)
use Rattle.std.specs.Prelude.{ℕ, Bool, true, false, not, List, [], ◌∷◌, bytes_eq, map, if◌then◌else◌, Option, None, Some, Result, Ok, Err}
use Rattle.std.specs.FinMap.{entries, insert, remove, retain_keys, from_entries}
use Rattle.std.specs.List.{last_or}
use Rattle.std.specs.Option.{ok_or}
use Rattle.reg_core.specs.declared.code.Code.{Code}
use Rattle.reg_core.specs.declared.code.Code.TheVariants.{InvalidVersion, SubjectNotFound, VersionNotFound, SubjectSoftDeleted, SubjectNotSoftDeleted, VersionSoftDeleted, VersionNotSoftDeleted}
use Rattle.reg_core.specs.declared.number.VersionChoice.{VersionChoice}
use Rattle.reg_core.specs.declared.number.VersionChoice.TheVariants.{Latest, Numbered}
use Rattle.reg_core.specs.Registry.{Registry, Row, RowKey, Version, own_without}
use Rattle.reg_core.specs.Replies.{ReplyView, success, fault}
use Rattle.reg_core.specs.Rows.{rows_of, live_rows, chosen_row}
use Rattle.reg_core.specs.ReadCommands.{found_row}
use Rattle.reg_core.specs.Bodies.{number_body, numbers_body}

-- ---- a version

-- this project's choice: rejects a version that is already soft-deleted with 40406
abbrev pub require_live : Row → Result Row Code
require_live row = if row.1.deleted then Err VersionSoftDeleted else Ok row

-- Schema Registry API reference, DELETE /subjects/{subject}/versions/{version}, `permanent`: only a soft-deleted version can be removed.
-- (This project's choice: rejects any other with 40407.)
abbrev pub require_deleted : Row → Result Row Code
require_deleted row = if row.1.deleted then Ok row else Err VersionNotSoftDeleted

-- the test's result for a version that was found; the code if none was found
abbrev pub if_found : (Row → Result Row Code) → Result Row Code → Result Row Code
if_found test (Err code) = Err code
if_found test (Ok row) = test row

-- Schema Registry API reference, DELETE /subjects/{subject}/versions/{version}: the version to soft-delete, or the code of the refusal; `latest` is
-- the last live one, and a number must be that of a live one. (This project's choice: if versions exist but none is live, `latest` gets 40404.)
abbrev pub row_to_soft_delete : Option VersionChoice → List Row → Result Row Code
row_to_soft_delete None rows = Err InvalidVersion
row_to_soft_delete (Some choice) [] = Err SubjectNotFound
row_to_soft_delete (Some Latest) (row ∷ rows) = ok_or (last_or None (live_rows (row ∷ rows))) SubjectSoftDeleted
row_to_soft_delete (Some (Numbered number)) (row ∷ rows) = if_found require_live (ok_or (chosen_row (Numbered number) (row ∷ rows)) VersionNotFound)

-- The same with `permanent`: the soft-deleted version to remove, or the code of the refusal. (This project's choice: `latest` is the last version,
-- soft-deleted or not. A live version gets 40407, also if a number names it.)
abbrev pub row_to_remove : Option VersionChoice → List Row → Result Row Code
row_to_remove choice rows = if_found require_deleted (found_row choice rows)

-- the version to soft-delete, or with `permanent` to remove, or the code of the refusal
abbrev pub row_to_delete : Bool → Option VersionChoice → List Row → Result Row Code
row_to_delete false choice rows = row_to_soft_delete choice rows
row_to_delete true choice rows = row_to_remove choice rows

-- Schema Registry API reference, Subjects: the version, soft-deleted
abbrev pub as_deleted : Version → Version
as_deleted version = record version { deleted = true }

-- the registry with the version soft-deleted
abbrev pub with_deleted : Registry → Row → Registry
with_deleted g row = record g { rows = insert g.rows row.0 (as_deleted row.1) }

-- the registry without the version
abbrev pub without_row : Registry → Row → Registry
without_row g row = record g { rows = remove g.rows row.0 }

-- changes the found version, and replies with its number; else replies with the code
abbrev pub version_deleted : (Registry → Row → Registry) → Registry → Result Row Code → Registry × ReplyView
version_deleted change g (Err code) = (g, fault code)
version_deleted change g (Ok row) = (change g row, success (number_body row.0.1))

-- Schema Registry API reference, DELETE /subjects/{subject}/versions/{version}: soft-deletes the chosen version, which must be live (`latest` is the
-- last live one). With `permanent`, removes the chosen version, which must be soft-deleted (`latest` is the last of all). Replies with the version's
-- number. A refusal, also of an invalid choice (`None`), changes nothing.
abbrev pub delete_version : Registry → List ℕ → Option VersionChoice → Bool → Registry × ReplyView
delete_version g subject choice false = version_deleted with_deleted g (row_to_soft_delete choice (rows_of g subject))
delete_version g subject choice true = version_deleted without_row g (row_to_remove choice (rows_of g subject))

-- ---- a subject

-- the version, soft-deleted if it is the subject's
abbrev pub deleted_of : List ℕ → Row → Row
deleted_of subject row = (row.0, if bytes_eq row.0.0 subject then as_deleted row.1 else row.1)

-- Schema Registry API reference, DELETE /subjects/{subject}: the registry with all of the subject's versions soft-deleted, and without its own level.
-- (This project's choice: the soft deletion removes the subject's own level, and keeps its own mode.)
abbrev pub with_subject_deleted : Registry → List ℕ → Registry
with_subject_deleted g subject = record g { rows = from_entries (map (deleted_of subject) (entries g.rows)); own = own_without g.own subject }

-- The same with `permanent`: the registry without the subject's versions. (This project's choice: it removes its own level and its own mode too.)
abbrev pub without_subject : Registry → List ℕ → Registry
without_subject g subject = record g { rows = retain_keys g.rows (λ (key : RowKey). not (bytes_eq key.0 subject)); own = own_without g.own subject; own_modes = own_without g.own_modes subject }

-- the reply with the numbers of these versions
abbrev pub numbers_reply : List Row → ReplyView
numbers_reply rows = success (numbers_body (map (λ (row : Row). row.0.1) rows))

-- Schema Registry API reference, DELETE /subjects/{subject}, by the subject's versions and its live ones: the reply has the numbers of the live ones.
-- If there are no versions, rejects with 40401. (This project's choice: if there are versions, but none is live, with 40404.)
abbrev pub soft_delete : Registry → List ℕ → List Row → List Row → Registry × ReplyView
soft_delete g subject [] live = (g, fault SubjectNotFound)
soft_delete g subject (row ∷ rows) [] = (g, fault SubjectSoftDeleted)
soft_delete g subject (row ∷ rows) (one ∷ live) = (with_subject_deleted g subject, numbers_reply (one ∷ live))

-- The same with `permanent`: the reply has the numbers of all versions. (This project's choice: if one is live, 40405.)
abbrev pub remove_subject : Registry → List ℕ → List Row → List Row → Registry × ReplyView
remove_subject g subject [] live = (g, fault SubjectNotFound)
remove_subject g subject (row ∷ rows) (one ∷ live) = (g, fault SubjectNotSoftDeleted)
remove_subject g subject (row ∷ rows) [] = (without_subject g subject, numbers_reply (row ∷ rows))

-- Schema Registry API reference, DELETE /subjects/{subject}: soft-deletes the subject, or with `permanent` removes it
abbrev pub delete_subject : Registry → List ℕ → Bool → Registry × ReplyView
delete_subject g subject false = soft_delete g subject (rows_of g subject) (live_rows (rows_of g subject))
delete_subject g subject true = remove_subject g subject (rows_of g subject) (live_rows (rows_of g subject))
