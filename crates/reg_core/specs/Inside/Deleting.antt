-- The changes of deletions.
use Rattle.std.specs.Prelude.{ℕ, Bool, true, false, List, [], ◌∷◌, Option, None, Some}
use Rattle.reg_core.specs.declared.code.Code.{Code}
use Rattle.reg_core.specs.declared.code.Code.TheVariants.{SubjectNotFound, SubjectSoftDeleted, SubjectNotSoftDeleted}
use Rattle.reg_core.specs.Registry.{Row}
use Rattle.reg_core.specs.declared.decision.Change.{Change}
use Rattle.reg_core.specs.declared.decision.Change.TheVariants.{MarkDeleted, Remove, DropLevel, DropMode}

-- this project's choice: the change that soft-deletes a version of a subject, or with `permanent` removes it
abbrev pub version_change : Bool → List ℕ → ℕ → Change
version_change false subject version = MarkDeleted subject version
version_change true subject version = Remove subject version

-- the code if a subject with these versions and these live ones can't be soft-deleted, or with `permanent` removed; else `None`
abbrev pub subject_refusal : Bool → List Row → List Row → Option Code
subject_refusal false [] live = Some SubjectNotFound
subject_refusal false (row ∷ rows) [] = Some SubjectSoftDeleted
subject_refusal false (row ∷ rows) (one ∷ live) = None
subject_refusal true [] live = Some SubjectNotFound
subject_refusal true (row ∷ rows) [] = None
subject_refusal true (row ∷ rows) (one ∷ live) = Some SubjectNotSoftDeleted

-- this project's choice: the changes that remove a subject's own level, and with `permanent` its own mode
abbrev pub own_settings_dropped : Bool → List ℕ → List Change
own_settings_dropped false subject = DropLevel subject ∷ []
own_settings_dropped true subject = DropLevel subject ∷ DropMode subject ∷ []
