-- What soft-deleting or removing a version, and dropping a level, do to what the tables spell.
use Rattle.std.proofs.Common.{◌≡◌, ◌∙◌, ℕ, inl, inr, List, Bool, true, false, cond, Option, Some, None, refl, sym, ap}
use Rattle.std.specs.Prelude.{bytes_eq, option_map}
use Rattle.std.specs.FinMap.{FinMap, get, remove}
use Rattle.std.proofs.lemmas.Option.{none-some}
use Rattle.sqlite.specs.State.{State}
use Rattle.reg_core.specs.declared.decision.Change.TheVariants.{MarkDeleted, Remove, DropLevel}
use Rattle.reg_core.specs.DeletionCommands.{as_deleted}
use Rattle.reg_core.specs.KeptReplies.{Kept}
use Rattle.reg_core.specs.Levels.{level_text}
use Rattle.reg_core.specs.Registry.{Rows, RowKey, Version, Registry, own_without, row_cmp}
use Rattle.reg_core.specs.Views.{altered, after_change}
use Rattle.reg_core.proofs.DeletionLemmas.{altered_was, removed_was}
use Rattle.reg_core.proofs.RegistryLemmas.{fewer-IsRegistry, levels-IsRegistry}
use Rattle.reg_tables.specs.Contents.{version_cmp, VersionEntryView, Contents}
use Rattle.reg_tables.specs.Changes.{without_level, without_version, marking_deleted}
use Rattle.reg_tables.specs.Writing.{Changes}
use Rattle.reg_tables.specs.Changes as tables
use Rattle.reg_tables.proofs.MapLemmas.{get-altered-same, get-altered-other, same_or_not}
use Rattle.reg_tables.proofs.KeyedTables.{version_order}
use Rattle.reg_store.specs.Inside.Applying.{StoresChange}
use Rattle.reg_store.specs.Spells.{IsSpelled, stored_version}
use Rattle.reg_store.proofs.Maps.{remove_both, remove_each}
use Rattle.reg_store.proofs.Evidence.{evidence_left}
use Rattle.reg_store.proofs.SpelledTwo.{spelled_in, changed}

marked_row : (found : Option Version) → option_map tables.as_deleted (option_map stored_version found) ≡ option_map stored_version (option_map as_deleted found)
marked_row None = refl
marked_row (Some version) = refl

module _ (m : FinMap version_cmp VersionEntryView) (rows : Rows) (same : (key : RowKey) → get m key ≡ option_map stored_version (get rows key)) (key : RowKey) where
  deleted_both : (q : RowKey) → get (tables.altered m key tables.as_deleted) q ≡ option_map stored_version (get (altered rows key as_deleted) q)
  deleted_both q = elim (same_or_not row_cmp version_order q key) [
    | inl e ↦ ap (get (tables.altered m key tables.as_deleted)) e ∙ get-altered-same version_cmp version_order m key tables.as_deleted ∙ ap (option_map tables.as_deleted) (same key) ∙ marked_row (get rows key) ∙ sym (ap (option_map stored_version) (ap (get (altered rows key as_deleted)) e ∙ get-altered-same row_cmp version_order rows key as_deleted))
    | inr other ↦ get-altered-other version_cmp version_order m key tables.as_deleted q other ∙ same q ∙ sym (ap (option_map stored_version) (get-altered-other row_cmp version_order rows key as_deleted q other))
  ]

-- a remaining level or mode was there before
pub left_value : {A : Type 0} (b : Bool) (found : Option A) (value : A) → cond b None found ≡ Some value → found ≡ Some value
left_value true found value e = absurd (none-some value e)
left_value false found value e = e

module _ (contents : Contents) (g : Registry) (k : Kept) (s : IsSpelled contents g k) where
  spelled_deleted : (subject : List ℕ) (number : ℕ) → IsSpelled (marking_deleted (subject, number) contents) (after_change (MarkDeleted subject number) g) k
  spelled_deleted subject number = record {
    registry = fewer-IsRegistry g (altered g.rows (subject, number) as_deleted) g.own s.registry (altered_was g.rows (subject, number));
    texts = s.texts;
    utf8 = s.utf8;
    versions = deleted_both contents.versions g.rows s.versions (subject, number);
    registered = λ key version there. let was = altered_was g.rows (subject, number) key version there in s.registered key was.old was.there;
    levels = s.levels;
    subjects = s.subjects;
    kept = s.kept;
    keys = s.keys;
  }

  spelled_removed : (subject : List ℕ) (number : ℕ) → IsSpelled (without_version (subject, number) contents) (after_change (Remove subject number) g) k
  spelled_removed subject number = record {
    registry = fewer-IsRegistry g (remove g.rows (subject, number)) g.own s.registry (removed_was g.rows (subject, number));
    texts = s.texts;
    utf8 = s.utf8;
    versions = remove_each version_order stored_version contents.versions g.rows s.versions (subject, number);
    registered = λ key version there. let was = removed_was g.rows (subject, number) key version there in s.registered key was.old was.there;
    levels = s.levels;
    subjects = s.subjects;
    kept = s.kept;
    keys = s.keys;
  }

  spelled_dropped : (subject : List ℕ) → IsSpelled (without_level subject contents) (after_change (DropLevel subject) g) k
  spelled_dropped subject = record {
    registry = levels-IsRegistry g g.global (own_without g.own subject) s.registry;
    texts = s.texts;
    utf8 = s.utf8;
    versions = s.versions;
    registered = s.registered;
    levels = remove_both level_text contents.levels g.own subject s.levels;
    subjects = λ other level there. s.subjects other level (left_value (bytes_eq subject other) (g.own other) level there);
    kept = s.kept;
    keys = s.keys;
  }

-- ---- the tables

module _ (old new : State) where
  pub makes_deleted : (subject : List ℕ) (number : ℕ) → Changes old new (marking_deleted (subject, number)) → StoresChange old new (MarkDeleted subject number)
  makes_deleted subject number changes was s fits =
      changed old new (marking_deleted (subject, number)) changes was s _
      (spelled_in s.contents was s.spelled _ _ _ (spelled_deleted s.contents was.registry was.replies s.spelled.base subject number) s.spelled.meta refl (refl, refl, refl))

  pub makes_removed : (subject : List ℕ) (number : ℕ) → Changes old new (without_version (subject, number)) → StoresChange old new (Remove subject number)
  makes_removed subject number changes was s fits = record {
    schema = s.schema;
    known = s.known;
    contents = without_version (subject, number) s.contents;
    holds = changes s.schema s.known s.contents s.holds;
    spelled = record {
      base = spelled_removed s.contents was.registry was.replies s.spelled.base subject number;
      meta = s.spelled.meta;
      modes = s.spelled.modes;
      owners = s.spelled.owners;
      evidence = evidence_left s.contents was.evidence s.spelled.evidence (subject, number);
    };
  }

  pub makes_dropped : (subject : List ℕ) → Changes old new (without_level subject) → StoresChange old new (DropLevel subject)
  makes_dropped subject changes was s fits =
      changed old new (without_level subject) changes was s _
      (spelled_in s.contents was s.spelled _ _ _ (spelled_dropped s.contents was.registry was.replies s.spelled.base subject) s.spelled.meta refl (refl, refl, refl))
