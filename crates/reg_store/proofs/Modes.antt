-- What setting or dropping a mode does to what the tables spell.
use Rattle.std.proofs.Common.{ℕ, List, refl}
use Rattle.std.specs.Prelude.{IsTrue, bytes_eq}
use Rattle.sqlite.specs.State.{State}
use Rattle.reg_core.specs.declared.decision.Change.TheVariants.{SetGlobalMode, SetMode, DropMode}
use Rattle.reg_core.specs.declared.mode.Mode.{Mode}
use Rattle.reg_core.specs.Levels.{level_text}
use Rattle.reg_core.specs.Modes.{mode_text}
use Rattle.reg_core.specs.Registry.{own_with, own_without}
use Rattle.reg_core.specs.Subjects.{is_subject}
use Rattle.reg_tables.specs.Changes.{with_global_mode, with_mode, without_mode}
use Rattle.reg_tables.specs.Writing.{Changes}
use Rattle.reg_store.specs.Inside.Applying.{StoresChange}
use Rattle.reg_store.proofs.Deletions.{left_value}
use Rattle.reg_store.proofs.Maps.{insert_both, remove_both}
use Rattle.reg_store.proofs.SpelledTwo.{spelled_in, mode_changed, changed}
use Rattle.reg_store.proofs.Spelling.{each_entry, spelled_beside}

module _ (old new : State) where
  pub makes_global_mode : (mode : Mode) → Changes old new (with_global_mode (mode_text mode)) → StoresChange old new (SetGlobalMode mode)
  makes_global_mode mode changes was s fits =
      let g = was.registry in
      changed old new (with_global_mode (mode_text mode)) changes was s _
      (spelled_in s.contents was s.spelled _ _ _ (spelled_beside s.contents g was.replies s.spelled.base (with_global_mode (mode_text mode) s.contents) (refl, refl, refl, refl) g.global mode g.own_modes) (mode_changed s.contents.meta (level_text g.global) (mode_text g.global_mode) (mode_text mode) s.spelled.meta) refl (refl, refl, refl))

  pub makes_mode : (subject : List ℕ) (mode : Mode) → IsTrue (is_subject subject) → Changes old new (with_mode subject (mode_text mode)) → StoresChange old new (SetMode subject mode)
  makes_mode subject mode within changes was s fits = record {
    schema = s.schema;
    known = s.known;
    contents = with_mode subject (mode_text mode) s.contents;
    holds = changes s.schema s.known s.contents s.holds;
    spelled = record {
      base = spelled_beside s.contents was.registry was.replies s.spelled.base (with_mode subject (mode_text mode) s.contents) (refl, refl, refl, refl) was.registry.global was.registry.global_mode (own_with was.registry.own_modes subject mode);
      meta = s.spelled.meta;
      modes = insert_both mode_text s.contents.modes was.registry.own_modes subject mode s.spelled.modes;
      owners = each_entry (λ q _. IsTrue (is_subject q)) was.registry.own_modes subject mode within s.spelled.owners;
      evidence = record { levels = s.spelled.evidence.levels; ids = s.spelled.evidence.ids; few = s.spelled.evidence.few };
    };
  }

  pub makes_no_mode : (subject : List ℕ) → Changes old new (without_mode subject) → StoresChange old new (DropMode subject)
  makes_no_mode subject changes was s fits = record {
    schema = s.schema;
    known = s.known;
    contents = without_mode subject s.contents;
    holds = changes s.schema s.known s.contents s.holds;
    spelled = record {
      base = spelled_beside s.contents was.registry was.replies s.spelled.base (without_mode subject s.contents) (refl, refl, refl, refl) was.registry.global was.registry.global_mode (own_without was.registry.own_modes subject);
      meta = s.spelled.meta;
      modes = remove_both mode_text s.contents.modes was.registry.own_modes subject s.spelled.modes;
      owners = λ other mode there. s.spelled.owners other mode (left_value (bytes_eq subject other) (was.registry.own_modes other) mode there);
      evidence = record { levels = s.spelled.evidence.levels; ids = s.spelled.evidence.ids; few = s.spelled.evidence.few };
    };
  }
