-- What layout 2 spells in addition to the tables of both layouts.
use Rattle.std.proofs.Common.{◌≡◌, ◌≢◌, ℕ, List, codes, sym, ap, ◌∙◌}
use Rattle.std.specs.Prelude.{option_map}
use Rattle.std.specs.FinMap.{get, insert}
use Rattle.sqlite.specs.State.{State}
use Rattle.reg_core.specs.declared.level.Level.{Level}
use Rattle.reg_core.specs.Levels.{level_text}
use Rattle.reg_core.specs.Modes.{mode_text}
use Rattle.reg_core.specs.Registry.{Registry}
use Rattle.reg_core.specs.KeptReplies.{Kept}
use Rattle.reg_core.specs.Stored.{Stored}
use Rattle.reg_tables.specs.Contents.{TextMap, Contents}
use Rattle.reg_tables.specs.Writing.{Changes, ChangesIf}
use Rattle.reg_tables.specs.Changes.{meta_before_level}
use Rattle.reg_store.specs.Spells.{layout_two_meta, IsSpelled, IsSpelledLayoutTwo, Spells}
use Rattle.reg_store.proofs.Evidence.{evidence_beside}
use Rattle.reg_store.proofs.Maps.{insert-insert, insert-swap}

-- ---- `meta`

pub other_name : codes "global" ≢ codes "mode"
other_name e = absurd (cc)

module _ (meta : TextMap (List ℕ)) where
  pub level_changed : (was level : Level) (mode : List ℕ) → meta ≡ layout_two_meta (level_text was) mode → insert meta (codes "global") (level_text level) ≡ layout_two_meta (level_text level) mode
  level_changed was level mode is =
      ap (λ m. insert m (codes "global") (level_text level)) is
      ∙ insert-swap (insert (meta_before_level (codes "2")) (codes "global") (level_text was)) (codes "mode") mode (codes "global") (level_text level) other_name
      ∙ ap (λ m. insert m (codes "mode") mode) (insert-insert (meta_before_level (codes "2")) (codes "global") (level_text was) (level_text level))

  pub mode_changed : (level was mode : List ℕ) → meta ≡ layout_two_meta level was → insert meta (codes "mode") mode ≡ layout_two_meta level mode
  mode_changed level was mode is = ap (λ m. insert m (codes "mode") mode) is ∙ insert-insert _ (codes "mode") was mode

-- ---- the five tables

-- the contents of the tables that layout 2 adds stay
abbrev pub KeepsAdded : Contents → Contents → Type 0
KeepsAdded was now = (now.modes ≡ was.modes) × (now.evidence ≡ was.evidence) × (now.against ≡ was.against)

-- the five tables change, and spell another registry with the same own modes
pub spelled_in : (contents : Contents) (was : Stored) (s : IsSpelledLayoutTwo contents was) (now : Contents) (h : Registry) (l : Kept) → IsSpelled now h l → now.meta ≡ layout_two_meta (level_text h.global) (mode_text h.global_mode) → h.own_modes ≡ was.registry.own_modes
    → KeepsAdded contents now → IsSpelledLayoutTwo now (record was { registry = h; replies = l })
spelled_in contents was s now h l spelled meta same kept = record {
  base = spelled;
  meta = meta;
  modes = λ subject. ap (λ m. get m subject) kept.0 ∙ s.modes subject ∙ sym (ap (λ own. option_map mode_text (own subject)) same);
  owners = λ subject mode there. s.owners subject mode (ap (λ own. own subject) (sym same) ∙ there);
  evidence = evidence_beside contents was.evidence s.evidence now kept.1 kept.2;
}

module _ (old new : State) where
  pub changed : (change : Contents → Contents) → Changes old new change → (was : Stored) (s : Spells old.now was) (now : Stored) → IsSpelledLayoutTwo (change s.contents) now → Spells new.now now
  changed change changes was s now spelled = record { schema = s.schema; known = s.known; contents = change s.contents; holds = changes s.schema s.known s.contents s.holds; spelled = spelled }

  pub put : (Free : Contents → Type 0) (change : Contents → Contents) → ChangesIf old new Free change → (was : Stored) (s : Spells old.now was) → Free s.contents → (now : Stored) → IsSpelledLayoutTwo (change s.contents) now → Spells new.now now
  put Free change puts was s free now spelled = record { schema = s.schema; known = s.known; contents = change s.contents; holds = puts s.schema s.known s.contents s.holds free; spelled = spelled }
