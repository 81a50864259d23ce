-- The levels and modes that stored texts spell.
use Rattle.std.proofs.Common.{◌≡◌, ◌∙◌, ◌⊎◌, inl, inr, List, ℕ, Option, None, Some, sym, ap}
use Rattle.std.specs.Prelude.{option_and_then}
use Rattle.std.proofs.lemmas.Option.{none-some, same_Some}
use Rattle.reg_core.specs.declared.level.Level.{Level}
use Rattle.reg_core.specs.declared.mode.Mode.{Mode}
use Rattle.reg_core.specs.Levels.{level_of, level_text}
use Rattle.reg_core.specs.Modes.{mode_of, mode_text}
use Rattle.reg_store.proofs.ReadBack.{level_of-level_text, mode_of-mode_text}

level_back : (o : Option (List ℕ)) (written : Level) → o ≡ Some (level_text written) → option_and_then level_of o ≡ Some written
level_back o written is = ap (option_and_then level_of) is ∙ level_of-level_text written

mode_back : (o : Option (List ℕ)) (written : Mode) → o ≡ Some (mode_text written) → option_and_then mode_of o ≡ Some written
mode_back o written is = ap (option_and_then mode_of) is ∙ mode_of-mode_text written

pub level_said : (o : Option (List ℕ)) (written said : Level) → o ≡ Some (level_text written) → option_and_then level_of o ≡ Some said → said ≡ written
level_said o written said is spells = same_Some said written (sym spells ∙ level_back o written is)

pub mode_said : (o : Option (List ℕ)) (written said : Mode) → o ≡ Some (mode_text written) → option_and_then mode_of o ≡ Some said → said ≡ written
mode_said o written said is spells = same_Some said written (sym spells ∙ mode_back o written is)

pub both_said : (o p : Option (List ℕ)) (level : Level) (mode : Mode) → o ≡ Some (level_text level) → p ≡ Some (mode_text mode) → ¬ ((option_and_then level_of o ≡ None) ⊎ (option_and_then mode_of p ≡ None))
both_said o p level mode is there (inl none) = none-some level (sym none ∙ level_back o level is)
both_said o p level mode is there (inr none) = none-some mode (sym none ∙ mode_back p mode there)
