-- The definitions, computed on a few examples.
use Rattle.std.proofs.Common.{◌≡◌, ◌&&◌, ◌∷◌, [], Bool, true, false, codes, length, refl}
use Rattle.std.specs.Str.{chars, is_utf8}
use Rattle.std.specs.Prelude.{None, Some}
use Rattle.std.specs.Fmt.{digits}
use Rattle.serde_json.proofs.OnLiterals.{serde_json_on_literals}
use Rattle.reg_core.specs.declared.level.Level.TheVariants.{Full, Off}
use Rattle.reg_core.specs.declared.code.Code.TheVariants.{InvalidLevel, KeyReused, NoOwnLevel, NotFound}
use Rattle.reg_core.specs.declared.command.Command.TheVariants.{SetGlobal, SetLevel, Global, LevelOf}
use Rattle.reg_core.specs.Levels.{level_of}
use Rattle.reg_core.specs.Codes.{status_of, fault_body}
use Rattle.reg_core.specs.Replies.{success, fault}
use Rattle.reg_core.specs.Registry.{Registry, new_registry}
use Rattle.reg_core.specs.Machine.{step, permitted_step, run_commands}
use Rattle.reg_core.specs.CommandTexts.{command_text}
use Rattle.reg_core.specs.Subjects.{is_subject}

none_is_a_level : level_of (codes "NONE") ≡ Some Off
none_is_a_level = refl

lower_case_is_no_level : level_of (codes "full") ≡ None
lower_case_is_no_level = refl

five_digits_have_a_status : status_of KeyReused ≡ 422
five_digits_have_a_status = refl

not_found_body : fault_body NotFound ≡ codes "{\"error_code\":404,\"message\":\"Not found\"}"
unfolding fault_body digits
not_found_body = refl

key_reused_length : length (fault_body KeyReused) ≡ 71
unfolding fault_body digits
key_reused_length = refl

full_is_set : step new_registry (SetGlobal (codes "FULL")) ≡ (record new_registry { global = Full }, success (codes "{\"compatibility\":\"FULL\"}"))
unfolding step permitted_step serde_json_on_literals
full_is_set = refl

other_text_is_refused : step new_registry (SetGlobal (codes "Full")) ≡ (new_registry, fault InvalidLevel)
unfolding step permitted_step
other_text_is_refused = refl

new_level : (step new_registry Global).1 ≡ success (codes "{\"compatibilityLevel\":\"BACKWARD\"}")
unfolding step permitted_step serde_json_on_literals
new_level = refl

last_level_stays : run_commands new_registry (SetGlobal (codes "FULL") ∷ SetGlobal (codes "x") ∷ Global ∷ []) ≡ record new_registry { global = Full }
unfolding step permitted_step
last_level_stays = refl

set_global_text : command_text (SetGlobal (codes "FULL")) ≡ codes "[\"set-global\",\"FULL\"]"
unfolding command_text serde_json_on_literals
set_global_text = refl

forward_of_s : Registry
forward_of_s = (step new_registry (SetLevel (codes "s") (codes "FORWARD"))).0

own_level_is_answered : (step new_registry (SetLevel (codes "s") (codes "FORWARD"))).1 ≡ success (codes "{\"compatibility\":\"FORWARD\"}")
unfolding step permitted_step serde_json_on_literals
own_level_is_answered = refl

own_level_is_shown : (step forward_of_s (LevelOf (codes "s") false)).1 ≡ success (codes "{\"compatibilityLevel\":\"FORWARD\"}")
unfolding forward_of_s step permitted_step serde_json_on_literals
own_level_is_shown = refl

other_subject_has_none : (step forward_of_s (LevelOf (codes "t") false)).1 ≡ fault NoOwnLevel
unfolding forward_of_s step permitted_step
other_subject_has_none = refl

global_level_is_shown : (step forward_of_s (LevelOf (codes "t") true)).1 ≡ success (codes "{\"compatibilityLevel\":\"BACKWARD\"}")
unfolding forward_of_s step permitted_step serde_json_on_literals
global_level_is_shown = refl

own_level_is_no_global_one : (step forward_of_s Global).1 ≡ success (codes "{\"compatibilityLevel\":\"BACKWARD\"}")
unfolding forward_of_s step permitted_step serde_json_on_literals
own_level_is_no_global_one = refl

set_level_text : command_text (SetLevel (codes "a/b") (codes "FULL")) ≡ codes "[\"set-level\",\"a/b\",\"FULL\"]"
unfolding command_text serde_json_on_literals
set_level_text = refl

last_is_false : (b : Bool) → b && false ≡ false
last_is_false true = refl
last_is_false false = refl

control_is_in_no_subject : is_subject (97 ∷ 31 ∷ []) ≡ false
unfolding is_subject chars
control_is_in_no_subject = last_is_false _

delete_is_in_no_subject : is_subject (97 ∷ 127 ∷ []) ≡ false
unfolding is_subject chars
delete_is_in_no_subject = last_is_false _

no_text_is_no_subject : is_subject [] ≡ false
unfolding is_subject is_utf8 chars
no_text_is_no_subject = refl
