-- Modes, computed on a few examples.
use Rattle.std.proofs.Common.{◌≡◌, true, false, codes, refl}
use Rattle.std.specs.Prelude.{None}
use Rattle.serde_json.proofs.OnLiterals.{serde_json_on_literals}
use Rattle.reg_core.specs.declared.code.Code.TheVariants.{InvalidMode, NoOwnMode, NotPermitted}
use Rattle.reg_core.specs.declared.command.Command.TheVariants.{SetGlobal, SetLevel, Register, DeleteVersion, DeleteSubject, SetGlobalMode, SetMode, GlobalMode, ModeOf}
use Rattle.reg_core.specs.declared.mode.Mode.TheVariants.{Readonly}
use Rattle.reg_core.specs.Modes.{mode_of}
use Rattle.reg_core.specs.Replies.{success, fault}
use Rattle.reg_core.specs.Registry.{Registry, new_registry}
use Rattle.reg_core.specs.Machine.{step, permitted_step}

import_is_no_mode : mode_of (codes "IMPORT") ≡ None
import_is_no_mode = refl

-- a registry whose global mode is READONLY
read_only : Registry
read_only = record new_registry { global_mode = Readonly }

mode_is_set : step new_registry (SetGlobalMode (codes "READONLY")) ≡ (read_only, success (codes "{\"mode\":\"READONLY\"}"))
unfolding read_only step permitted_step serde_json_on_literals
mode_is_set = refl

mode_is_shown : (step read_only GlobalMode).1 ≡ success (codes "{\"mode\":\"READONLY\"}")
unfolding read_only step permitted_step serde_json_on_literals
mode_is_shown = refl

other_mode_is_refused : step read_only (SetGlobalMode (codes "IMPORT")) ≡ (read_only, fault InvalidMode)
unfolding read_only step permitted_step
other_mode_is_refused = refl

-- each write of levels and subjects is rejected, also with invalid arguments
level_is_refused : step read_only (SetGlobal (codes "x")) ≡ (read_only, fault NotPermitted)
unfolding read_only step
level_is_refused = refl

own_level_is_refused : step read_only (SetLevel (codes "s") (codes "x")) ≡ (read_only, fault NotPermitted)
unfolding read_only step
own_level_is_refused = refl

schema_is_refused : step read_only (Register (codes "s") (codes "x") false) ≡ (read_only, fault NotPermitted)
unfolding read_only step
schema_is_refused = refl

deletion_is_refused : step read_only (DeleteVersion (codes "s") (codes "x") false) ≡ (read_only, fault NotPermitted)
unfolding read_only step
deletion_is_refused = refl

subject_stays : step read_only (DeleteSubject (codes "s") true) ≡ (read_only, fault NotPermitted)
unfolding read_only step
subject_stays = refl

-- a subject whose own mode is READWRITE
writable_s : Registry
writable_s = (step read_only (SetMode (codes "s") (codes "READWRITE"))).0

s_may_be_written : (step writable_s (SetLevel (codes "s") (codes "FULL"))).1 ≡ success (codes "{\"compatibility\":\"FULL\"}")
unfolding read_only writable_s step permitted_step serde_json_on_literals
s_may_be_written = refl

t_may_not : (step writable_s (SetLevel (codes "t") (codes "FULL"))).1 ≡ fault NotPermitted
unfolding read_only writable_s step permitted_step
t_may_not = refl

global_level_may_not : (step writable_s (SetGlobal (codes "FULL"))).1 ≡ fault NotPermitted
unfolding read_only writable_s step permitted_step
global_level_may_not = refl

t_has_none : (step writable_s (ModeOf (codes "t") false)).1 ≡ fault NoOwnMode
unfolding read_only writable_s step permitted_step
t_has_none = refl

t_has_the_global_one : (step writable_s (ModeOf (codes "t") true)).1 ≡ success (codes "{\"mode\":\"READONLY\"}")
unfolding read_only writable_s step permitted_step serde_json_on_literals
t_has_the_global_one = refl

s_has_its_own : (step writable_s (ModeOf (codes "s") false)).1 ≡ success (codes "{\"mode\":\"READWRITE\"}")
unfolding read_only writable_s step permitted_step serde_json_on_literals
s_has_its_own = refl
