-- A mode that forbids a command rejects it and leaves the registry unchanged; any other command takes the permitted step.
use Rattle.std.proofs.Common.{◌≡◌, ◌∙◌, Bool, true, false, refl, ap, sym}
use Rattle.std.specs.Prelude.{IsTrue, Option, if◌then◌else◌, option_and_then}
use Rattle.reg_core.specs.declared.code.Code.TheVariants.{NotPermitted}
use Rattle.reg_core.specs.declared.command.Command.{Command}
use Rattle.reg_core.specs.declared.command.Command.TheVariants.{SetGlobal, SetLevel, Register, DeleteVersion, DeleteSubject}
use Rattle.reg_core.specs.declared.decision.View.{View}
use Rattle.reg_core.specs.declared.mode.Mode.{Mode}
use Rattle.reg_core.specs.Machine.{permitted_step, step, subject_of, governing_mode, mode_for}
use Rattle.reg_core.specs.Modes.{is_read_only}
use Rattle.reg_core.specs.Needs.{needs_modes}
use Rattle.reg_core.specs.Registry.{Registry}
use Rattle.reg_core.specs.Replies.{ReplyView, fault}
use Rattle.reg_core.specs.Views.{IsViewOf, mode_of_view}

either : (P : Registry × ReplyView → Type 0) (b : Bool) (one other : Registry × ReplyView) → P one → P other → P (if b then one else other)
either P true one other p q = p
either P false one other p q = q

-- if `P` is true of the refusal and of the permitted step, it is true of the step
pub step-either : (P : Registry × ReplyView → Type 0) (g : Registry) (c : Command) → P (g, fault NotPermitted) → P (permitted_step g c) → P (step g c)
unfolding step
step-either P g c p q = either P (is_read_only (mode_for g c)) (g, fault NotPermitted) (permitted_step g c) p q

same_mode : (c : Command) (own other : Option Mode) (global another : Mode) → (own ≡ other) × (global ≡ another) → governing_mode c own global ≡ governing_mode c other another
same_mode c own other global another same = ap (λ o. governing_mode c o global) same.0 ∙ ap (governing_mode c other) same.1

-- the view shows the mode that may forbid the command
mode_shown : (g : Registry) (c : Command) (view : View) → IsViewOf view g c → mode_of_view view c ≡ mode_for g c
mode_shown g c view shows = by c shows.modes
  where
    by : (c : Command) → (IsTrue (needs_modes c) → (view.own_mode ≡ option_and_then g.own_modes (subject_of c)) × (view.global_mode ≡ g.global_mode)) → mode_of_view view c ≡ mode_for g c
    by (SetGlobal level) modes = same_mode (SetGlobal level) _ _ _ _ (modes refl)
    by (SetLevel subject level) modes = same_mode (SetLevel subject level) _ _ _ _ (modes refl)
    by (Register subject text supported) modes = same_mode (Register subject text supported) _ _ _ _ (modes refl)
    by (DeleteVersion subject version permanent) modes = same_mode (DeleteVersion subject version permanent) _ _ _ _ (modes refl)
    by (DeleteSubject subject permanent) modes = same_mode (DeleteSubject subject permanent) _ _ _ _ (modes refl)
    by _ modes = refl

-- if the view's mode forbids the command, the step rejects it
pub step-read_only : (g : Registry) (c : Command) (view : View) → IsViewOf view g c → is_read_only (mode_of_view view c) ≡ true → step g c ≡ (g, fault NotPermitted)
unfolding step
step-read_only g c view shows e = ap (λ b. if b then (g, fault NotPermitted) else permitted_step g c) (sym (ap is_read_only (mode_shown g c view shows)) ∙ e)

-- else the step is the permitted step
pub step-permitted : (g : Registry) (c : Command) (view : View) → IsViewOf view g c → is_read_only (mode_of_view view c) ≡ false → step g c ≡ permitted_step g c
unfolding step
step-permitted g c view shows e = ap (λ b. if b then (g, fault NotPermitted) else permitted_step g c) (sym (ap is_read_only (mode_shown g c view shows)) ∙ e)
