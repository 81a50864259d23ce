-- A read leaves the registry unchanged.
use Rattle.std.proofs.Common.{◌≡◌, false, refl, true≢false}
use Rattle.reg_core.specs.declared.command.Command.{Command}
use Rattle.reg_core.specs.declared.command.Command.TheVariants.{SetGlobal, SetLevel, Register, DeleteVersion, DeleteSubject, Global, LevelOf, Lookup, Subjects, Versions, Version, Text, ById, VersionsOfId, Types, Check, CheckAll, SetGlobalMode, SetMode, GlobalMode, ModeOf}
use Rattle.reg_core.specs.Registry.{Registry}
use Rattle.reg_core.specs.Machine.{is_write, permitted_step, step}
use Rattle.reg_core.proofs.ModeLemmas.{step-either}

-- a permitted read leaves the registry unchanged
pub permitted_step-read : (g : Registry) (c : Command) → is_write c ≡ false → (permitted_step g c).0 ≡ g
unfolding permitted_step
permitted_step-read g (SetGlobal text) e = absurd (true≢false e)
permitted_step-read g (SetLevel subject text) e = absurd (true≢false e)
permitted_step-read g (Register subject text supported) e = absurd (true≢false e)
permitted_step-read g (DeleteVersion subject version permanent) e = absurd (true≢false e)
permitted_step-read g (DeleteSubject subject permanent) e = absurd (true≢false e)
permitted_step-read g Global e = refl
permitted_step-read g (LevelOf subject default) e = refl
permitted_step-read g (Lookup subject text supported deleted) e = refl
permitted_step-read g (Subjects deleted) e = refl
permitted_step-read g (Versions subject deleted) e = refl
permitted_step-read g (Version subject version deleted) e = refl
permitted_step-read g (Text subject version deleted) e = refl
permitted_step-read g (ById id) e = refl
permitted_step-read g (VersionsOfId id deleted) e = refl
permitted_step-read g Types e = refl
permitted_step-read g (Check subject version text supported) e = refl
permitted_step-read g (CheckAll subject text supported) e = refl
permitted_step-read g (SetGlobalMode text) e = absurd (true≢false e)
permitted_step-read g (SetMode subject text) e = absurd (true≢false e)
permitted_step-read g GlobalMode e = refl
permitted_step-read g (ModeOf subject default) e = refl

-- each read leaves the registry unchanged
pub step-read : (g : Registry) (c : Command) → is_write c ≡ false → (step g c).0 ≡ g
step-read g c e = step-either (λ after. after.0 ≡ g) g c refl (permitted_step-read g c e)
