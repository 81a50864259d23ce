use Rattle.reg_store.proofs.ReadLemmas.{fail, retell, tell}
use Rattle.reg_store.proofs.store.settings.settings_for.Goals as goal

pub returns-then-needs : goal.returns-then-needs
returns-then-needs g c = retell c.settings_with_modes.ensures (λ was over settings told. (told.0, λ needed. told.1))

pub returns-in_err-levels : goal.returns-in_err-levels
returns-in_err-levels g c = fail c.in_err-levels.ensures c.from_residual.ensures.1

pub returns : goal.returns
returns g c = tell c.in_ok-levels.ensures (λ was over levels. (levels, λ needed. absurd (cc)))
