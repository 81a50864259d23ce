use Rattle.reg_store.proofs.ReadLemmas.{fail, both, go_on, stop}
use Rattle.reg_store.proofs.store.settings.settings_with_modes.Goals as goal

pub returns-in_err-globals : goal.returns-in_err-globals
returns-in_err-globals g c = fail c.in_err-globals.ensures c.from_residual.ensures.1

pub returns-in_err-own_level : goal.returns-in_err-own_level
returns-in_err-own_level g c = stop c.in_ok-globals.ensures c.in_err-own_level.ensures c.from_residual-in_err-own_level.ensures.1

pub returns-in_err-own_mode : goal.returns-in_err-own_mode
returns-in_err-own_mode g c = stop (both c.in_ok-globals.ensures c.in_ok-own_level.ensures) c.in_err-own_mode.ensures c.from_residual-in_err-own_mode.ensures.1

pub returns : goal.returns
returns g c = go_on (both c.in_ok-globals.ensures c.in_ok-own_level.ensures) c.in_ok-own_mode.ensures (λ was over read mode. (λ needed. (read.1 needed, read.0.0), (mode, read.0.1)))
