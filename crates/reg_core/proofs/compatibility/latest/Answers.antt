use Rattle.reg_core.proofs.Versions.{latest_slice}
use Rattle.reg_core.proofs.compatibility.latest.Goals as goal

pub returns : goal.returns
returns g c = latest_slice c.args.versions.now c.saturating_sub.result c.saturating_sub.ensures
