use Rattle.reg_rows.proofs.PositionLemmas.{version_search}
use Rattle.reg_rows.proofs.positions.has_version.Goals as goal

pub returns : goal.returns
returns c =
    let search = version_search c.args.sorted.now (c.args.position.now.0, c.args.position.now.1) in
    (λ h. search.0 (c.is_among.ensures.0 h), λ h. c.is_among.ensures.1 (search.1 h))
