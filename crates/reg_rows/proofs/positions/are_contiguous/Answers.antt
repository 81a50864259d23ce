use Rattle.reg_rows.proofs.PositionLemmas.{positions_sorted}
use Rattle.reg_rows.proofs.positions.are_contiguous.Goals as goal

pub returns : goal.returns
returns c =
    let same = positions_sorted c.args.version_positions.items c.sort_unstable.new.self.items c.sort_unstable.ensures.permutation in
    let told = rw c.deref.ensures.value at c.have_predecessors.ensures in
    (λ h. same.0 (told.0 h), λ h. told.1 (same.1 h))
