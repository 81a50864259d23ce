use Rattle.reg_rows.proofs.PositionLemmas.{evidence_sorted}
use Rattle.reg_rows.proofs.positions.have_evidence.Goals as goal

pub returns : goal.returns
returns c =
    let same = evidence_sorted c.args.versions_with_evidence.items c.sort_unstable.new.self.items c.args.version_positions.now c.sort_unstable.ensures.permutation in
    let told = rw c.deref.ensures.value at c.contains_version_of_each.ensures in
    (λ h. same.0 (told.0 h), λ h. told.1 (same.1 h))
