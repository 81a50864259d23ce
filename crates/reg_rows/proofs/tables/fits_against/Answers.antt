use Rattle.std.proofs.Common.{map, true≢false, sym, ◌∙◌}
use Rattle.std.specs.Prelude.{◌↔◌, IsTrue}
use Rattle.reg_rows.specs.Positions.{HaveEvidence, AreContiguous}
use Rattle.reg_rows.specs.Spelling.{version_of, version_position}
use Rattle.reg_rows.proofs.tables.fits_against.Goals as goal

pub returns-then-have_evidence : goal.returns-then-have_evidence
returns-then-have_evidence c =
    let have : IsTrue c.have_evidence.result ↔ HaveEvidence (map version_of c.args.evidence.now) (map version_position c.args.against.now) = rw (c.deref.ensures.value, c.in_ok-versions.ensures, c.in_ok-positions.ensures) at c.have_evidence.ensures in
    let are : IsTrue c.are_contiguous.result ↔ AreContiguous (map version_position c.args.against.now) = rw c.in_ok-positions.ensures at c.are_contiguous.ensures in
    (λ h. (have.0 c.if-have_evidence.true, are.0 h), λ h. are.1 h.1)

pub returns-else-have_evidence : goal.returns-else-have_evidence
returns-else-have_evidence c =
    let have : IsTrue c.have_evidence.result ↔ HaveEvidence (map version_of c.args.evidence.now) (map version_position c.args.against.now) = rw (c.deref.ensures.value, c.in_ok-versions.ensures, c.in_ok-positions.ensures) at c.have_evidence.ensures in
    (λ h. absurd (true≢false (sym h ∙ c.if-have_evidence.false)), λ h. have.1 h.0)
