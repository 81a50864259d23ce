use Rattle.std.proofs.Common.{◌≡◌, map, true, sym, ◌∙◌}
use Rattle.std.specs.Prelude.{◌↔◌, IfOk, IsTrue}
use Rattle.std.specs.List.{AllByRecursion}
use Rattle.reg_rows.specs.Meta.{is_layout_two_meta}
use Rattle.reg_rows.specs.Positions.{HaveEvidence, AreContiguous}
use Rattle.reg_rows.specs.Spelling.{FitsLayoutTwo, IsModeRow, IsEvidenceRow, meta_pair, version_of, version_position, rows_in}
use Rattle.reg_rows.proofs.LastTests.{tells}
use Rattle.reg_rows.proofs.tables.fits_layout_two.Goals as goal

pub returns : goal.returns
returns c =
    let rows = rows_in c.args.tables.now in
    let meta : is_layout_two_meta (map meta_pair rows.meta) ≡ true = sym (rw c.deref.ensures.value at c.is_layout_two_meta.ensures) ∙ c.if-not-is_layout_two_meta.false in
    let modes : AllByRecursion IsModeRow rows.modes = rw c.deref-else-not-is_layout_two_meta.ensures.value at (c.are_mode_rows.ensures.0 c.if-not-are_mode_rows.false) in
    let evidence : AllByRecursion IsEvidenceRow rows.evidence = rw c.deref-else-not-are_mode_rows.ensures.value at (c.are_evidence_rows.ensures.0 c.if-not-are_evidence_rows.false) in
    let told : IfOk c.fits_against.result (λ yes. IsTrue yes ↔ (HaveEvidence (map version_of rows.evidence) (map version_position rows.against) × AreContiguous (map version_position rows.against))) = rw (c.deref-2.ensures.value, c.deref-3.ensures.value) at c.fits_against.ensures in
    tells {B = FitsLayoutTwo rows} c.fits_against.result told (λ it. record { meta = meta; modes = modes; evidence = evidence; tested = it.0; positions = it.1 }) (λ fits. (fits.tested, fits.positions))
