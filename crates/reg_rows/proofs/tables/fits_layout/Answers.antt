use Rattle.std.proofs.Common.{true≢false, inl, inr, sym, ◌∙◌}
use Rattle.std.specs.Prelude.{◌⊎◌}
use Rattle.reg_rows.specs.Spelling.{FitsLayoutOne, FitsLayoutTwo, rows_in}
use Rattle.reg_rows.proofs.LastTests.{tells}
use Rattle.reg_rows.proofs.tables.fits_layout.Goals as goal

pub returns : goal.returns
returns c =
    let rows = rows_in c.args.tables.now in
    tells {B = FitsLayoutOne rows ⊎ FitsLayoutTwo rows} c.fits_layout_two.result c.fits_layout_two.ensures (λ fits. inr fits) (λ fits. elim fits [
      | inl first ↦ absurd (true≢false (sym (c.fits_layout_one.ensures.1 first) ∙ c.if-fits_layout_one.false))
      | inr second ↦ second
    ])
