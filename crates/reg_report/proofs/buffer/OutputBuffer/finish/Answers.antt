use Rattle.std.proofs.Common.{inl, inr, refl}
use Rattle.reg_report.specs.declared.error.ReportError.TheVariants.{Write as WriteFailed}
use Rattle.reg_report.proofs.BufferLemmas.{fails_with}
use Rattle.reg_report.proofs.buffer.OutputBuffer.finish.Goals as goal

pub returns-in_err-flush_to : goal.returns-in_err-flush_to
returns-in_err-flush_to g c = inr (fails_with c.from_residual.result c.in_err-flush_to.field-0.0 WriteFailed c.from_residual.ensures.1 c.in_err-flush_to.ensures.failed, c.in_err-flush_to.ensures.front)

pub returns : goal.returns
returns g c = inl (refl, c.in_ok-flush_to.ensures.text)
