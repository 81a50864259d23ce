use Rattle.std.proofs.Common.{◌≡◌, ◌∙◌, ap, refl}
use Rattle.reg_jobs.specs.Jobs.{HasOutcome, job_result}
use Rattle.reg_jobs.specs.Outcomes.{ReportsResult, result_view, status_of}
use Rattle.reg_jobs.proofs.job.do_job.Goals as goal
use Rattle.reg_jobs.proofs.job.do_job.Goals.{in-Run, in-Text, in-Check, in-List, in-Migrate, in-Audit}

pub returns : goal.returns
returns g c =
    let comes : HasOutcome g.S.Store c.args.job.now c.args.opened c.match-job.outcome.1 (g.R.Read.remaining c.args.reader.now) (g.R.Read.remaining c.match-job.reader)
    (g.W.Write.contents c.args.writer.now) (g.W.Write.contents c.match-job.writer) c.match-job.outcome.0 =
    elim c.match-job.branch [
      | in-Run w ↦ rw (w.in-Run.is, w.outcome-is, w.reader-is, w.writer-is) (rw w.is_some.ensures at w.run.ensures)
      | in-Text w ↦ rw (w.in-Text.is, w.outcome-is, w.writer-is, w.reader-is)
          (w.into_connection.ensures, refl, (w.print_text-printed.result, refl, rw w.text.ensures at w.print_text-printed.ensures))
      | in-Check w ↦ rw (w.in-Check.is, w.outcome-is, w.writer-is, w.reader-is)
          (w.into_connection-in-Check.ensures, refl, (w.check-checked.result, refl, rw (w.text-in-Check.ensures, w.text-in-Check-2.ensures) at w.check-checked.ensures))
      | in-List w ↦ rw (w.in-List.is, w.outcome-is, w.writer-is, w.reader-is) (refl, w.list_on.ensures)
      | in-Migrate w ↦ rw (w.in-Migrate.is, w.outcome-is, w.writer-is, w.reader-is) (refl, w.migrate_on.ensures)
      | in-Audit w ↦ rw (w.in-Audit.is, w.outcome-is, w.writer-is, w.reader-is) (refl, w.audit_on.ensures)
    ] in
    let answer : result_view c.result_of-answer.result ≡ job_result c.args.job.now c.match-job.outcome.0 =
    rw (c.file_of.ensures, c.writer_schema_file_of.ensures) at c.result_of-answer.ensures in
    let reports : ReportsResult g.E.Write.contents (job_result c.args.job.now c.match-job.outcome.0) c.args.errors.now c.report_result.new.errors =
    rw answer at c.report_result.ensures.reports in
    record { outcome = c.match-job.outcome.0; has_outcome = comes; reports = reports; status_is = c.report_result.ensures.status ∙ ap status_of answer }
