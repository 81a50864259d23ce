use Rattle.std.proofs.Common.{inl, inr, refl}
use Rattle.reg_jobs.proofs.JobLemmas.{RunsOver-has}
use Rattle.reg_jobs.proofs.ReportLemmas.{ReportsAcceptFailures-none}
use Rattle.reg_jobs.proofs.job.serve_opened.Goals as goal

pub returns-in-Ok-clause-serves : goal.returns-in-Ok-clause-serves
returns-in-Ok-clause-serves g c =
    inl (
      c.serve_on_store-ended.result.0,
      refl,
      RunsOver-has g.S.Store c.args.opened c.in-Ok.store c.serve_on_store-ended.result.1 _
          (λ clean. c.in-Ok.ensures.opens (c.serve_on_store-ended.ensures.clean clean)) c.serve_on_store-ended.ensures.sessions,
    )

pub returns-in-Err-clause-serves : goal.returns-in-Err-clause-serves
returns-in-Err-clause-serves g c = inr (_, refl, (refl, c.in-Err.ensures.none))

pub returns-in-Err-clause-reports : goal.returns-in-Err-clause-reports
returns-in-Err-clause-reports g c = ReportsAcceptFailures-none g.E.Write.contents c.args.connections c.args.errors.now
