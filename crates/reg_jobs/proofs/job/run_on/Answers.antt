use Rattle.std.proofs.Common.{inl, inr, refl}
use Rattle.reg_jobs.proofs.JobLemmas.{RunsOver-has}
use Rattle.reg_jobs.proofs.job.run_on.Goals as goal

pub returns-in-Ok : goal.returns-in-Ok
returns-in-Ok g c =
    inl (
      c.run_on_store-ended.result.0,
      refl,
      RunsOver-has g.S.Store c.args.opened c.in-Ok.store c.run_on_store-ended.result.1 _
          (λ clean. c.in-Ok.ensures.opens (c.run_on_store-ended.ensures.clean clean)) c.run_on_store-ended.ensures.session,
    )

pub returns-in-Err : goal.returns-in-Err
returns-in-Err g c = inr (_, refl, record { unread = refl; unwritten = refl; none = c.in-Err.ensures.none })
