use Rattle.std.proofs.Common.{inl, inr, refl}
use Rattle.reg_jobs.proofs.JobLemmas.{AuditsOver-found, OpenedDatabaseSatisfies-map}
use Rattle.reg_jobs.proofs.job.audit_on.Goals as goal

pub returns-in-Ok : goal.returns-in-Ok
returns-in-Ok g c =
    inl (
      c.audit_store-audit_outcome.result.0,
      refl,
      OpenedDatabaseSatisfies-map g.S.Store c.args.opened _ _
          (λ old opens. record {
            connection = c.audit_store-audit_outcome.result.1;
            given = refl;
            holds = λ clean. AuditsOver-found old _ _ _ _ c.audit_store-audit_outcome.result.0
                (opens (c.audit_store-audit_outcome.ensures.clean clean)) (c.audit_store-audit_outcome.ensures.audits clean) (c.audit_store-audit_outcome.ensures.same clean);
          })
          c.in-Ok.ensures.over,
    )

pub returns-in-Err : goal.returns-in-Err
returns-in-Err g c = inr (_, refl, record { unwritten = refl; none = c.in-Err.ensures.none })
