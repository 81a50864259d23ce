use Rattle.std.proofs.Common.{inl, inr, refl}
use Rattle.reg_jobs.proofs.JobLemmas.{ListsOver-found, OpenedDatabaseSatisfies-map}
use Rattle.reg_jobs.proofs.job.list_on.Goals as goal

pub returns-in-Ok : goal.returns-in-Ok
returns-in-Ok g c =
    inl (
      c.list_store-listed.result.0,
      refl,
      OpenedDatabaseSatisfies-map g.S.Store c.args.opened _ _
          (λ old opens. record {
            connection = c.list_store-listed.result.1;
            given = refl;
            holds = λ clean. ListsOver-found old _ _ c.args.kind _ _ c.list_store-listed.result.0
                (opens (c.list_store-listed.ensures.clean clean))
                (rw c.listing_of.ensures at c.list_store-listed.ensures.lists clean) (c.list_store-listed.ensures.fault clean c.in-Ok.ensures.unfailed)
                (c.list_store-listed.ensures.same clean);
          })
          c.in-Ok.ensures.over,
    )

pub returns-in-Err : goal.returns-in-Err
returns-in-Err g c = inr (_, refl, record { unwritten = refl; none = c.in-Err.ensures.none })
