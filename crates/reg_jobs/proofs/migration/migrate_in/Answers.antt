use Rattle.std.proofs.Common.{inl, inr, refl}
use Rattle.reg_jobs.proofs.migration.migrate_in.Goals as goal
use Rattle.reg_jobs.proofs.migration.migrate_in.Goals.{in-Ok, in-Err}

pub returns : goal.returns
returns g c clean =
    let migrated = c.migrate-migrated.ensures in
    elim c.match-migrated.branch [
      | in-Ok w ↦ rw (w.outcome-is, w.writer-is) (inl (record {
        printed = w.print_kept.result;
        outcome_is = refl;
        migrated = record { count = w.in-Ok.report.versions; moves = rw w.in-Ok.is at migrated.done clean; prints = w.print_kept.ensures };
      }))
      | in-Err w ↦ rw (w.outcome-is, w.writer-is) (inr (inl (record {
        error = w.in-Err.error;
        fails = record {
          reason = rw w.in-Err.is at migrated.reason clean;
          only_reads = rw w.in-Err.is at migrated.leaves.nothing clean;
          before = rw w.in-Err.is at migrated.leaves.before clean;
          found = migrated.found clean;
          crash = migrated.crash clean;
        };
        reports = w.print_unmigrated-outcome.ensures;
      })))
    ]
