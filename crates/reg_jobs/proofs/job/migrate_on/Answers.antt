use Rattle.std.proofs.Common.{refl}
use Rattle.reg_jobs.proofs.job.migrate_on.Goals as goal

pub returns-in-Database : goal.returns-in-Database
returns-in-Database g c = rw c.in-Database.is (record { connection = c.migrate_in-outcome.result.1; given = refl; holds = λ clean. c.migrate_in-outcome.ensures clean })
