use Rattle.std.proofs.Common.{rules, refl, inl, inr}
use Rattle.std.specs.Prelude.{IsTrue}
use Rattle.sqlite.specs.Held.{state}
use Rattle.reg_jobs.proofs.database.open_in.Goals as goal

pub returns-then-not-is_autocommit-clause-fault : goal.returns-then-not-is_autocommit-clause-fault
returns-then-not-is_autocommit-clause-fault g c =
    let busy : IsTrue (state g.S.Store c.args.connection).in_transaction = search rules in
    record { connection = c.args.connection; given = refl; holds = λ clean. inl (busy, refl) }

pub returns-in-Err-clause-fault : goal.returns-in-Err-clause-fault
returns-in-Err-clause-fault g c =
    let e = c.in-Err.ensures in
    record { connection = c.in-Err.connection; given = refl; holds = λ clean. inr (record { fails = e.fails clean; leaves = e.leaves; found = e.found_failed clean; crash = e.crash_failed clean }) }
