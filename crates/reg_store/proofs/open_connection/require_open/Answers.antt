use Rattle.std.proofs.Common.{IsTrue, rules, []}
use Rattle.sqlite.specs.Held.{state}
use Rattle.sqlite.specs.State.{HasCleanDisk}
use Rattle.reg_tables.proofs.Transactions.{on_ok}
use Rattle.reg_store.proofs.Prepared.{Asked, asked_ok, asked_err}
use Rattle.reg_store.proofs.open_connection.require_open.Goals as goal
use Rattle.reg_store.proofs.open_connection.require_open.Goals.{Joined-prepared-2, in-Ok, in-Err}
use Rattle.reg_store.proofs.open_connection.require_open.Given as given

asked : (g : given.Over) (c : Joined-prepared-2 g) → HasCleanDisk (state g.S.Store c.prepare-prepared.new.self) → Asked (state g.S.Store c.args.db.now.idle.conn) (state g.S.Store c.prepare-prepared.new.self) c.match-prepared.result
asked g c clean =
    let old = state g.S.Store c.args.db.now.idle.conn in
    let new = state g.S.Store c.prepare-prepared.new.self in
    elim c.match-prepared.branch [
      | in-Ok w ↦ rw w.result-is (asked_ok old new (rw w.in-Ok.is at c.prepare-prepared.ensures.ok clean).1)
      | in-Err w ↦ rw w.result-is (asked_err old new w.only_fault.result _ [] w.in-Err.error ((rw w.in-Err.is at c.prepare-prepared.ensures.err clean) []) (rw w.from.ensures at w.only_fault.ensures.ok) (rw w.from.ensures at w.only_fault.ensures.err))
    ]

pub returns-clause-frame : goal.returns-clause-frame
returns-clause-frame g c =
    let idle : IsTrue c.is_autocommit-idle.result = search rules in
    record {
      was_open = λ clean. on_ok c.match-prepared.result (λ same. same.0.was_open) (asked g c clean).unchanged;
      only_reads = λ clean. record { commit_stays = (asked g c clean).keeps; settled = c.is_autocommit-idle.ensures.settled idle };
      survives = c.prepare-prepared.ensures.survives;
    }

pub returns-clause-is_open : goal.returns-clause-is_open
returns-clause-is_open g c clean = on_ok c.match-prepared.result (λ same. same.0.is_open) (asked g c clean).unchanged

pub returns-clause-fault : goal.returns-clause-fault
returns-clause-fault g c clean = (asked g c clean).faults
