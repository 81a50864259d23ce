use Rattle.reg_service.specs.Services.{state_in}
use Rattle.reg_service.proofs.CrashLemmas.{leaves_open}
use Rattle.reg_service.proofs.DurableLists.{durable_each}
use Rattle.reg_service.proofs.RestartLemmas.{restarts}
use Rattle.reg_service.proofs.laws.lists_continue_after_crash.Goals as goal

pub returns : goal.returns
returns g c was xs db each clean over it =
    let old = c.args.old.now in
    let next = c.args.next.now in
    let spelled = leaves_open (state_in old) (g.met.S.Store.settled old.store.db.idle.conn.store) in
    let starts = leaves_open (state_in next) (g.met.S.Store.settled next.store.db.idle.conn.store) in
    let done = durable_each old c.args.new.now xs spelled each clean was (λ _. over) in
    restarts next c.args.last.now starts old c.args.new.now was done.stored xs done.holds over db it
