use Rattle.std.proofs.Common.{ℕ, [], map, arith}
use Rattle.reg_service.specs.Services.{state_in}
use Rattle.reg_service.proofs.CrashLemmas.{leaves_open}
use Rattle.reg_service.proofs.DurableLists.{serves_each}
use Rattle.reg_jobs.specs.Listening.{Numbered}
use Rattle.reg_jobs.proofs.ReportLemmas.{ReportsAccept-all}
use Rattle.reg_jobs.proofs.StartLemmas.{ServesConnections-none}
use Rattle.reg_jobs.proofs.listening.serve_network.Goals as goal

pub returns-clause-sessions : goal.returns-clause-sessions
returns-clause-sessions g c =
    let a = c.serve_all.ensures.advances in
    let h = a.goes [] [] [] c.new-table.ensures.history in
    let s = c.args.service.now in
    let spelled = leaves_open (state_in s) (g.met.S.Store.settled s.store.db.idle.conn.store) in
    record {
      all = a.more;
      serves = serves_each s c.serve_all.new.service (map (λ (x : Numbered). x.1) a.more) spelled a.served;
      streams = a.streams;
      accepts = a.accepts;
      within = omega (arith, h.count, c.serve_all.ensures.count);
      others = λ n le. h.later n (omega (arith, le, h.count));
      ends = a.ends;
      closes = a.closes;
      whole = omega (arith, h.total, h.count, c.serve_all.ensures.empty);
      once = h.once;
      visits = h.visits;
    }

pub returns-clause-reports : goal.returns-clause-reports
returns-clause-reports g c =
    ReportsAccept-all g.E.Write.contents c.new-table.result c.serve_all.new.table c.args.connections c.args.errors.now c.serve_all.new.errors c.new-table.ensures.none c.new-table.ensures.unfailed
    c.serve_all.ensures.count c.serve_all.ensures.failed c.serve_all.ensures.reports

pub returns-in_err-with_capacity-clause-sessions : goal.returns-in_err-with_capacity-clause-sessions
returns-in_err-with_capacity-clause-sessions g c =
    let s = c.args.service.now in
    ServesConnections-none g.I.Read.remaining g.O.Write.contents c.args.connections (g.N.Network.accepted c.args.network.now) (g.N.Network.closed c.args.network.now) s (leaves_open (state_in s) (g.met.S.Store.settled s.store.db.idle.conn.store))

pub returns-in_err-new-clause-sessions : goal.returns-in_err-new-clause-sessions
returns-in_err-new-clause-sessions g c =
    let s = c.args.service.now in
    ServesConnections-none g.I.Read.remaining g.O.Write.contents c.args.connections (g.N.Network.accepted c.args.network.now) (g.N.Network.closed c.args.network.now) s (leaves_open (state_in s) (g.met.S.Store.settled s.store.db.idle.conn.store))
