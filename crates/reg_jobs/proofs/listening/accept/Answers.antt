use Rattle.reg_jobs.specs.Connections.{IsNothing}
use Rattle.reg_jobs.proofs.AdvanceLemmas.{Advances-then}
use Rattle.reg_jobs.proofs.ReportLemmas.{ReportsAccept-same}
use Rattle.reg_jobs.proofs.listening.accept.Goals as goal

pub returns-then-not-add-clause-advances : goal.returns-then-not-add-clause-advances
returns-then-not-add-clause-advances g c =
    Advances-then g.I.Read.remaining g.O.Write.contents g.N.Network.accepted g.N.Network.closed IsNothing c.args.table.now c.accept.new.self c.close.new.self c.args.network.now c.accept.new.network c.close.new.network
    c.accept.ensures.advances c.close.ensures.advances
