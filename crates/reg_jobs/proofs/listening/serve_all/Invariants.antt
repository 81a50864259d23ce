use Rattle.reg_jobs.proofs.RunLemmas.{Runs}
use Rattle.reg_jobs.proofs.listening.serve_all.Given as goal

abbrev pub invariant-loop : goal.invariant-loop
invariant-loop g l = Runs g.I.Read.remaining g.O.Write.contents g.N.Network.accepted g.N.Network.closed g.E.Write.contents l.connections l.initial.service l.service l.initial.table l.table l.initial.network l.network l.initial.errors l.errors
