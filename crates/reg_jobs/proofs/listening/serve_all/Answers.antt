use Rattle.std.proofs.Common.{◌≡◌, ◌∙◌, ◌≤◌, ◌<◌, ℕ, Bool, true, false, refl, sym, subst, arith}
use Rattle.reg_service.specs.Processing.{ProcessesEach}
use Rattle.reg_jobs.specs.Connections.{IsNothing}
use Rattle.reg_jobs.proofs.AdvanceLemmas.{Advances-none, Advances-nothing}
use Rattle.reg_jobs.proofs.ReportLemmas.{ReportsAccept-none}
use Rattle.reg_jobs.proofs.RunLemmas.{Runs, Runs-accept, Runs-turn, Runs-quiet, Runs-same}
use Rattle.reg_jobs.proofs.listening.serve_all.Goals.{in-Accept, in-Turn, in-Close, in-Wait}
use Rattle.reg_jobs.proofs.listening.serve_all.Goals as goal

pub loop-init : goal.loop-init
loop-init g c = record {
  advances = Advances-none g.I.Read.remaining g.O.Write.contents g.N.Network.accepted g.N.Network.closed (ProcessesEach c.args.service.now c.args.service.now) c.args.table.now c.args.network.now refl;
  count = c.requires.count;
  failed = λ f. let clash : true ≡ false = sym f ∙ c.requires.failed in absurd (cc);
  reports = ReportsAccept-none g.E.Write.contents c.args.table.now c.args.table.now c.args.errors.now (omega arith);
}

pub loop-preserved : goal.loop-preserved
loop-preserved g c =
    elim c.match-next_action.branch [
      | in-Accept w ↦
          Runs-same g.I.Read.remaining g.O.Write.contents g.N.Network.accepted g.N.Network.closed g.E.Write.contents c.args.connections c.args.service.now c.loop.service c.match-next_action.service c.args.table.now w.accept.new.table c.match-next_action.table c.args.network.now w.accept.new.network c.match-next_action.network c.args.errors.now w.accept.new.errors c.match-next_action.errors w.service-is w.table-is w.network-is w.errors-is
          (Runs-accept g.I.Read.remaining g.O.Write.contents g.N.Network.accepted g.N.Network.closed g.E.Write.contents c.args.connections c.args.service.now c.loop.service c.args.table.now c.loop.table w.accept.new.table c.args.network.now c.loop.network w.accept.new.network c.args.errors.now c.loop.errors w.accept.new.errors c.loop.invariant (omega (arith, w.if-accepts.true, c.accepted.ensures)) w.accept.ensures.advances w.accept.ensures.count w.accept.ensures.failed w.accept.ensures.reports)
      | in-Turn w ↦
          Runs-same g.I.Read.remaining g.O.Write.contents g.N.Network.accepted g.N.Network.closed g.E.Write.contents c.args.connections c.args.service.now w.take_turn.new.service c.match-next_action.service c.args.table.now w.take_turn.new.table c.match-next_action.table c.args.network.now w.take_turn.new.network c.match-next_action.network c.args.errors.now c.loop.errors c.match-next_action.errors w.service-is w.table-is w.network-is w.errors-is
          (Runs-turn g.I.Read.remaining g.O.Write.contents g.N.Network.accepted g.N.Network.closed g.E.Write.contents c.args.connections c.args.service.now c.loop.service w.take_turn.new.service c.args.table.now c.loop.table w.take_turn.new.table c.args.network.now c.loop.network w.take_turn.new.network c.args.errors.now c.loop.errors c.loop.invariant w.take_turn.ensures.advances w.take_turn.ensures.count w.take_turn.ensures.failed)
      | in-Close w ↦
          Runs-same g.I.Read.remaining g.O.Write.contents g.N.Network.accepted g.N.Network.closed g.E.Write.contents c.args.connections c.args.service.now c.loop.service c.match-next_action.service c.args.table.now w.close.new.self c.match-next_action.table c.args.network.now w.close.new.network c.match-next_action.network c.args.errors.now c.loop.errors c.match-next_action.errors w.service-is w.table-is w.network-is w.errors-is
          (Runs-quiet g.I.Read.remaining g.O.Write.contents g.N.Network.accepted g.N.Network.closed g.E.Write.contents c.args.connections c.args.service.now c.loop.service c.args.table.now c.loop.table w.close.new.self c.args.network.now c.loop.network w.close.new.network c.args.errors.now c.loop.errors c.loop.invariant w.close.ensures.advances w.close.ensures.count w.close.ensures.failed)
      | in-Wait w ↦
          Runs-same g.I.Read.remaining g.O.Write.contents g.N.Network.accepted g.N.Network.closed g.E.Write.contents c.args.connections c.args.service.now c.loop.service c.match-next_action.service c.args.table.now c.loop.table c.match-next_action.table c.args.network.now w.wait.new.network c.match-next_action.network c.args.errors.now c.loop.errors c.match-next_action.errors w.service-is w.table-is w.network-is w.errors-is
          (Runs-quiet g.I.Read.remaining g.O.Write.contents g.N.Network.accepted g.N.Network.closed g.E.Write.contents c.args.connections c.args.service.now c.loop.service c.args.table.now c.loop.table c.loop.table c.args.network.now c.loop.network w.wait.new.network c.args.errors.now c.loop.errors c.loop.invariant (Advances-nothing g.I.Read.remaining g.O.Write.contents g.N.Network.accepted g.N.Network.closed IsNothing c.loop.table c.loop.network w.wait.new.network refl w.wait.ensures) refl refl)
    ]

pub returns-clause-advances : goal.returns-clause-advances
returns-clause-advances g c = (Runs-quiet g.I.Read.remaining g.O.Write.contents g.N.Network.accepted g.N.Network.closed g.E.Write.contents c.args.connections c.args.service.now c.loop.service c.args.table.now c.loop.table c.close_all.new.self c.args.network.now c.loop.network c.close_all.new.network c.args.errors.now c.loop.errors c.loop.invariant c.close_all.ensures.advances c.close_all.ensures.count c.close_all.ensures.failed).advances

pub returns-clause-failed : goal.returns-clause-failed
returns-clause-failed g c f = let h = c.loop.invariant.failed (sym c.close_all.ensures.failed ∙ f) in omega (arith, h, c.close_all.ensures.count)

pub returns-clause-reports : goal.returns-clause-reports
returns-clause-reports g c = (Runs-quiet g.I.Read.remaining g.O.Write.contents g.N.Network.accepted g.N.Network.closed g.E.Write.contents c.args.connections c.args.service.now c.loop.service c.args.table.now c.loop.table c.close_all.new.self c.args.network.now c.loop.network c.close_all.new.network c.args.errors.now c.loop.errors c.loop.invariant c.close_all.ensures.advances c.close_all.ensures.count c.close_all.ensures.failed).reports
