use Rattle.std.proofs.Common.{refl}
use Rattle.reg_service.specs.Processing.{ProcessesEach}
use Rattle.reg_jobs.proofs.AdvanceLemmas.{Advances-none}
use Rattle.reg_jobs.proofs.listening.take_turn.Goals as goal

pub returns-in_default-clause-advances : goal.returns-in_default-clause-advances
returns-in_default-clause-advances g c =
    Advances-none g.I.Read.remaining g.O.Write.contents g.N.Network.accepted g.N.Network.closed (ProcessesEach c.args.service.now c.args.service.now) c.args.table.now c.args.network.now refl
