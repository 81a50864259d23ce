use Rattle.std.proofs.Common.{[], refl}
use Rattle.reg_service.specs.Processing.{ProcessesEach}
use Rattle.reg_jobs.proofs.ConnectionLemmas.{ConnectionGoes-stays}
use Rattle.reg_jobs.proofs.listening.connection.Connection.take_turn.Goals as goal

pub returns-then-self : goal.returns-then-self
returns-then-self g c =
    ConnectionGoes-stays g.I.Read.remaining g.O.Write.contents (ProcessesEach c.args.service.now c.args.service.now) c.args.self.now c.discard.new.self refl c.discard.ensures
