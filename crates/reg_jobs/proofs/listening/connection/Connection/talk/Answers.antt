use Rattle.std.proofs.Common.{[], refl}
use Rattle.reg_service.specs.Processing.{ProcessesEach}
use Rattle.reg_jobs.proofs.ConnectionLemmas.{ConnectionGoes-stays, Stays-both}
use Rattle.reg_jobs.proofs.listening.connection.Connection.talk.Goals as goal

pub returns-in-Some : goal.returns-in-Some
returns-in-Some g c =
    let old = c.args.self.now in
    let mid = c.move_bytes.new.self in
    let new = c.end.new.self in
    ConnectionGoes-stays g.I.Read.remaining g.O.Write.contents (ProcessesEach c.args.service.now c.args.service.now) old new refl
    (Stays-both g.I.Read.remaining g.O.Write.contents old mid new c.move_bytes.ensures.stays c.end.ensures)

pub returns-in_default-next_step : goal.returns-in_default-next_step
returns-in_default-next_step g c =
    let old = c.args.self.now in
    let mid = c.move_bytes.new.self in
    let new = c.settle.new.self in
    ConnectionGoes-stays g.I.Read.remaining g.O.Write.contents (ProcessesEach c.args.service.now c.args.service.now) old new refl
    (Stays-both g.I.Read.remaining g.O.Write.contents old mid new c.move_bytes.ensures.stays c.settle.ensures)
