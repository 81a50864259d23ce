use Rattle.reg_jobs.proofs.ConnectionLemmas.{Stays-drops, read_bytes}
use Rattle.reg_jobs.proofs.listening.connection.Connection.discard.Goals as goal

pub returns-in-Ok : goal.returns-in-Ok
returns-in-Ok g c =
    let old = c.args.self.now in
    let input = c.read.new.self in
    read_bytes (g.I.Read.remaining old.input) (g.I.Read.remaining input) c.read.result c.read.new.buf c.read.ensures.bytes
    (λ more reads. Stays-drops g.I.Read.remaining g.O.Write.contents old input more c.requires reads)
