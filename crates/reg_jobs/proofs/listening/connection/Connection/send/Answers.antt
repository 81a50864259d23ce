use Rattle.std.proofs.KnownBytes.{Keeps-refl}
use Rattle.reg_jobs.proofs.ConnectionLemmas.{Stays-sends, Stays-kept, either_way}
use Rattle.reg_jobs.proofs.listening.connection.Connection.send.Goals as goal

pub returns-clause-stays : goal.returns-clause-stays
returns-clause-stays g c =
    let old = c.args.self.now in
    let talk = c.send-sent.new.self in
    let output = c.send-sent.new.writer in
    either_way c.send-sent.result c.send-sent.ensures.ok c.send-sent.ensures.err
    (λ n got. Stays-sends g.I.Read.remaining g.O.Write.contents old talk output got.0 got.2 got.3)
    (λ failed. Stays-kept g.I.Read.remaining g.O.Write.contents old talk old.input output failed.0 (Keeps-refl (g.I.Read.remaining old.input)) failed.1)
