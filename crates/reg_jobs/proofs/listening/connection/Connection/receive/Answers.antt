use Rattle.std.proofs.KnownBytes.{Keeps-refl}
use Rattle.reg_jobs.proofs.ConnectionLemmas.{Stays-receives, Stays-kept, either_way}
use Rattle.reg_jobs.proofs.listening.connection.Connection.receive.Goals as goal

pub returns-clause-stays : goal.returns-clause-stays
returns-clause-stays g c =
    let old = c.args.self.now in
    let talk = c.receive-received.new.self in
    let input = c.receive-received.new.reader in
    either_way c.receive-received.result c.receive-received.ensures.ok c.receive-received.ensures.err
    (λ n got. Stays-receives g.I.Read.remaining g.O.Write.contents old talk input got.0 c.requires.talks got.2 got.3)
    (λ failed. Stays-kept g.I.Read.remaining g.O.Write.contents old talk input old.output failed.0 failed.1 (Keeps-refl (g.O.Write.contents old.output)))
