use Rattle.std.proofs.Common.{◌≡◌, ◌∙◌, ◌+◌, [], ◌∷◌, ap, refl, sym, subst}
use Rattle.reg_jobs.specs.declared.listening.connection.Connection.{Connection}
use Rattle.reg_jobs.specs.Networks.{Adds}
use Rattle.reg_jobs.specs.Connections.{IsUnderWay}
use Rattle.reg_jobs.proofs.AdvanceLemmas.{Enters-put, Enters-closed}
use Rattle.reg_jobs.proofs.listening.table.Table.add.Goals as goal

pub returns-in-Ok-clause-adds : goal.returns-in-Ok-clause-adds
returns-in-Ok-clause-adds g c =
    let old = c.args.self.now in
    Enters-put g.I.Read.remaining g.O.Write.contents g.N.Network.accepted g.N.Network.closed old (record old { connections = c.insert.new.self; accepted = old.accepted + 1 })
    c.in-Ok.key (c.args.input, c.args.output) c.of-connection.result c.args.network.now c.of-connection.ensures.number c.of-connection.ensures.begins c.in-Ok.ensures.updates c.in-Ok.ensures.len refl

pub returns-in-Err-clause-adds : goal.returns-in-Err-clause-adds
returns-in-Err-clause-adds g c =
    let old = c.args.self.now in
    let d = c.in-Err.failed.value in
    let it = c.in-Err.ensures.value_returned in
    let begins = subst (λ (x : Connection g.row.I.Denot g.row.O.Denot). IsUnderWay g.I.Read.remaining g.O.Write.contents [] (c.args.input, c.args.output) x) (sym it) c.of-connection.ensures.begins in
    Enters-closed g.I.Read.remaining g.O.Write.contents g.N.Network.accepted g.N.Network.closed old (record old { connections = c.insert.new.self; accepted = old.accepted + 1 })
    (c.args.input, c.args.output) d c.args.network.now c.close.new.self (ap (λ (x : Connection g.row.I.Denot g.row.O.Denot). x.number) it ∙ c.of-connection.ensures.number) begins c.in-Err.ensures.err refl c.close.ensures.opens
    (subst (λ (p : g.row.I.Denot × g.row.O.Denot). Adds (g.N.Network.closed c.args.network.now) (g.N.Network.closed c.close.new.self) (p ∷ [])) c.into_halves-input.ensures c.close.ensures.closes)
