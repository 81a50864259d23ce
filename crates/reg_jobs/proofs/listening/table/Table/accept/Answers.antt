use Rattle.std.proofs.Common.{false, refl}
use Rattle.reg_jobs.specs.Connections.{IsNothing}
use Rattle.reg_jobs.proofs.AdvanceLemmas.{Advances-nothing, Advances-same, Advances-enters}
use Rattle.reg_jobs.proofs.listening.table.Table.accept.Goals as goal

pub returns-in-Ok-clause-advances : goal.returns-in-Ok-clause-advances
returns-in-Ok-clause-advances g c =
    let old = c.args.self.now in
    Advances-enters g.I.Read.remaining g.O.Write.contents g.N.Network.accepted g.N.Network.closed old (record old { has_failed = false }) c.add.new.self (c.in-Ok.input, c.in-Ok.output) c.args.network.now c.accept.new.self c.add.new.network
    refl refl c.in-Ok.ensures.ok.0 c.in-Ok.ensures.ok.1 c.add.ensures.adds

pub returns-in-Err-clause-advances : goal.returns-in-Err-clause-advances
returns-in-Err-clause-advances g c =
    Advances-nothing g.I.Read.remaining g.O.Write.contents g.N.Network.accepted g.N.Network.closed IsNothing c.args.self.now c.args.network.now c.accept.new.self refl c.in-Err.ensures.err

pub returns-in-Err-2-clause-advances : goal.returns-in-Err-2-clause-advances
returns-in-Err-2-clause-advances g c =
    Advances-nothing g.I.Read.remaining g.O.Write.contents g.N.Network.accepted g.N.Network.closed IsNothing c.args.self.now c.args.network.now c.accept.new.self refl c.in-Err-2.ensures.err

pub returns-in-Err-3-clause-advances : goal.returns-in-Err-3-clause-advances
returns-in-Err-3-clause-advances g c =
    let old = c.args.self.now in
    Advances-same g.I.Read.remaining g.O.Write.contents g.N.Network.accepted g.N.Network.closed IsNothing old old c.fail.new.self c.args.network.now c.accept.new.self c.fail.ensures.same c.fail.ensures.count
    (Advances-nothing g.I.Read.remaining g.O.Write.contents g.N.Network.accepted g.N.Network.closed IsNothing old c.args.network.now c.accept.new.self refl c.in-Err-3.ensures.err)
