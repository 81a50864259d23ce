use Rattle.std.proofs.Common.{[], ◌∷◌, refl, sym, subst}
use Rattle.reg_jobs.specs.Networks.{Adds}
use Rattle.reg_jobs.specs.Connections.{IsNothing}
use Rattle.reg_jobs.proofs.ConnectionLemmas.{Stays-none, Stays-goes}
use Rattle.reg_jobs.proofs.AdvanceLemmas.{Advances-none, Advances-same, Advances-close}
use Rattle.reg_jobs.proofs.listening.table.Table.close.Goals as goal

pub returns-in-Some-clause-advances : goal.returns-in-Some-clause-advances
returns-in-Some-clause-advances g c =
    let old = c.args.self.now in
    let d = c.in-Some.connection in
    Advances-close g.I.Read.remaining g.O.Write.contents g.N.Network.accepted g.N.Network.closed IsNothing old (record old { connections = c.try_remove.new.self }) c.args.key d d c.args.network.now c.close.new.self []
    c.in-Some.ensures.updates (sym c.in-Some.ensures.value) c.in-Some.ensures.len refl (Stays-goes g.I.Read.remaining g.O.Write.contents d d (Stays-none g.I.Read.remaining g.O.Write.contents d)) refl c.close.ensures.opens
    (subst (λ (p : g.row.I.Denot × g.row.O.Denot). Adds (g.N.Network.closed c.args.network.now) (g.N.Network.closed c.close.new.self) (p ∷ [])) c.into_halves-input.ensures c.close.ensures.closes)

pub returns-in_default-clause-advances : goal.returns-in_default-clause-advances
returns-in_default-clause-advances g c =
    let old = c.args.self.now in
    Advances-same g.I.Read.remaining g.O.Write.contents g.N.Network.accepted g.N.Network.closed IsNothing old old (record old { connections = c.try_remove.new.self }) c.args.network.now c.args.network.now c.in_default.ensures.absent refl
    (Advances-none g.I.Read.remaining g.O.Write.contents g.N.Network.accepted g.N.Network.closed IsNothing old c.args.network.now refl)
