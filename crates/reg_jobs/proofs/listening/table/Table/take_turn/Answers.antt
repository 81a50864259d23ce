use Rattle.std.proofs.Common.{[], ◌∷◌, refl, sym, subst}
use Rattle.reg_service.specs.Processing.{ProcessesEach}
use Rattle.reg_jobs.specs.declared.listening.connection.Connection.{Connection}
use Rattle.reg_jobs.specs.Connections.{Goes}
use Rattle.reg_jobs.specs.Networks.{Adds}
use Rattle.reg_jobs.proofs.AdvanceLemmas.{Advances-none, Advances-same, Advances-turn, Advances-close}
use Rattle.reg_jobs.proofs.listening.table.Table.take_turn.Goals as goal

pub returns-in_default-clause-advances : goal.returns-in_default-clause-advances
returns-in_default-clause-advances g c =
    let old = c.args.self.now in
    let P = ProcessesEach c.args.service.now c.args.service.now in
    Advances-same g.I.Read.remaining g.O.Write.contents g.N.Network.accepted g.N.Network.closed P old old (record old { connections = c.try_remove.new.self }) c.args.network.now c.args.network.now c.in_default.ensures.absent refl
    (Advances-none g.I.Read.remaining g.O.Write.contents g.N.Network.accepted g.N.Network.closed P old c.args.network.now refl)

pub returns-in-Over-clause-advances : goal.returns-in-Over-clause-advances
returns-in-Over-clause-advances g c =
    let old = c.args.self.now in
    let d = c.shrink.new.self in
    let went = c.take_turn.ensures in
    let goes = subst (λ (x : Connection g.row.I.Denot g.row.O.Denot). Goes g.I.Read.remaining g.O.Write.contents went.0 c.in-Some.connection x) (sym c.shrink.ensures) went.2 in
    Advances-close g.I.Read.remaining g.O.Write.contents g.N.Network.accepted g.N.Network.closed (ProcessesEach c.args.service.now c.take_turn.new.service) old (record old { connections = c.try_remove.new.self })
    c.args.key c.in-Some.connection d c.args.network.now c.close.new.self went.0 c.in-Some.ensures.updates (sym c.in-Some.ensures.value) c.in-Some.ensures.len went.1 goes refl c.close.ensures.opens
    (subst (λ (p : g.row.I.Denot × g.row.O.Denot). Adds (g.N.Network.closed c.args.network.now) (g.N.Network.closed c.close.new.self) (p ∷ [])) c.into_halves-input.ensures c.close.ensures.closes)

pub returns-clause-advances : goal.returns-clause-advances
returns-clause-advances g c =
    let old = c.args.self.now in
    let d = c.shrink.new.self in
    let went = c.take_turn.ensures in
    let goes = subst (λ (x : Connection g.row.I.Denot g.row.O.Denot). Goes g.I.Read.remaining g.O.Write.contents went.0 c.in-Some.connection x) (sym c.shrink.ensures) went.2 in
    Advances-turn g.I.Read.remaining g.O.Write.contents g.N.Network.accepted g.N.Network.closed (ProcessesEach c.args.service.now c.take_turn.new.service) old (record old { connections = c.insert_reserved-key.new.self })
    c.try_remove.new.self c.args.key c.insert_reserved-key.result c.in-Some.connection d c.args.network.now went.0 c.in-Some.ensures.updates (sym c.in-Some.ensures.value) c.in-Some.ensures.len went.1 goes
    c.insert_reserved-key.ensures.updates c.insert_reserved-key.ensures.len refl
