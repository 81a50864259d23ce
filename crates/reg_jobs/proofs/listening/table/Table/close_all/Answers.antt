use Rattle.std.proofs.Common.{◌≡◌, ◌≢◌, ◌⊎◌, ◌∙◌, ◌<◌, ◌≤◌, ◌+◌, ℕ, List, [], ◌++◌, inl, inr, ap, arith, length, refl, sym}
use Rattle.std.specs.Prelude.{None}
use Rattle.std.proofs.lemmas.Bool.{cases_eq, cases_lt}
use Rattle.slab.specs.Slab.{get}
use Rattle.reg_service.specs.Deliveries.{Exchange}
use Rattle.reg_jobs.specs.Connections.{IsNothing}
use Rattle.reg_jobs.proofs.AdvanceLemmas.{Advances-none, Advances-then, slab_len-none, get-past}
use Rattle.reg_jobs.proofs.listening.table.Table.close_all.Goals as goal

pub loop-key-init : goal.loop-key-init
loop-key-init g c = record {
  advances = Advances-none g.I.Read.remaining g.O.Write.contents g.N.Network.accepted g.N.Network.closed IsNothing c.args.self.now c.args.network.now refl;
  before = λ other below. absurd (omega (arith, below));
  behind = λ other above. refl;
  count = refl;
  failed = refl;
}

pub loop-key-preserved : goal.loop-key-preserved
loop-key-preserved g c =
    let inv = c.loop-key.invariant in
    let now = c.close.new.self.connections in
    let was = c.loop-key.self.connections in
    let key = c.loop-key.key in
    record {
      advances = Advances-then g.I.Read.remaining g.O.Write.contents g.N.Network.accepted g.N.Network.closed IsNothing c.args.self.now c.loop-key.self c.close.new.self c.args.network.now c.loop-key.network c.close.new.network inv.advances c.close.ensures.advances;
      before = λ other below. none other below (cases_eq other key);
      behind = λ other above. c.close.ensures.removes.others other (λ same. omega (arith, same, above)) ∙ inv.behind other (omega (arith, above));
      count = c.close.ensures.count ∙ inv.count;
      failed = c.close.ensures.failed ∙ inv.failed;
    }
  where
    none : (other : ℕ) → other < c.loop-key.key + 1 → (other ≡ c.loop-key.key) ⊎ (other ≢ c.loop-key.key) → get c.close.new.self.connections other ≡ None
    none other below (inl same) = ap (get c.close.new.self.connections) same ∙ c.close.ensures.removes.changed
    none other below (inr differs) = c.close.ensures.removes.others other differs ∙ c.loop-key.invariant.before other (omega (arith, below, differs))

pub returns-clause-empty : goal.returns-clause-empty
returns-clause-empty g c = slab_len-none c.loop-key.self.connections (λ key. none key (cases_lt key c.loop-key.key))
  where
    none : (key : ℕ) → (key < c.loop-key.key) ⊎ (c.loop-key.key ≤ key) → get c.loop-key.self.connections key ≡ None
    none key (inl below) = c.loop-key.invariant.before key below
    none key (inr above) =
        c.loop-key.invariant.behind key above
        ∙ get-past c.args.self.now.connections key (omega (arith, above, c.loop-key-test.false, c.capacity-key-end.ensures.slots))
