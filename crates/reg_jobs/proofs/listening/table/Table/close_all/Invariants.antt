use Rattle.std.proofs.Common.{◌≡◌, ◌<◌, ◌≤◌, ℕ}
use Rattle.std.specs.Prelude.{None}
use Rattle.slab.specs.Slab.{get}
use Rattle.reg_jobs.specs.Connections.{Advances, IsNothing}
use Rattle.reg_jobs.proofs.listening.table.Table.close_all.Given as goal

abbrev pub invariant-loop-key : goal.invariant-loop-key
invariant-loop-key g l = record {
  advances : Advances g.I.Read.remaining g.O.Write.contents g.N.Network.accepted g.N.Network.closed IsNothing l.initial.self l.initial.network l.self l.network;
  before : (other : ℕ) → other < l.key → get l.self.connections other ≡ None;
  behind : (other : ℕ) → l.key ≤ other → get l.self.connections other ≡ get l.initial.self.connections other;
  count : l.self.accepted ≡ l.initial.self.accepted;
  failed : l.self.has_failed ≡ l.initial.self.has_failed;
}
