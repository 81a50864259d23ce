use Rattle.std.proofs.Common.{◌-◌, ◌<◌, ◌≤◌, ℕ}
use Rattle.std.specs.Prelude.{IsTrue}
use Rattle.avro_resolve.specs.Inside.Remaining.{remains}
use Rattle.avro_resolve.proofs.table.Table.next_difference.Given as goal

abbrev pub invariant-loop-start : goal.invariant-loop-start
invariant-loop-start l = record {
  on : l.from ≤ l.start;
  within : l.start ≤ l.self.readers;
  before : (j : ℕ) → l.from ≤ j → j < l.start → IsTrue (remains l.self l.i j) → IsTrue (remains l.self l.k j);
}

abbrev pub decreases-loop-start : goal.decreases-loop-start
decreases-loop-start l = l.self.readers - l.start

abbrev pub invariant-loop-at : goal.invariant-loop-at
invariant-loop-at l = (j : ℕ) → l.from ≤ j → j < l.at → IsTrue (remains l.self l.i j) → IsTrue (remains l.self l.k j)
