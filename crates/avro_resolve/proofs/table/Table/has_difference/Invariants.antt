use Rattle.std.proofs.Common.{◌≡◌, ◌<◌, ◌≤◌, ℕ, false}
use Rattle.std.specs.Prelude.{IsTrue}
use Rattle.avro_resolve.specs.Inside.Remaining.{remains}
use Rattle.avro_resolve.proofs.table.Table.has_difference.Given as goal

abbrev pub invariant-loop-at : goal.invariant-loop-at
invariant-loop-at l = l.apart ≡ false → (j : ℕ) → l.from ≤ j → j < l.at → IsTrue (remains l.self l.i j) → IsTrue (remains l.self l.k j)
