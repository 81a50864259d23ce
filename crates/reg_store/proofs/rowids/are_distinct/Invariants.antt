use Rattle.std.proofs.Common.{◌≢◌, ℕ, pos, ◌+◌, ◌<◌, get_or}
use Rattle.reg_store.proofs.rowids.are_distinct.Given as goal

abbrev pub invariant-loop-i : goal.invariant-loop-i
invariant-loop-i l = (k : ℕ) → k + 1 < l.i → get_or l.numbers k (pos 0) ≢ get_or l.numbers (k + 1) (pos 0)
