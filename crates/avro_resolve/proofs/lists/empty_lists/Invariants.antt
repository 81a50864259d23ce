use Rattle.std.proofs.Common.{◌≡◌, ℕ, [], length}
use Rattle.avro_resolve.specs.Inside.Lists.{list_at}
use Rattle.avro_resolve.proofs.lists.empty_lists.Given as goal

abbrev pub invariant-loop-i : goal.invariant-loop-i
invariant-loop-i g l = record {
  long : length l.lists.items ≡ l._i;
  empty : (place : ℕ) → list_at l.lists.items place ≡ [];
}
