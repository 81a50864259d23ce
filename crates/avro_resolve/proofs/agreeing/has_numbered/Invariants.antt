use Rattle.std.proofs.Common.{ℕ, ◌+◌, ◌-◌, ◌<◌, ◌≤◌, All, get_or, length, take}
use Rattle.std.specs.Prelude.{Contains}
use Rattle.avro_resolve.proofs.agreeing.has_numbered.Given as goal

abbrev pub invariant-loop-known : goal.invariant-loop-known
invariant-loop-known l = record {
  begun : 1 ≤ l.next;
  within : l.next ≤ length l.symbols + 1;
  seen : All (Contains l.list) (take (l.next - 1) l.symbols);
  before : All (Contains l.list) l.symbols → (k m : ℕ) → k < l.known-index → l.next - 1 ≤ m → m < length l.symbols → get_or l.list k 0 < get_or l.symbols m 0;
}
