use Rattle.std.proofs.Common.{ℕ, ◌<◌, ◌≤◌, All, get_or, length, take}
use Rattle.std.specs.Prelude.{Contains}
use Rattle.avro_resolve.proofs.agreeing.has_all.Given as goal

abbrev pub invariant-loop-known : goal.invariant-loop-known
invariant-loop-known l = record {
  within : l.matched_count ≤ length l.numbers;
  seen : All (Contains l.list) (take l.matched_count l.numbers);
  before : (k m : ℕ) → k < l.known-index → l.matched_count ≤ m → m < length l.numbers → get_or l.list k 0 < get_or l.numbers m 0;
}
