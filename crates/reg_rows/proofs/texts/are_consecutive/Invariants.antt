use Rattle.std.specs.Prelude.{◌≡◌, ◌+◌, drop}
use Rattle.reg_rows.specs.Spelling.{AreConsecutive}
use Rattle.reg_rows.proofs.texts.are_consecutive.Given as goal

abbrev pub invariant-loop-number : goal.invariant-loop-number
invariant-loop-number l =
    (l.next ≡ l.number-index + 1) × (AreConsecutive l.next (drop l.number-index l.numbers) → AreConsecutive 1 l.numbers)
    × (AreConsecutive 1 l.numbers → AreConsecutive l.next (drop l.number-index l.numbers))
