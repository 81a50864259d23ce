use Rattle.std.proofs.Common.{◌≡◌, ◌≤◌, length, take}
use Rattle.avro_schema.proofs.BorrowedMembers.{last_in}
use Rattle.avro_schema.proofs.borrowed.last_index.Given as goal

abbrev pub invariant-loop-left : goal.invariant-loop-left
invariant-loop-left l = (last_in l.key l.object.reserved.items ≡ last_in l.key (take l.left l.object.reserved.items)) × (l.left ≤ length l.object.reserved.items)

abbrev pub decreases-loop-left : goal.decreases-loop-left
decreases-loop-left l = l.left
