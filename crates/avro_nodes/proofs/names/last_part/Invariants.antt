use Rattle.std.proofs.Common.{◌≡◌, ◌+◌, ◌≤◌, length, take}
use Rattle.std.specs.List.{suffix_len}
use Rattle.avro_nodes.proofs.NameLemmas.{is_no_dot}
use Rattle.avro_nodes.proofs.names.last_part.Given as goal

abbrev pub invariant-loop-start : goal.invariant-loop-start
invariant-loop-start l = record { within : l.start ≤ length l.bytes; passed : l.start + suffix_len is_no_dot l.bytes ≡ length l.bytes + suffix_len is_no_dot (take l.start l.bytes) }

abbrev pub decreases-loop-start : goal.decreases-loop-start
decreases-loop-start l = l.start
