use Rattle.std.proofs.Common.{◌≡◌, ◌+◌, drop}
use Rattle.std.specs.List.{prefix_len}
use Rattle.avro_nodes.specs.Plain.{is_number_char}
use Rattle.avro_nodes.proofs.plain.run_end.Given as goal

abbrev pub invariant-loop-end : goal.invariant-loop-end
invariant-loop-end l = l.start + prefix_len is_number_char (drop l.start l.bytes) ≡ l.end + prefix_len is_number_char (drop l.end l.bytes)
