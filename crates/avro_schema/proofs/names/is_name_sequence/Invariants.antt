use Rattle.std.proofs.Common.{◌≡◌, true, drop}
use Rattle.avro_schema.proofs.Dotted.{is_rest}
use Rattle.avro_schema.proofs.names.is_name_sequence.Given as goal

abbrev pub invariant-loop-c : goal.invariant-loop-c
invariant-loop-c l = is_rest l.fresh (drop l.c-index l.bytes) ≡ is_rest true l.bytes
