use Rattle.std.proofs.Common.{◌≡◌, get_or, true, false, arith}
use Rattle.std.specs.Prelude.{◌==◌}
use Rattle.std.proofs.lemmas.Bool.Decides.{nat_tests}
use Rattle.avro_nodes.proofs.Runs.{byte_skipped, string_skipped}
use Rattle.avro_nodes.proofs.plain.next_outside.Goals as goal

pub returns-then-bytes-at-eq34-clause-pieces : goal.returns-then-bytes-at-eq34-clause-pieces
returns-then-bytes-at-eq34-clause-pieces c =
    let quote : (get_or c.args.bytes.now c.args.at 0 == 34) ≡ true = grind (arith, nat_tests) in
    string_skipped c.args.bytes.now c.args.at c.string_end.result c.requires.0 c.requires.1 quote c.string_end.ensures.bounds.0 c.string_end.ensures.pieces

pub returns-else-bytes-at-eq34-clause-pieces : goal.returns-else-bytes-at-eq34-clause-pieces
returns-else-bytes-at-eq34-clause-pieces c =
    let other : (get_or c.args.bytes.now c.args.at 0 == 34) ≡ false = grind (arith, nat_tests) in
    byte_skipped c.args.bytes.now c.args.at c.requires.0 c.requires.1 other
