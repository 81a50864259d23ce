use Rattle.std.proofs.Common.{arith}
use Rattle.std.proofs.lemmas.Grind.{common_steps}
use Rattle.avro_resolve.proofs.Flags.{flag_at}
use Rattle.avro_resolve.proofs.table.Table.has.Goals as goal

pub returns : goal.returns
returns c = grind (arith, common_steps, flag_at)
