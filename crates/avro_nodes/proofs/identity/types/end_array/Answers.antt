use Rattle.std.proofs.Common.{[]}
use Rattle.std.proofs.lemmas.Result.{on_ok_weaker}
use Rattle.avro_nodes.proofs.identity.types.end_array.Goals as goal

pub returns : goal.returns
returns c = on_ok_weaker c.write_rest.result (λ rest. c.in_ok-write_text.ensures [] c.write_rest.new.out rest) c.write_rest.ensures
