use Rattle.std.proofs.lemmas.Result.{on_ok_weaker}
use Rattle.avro_nodes.proofs.Written.{name_written}
use Rattle.avro_nodes.proofs.attributes.write_name.Goals as goal

pub returns : goal.returns
returns c = on_ok_weaker c.key.result (λ e. name_written _ _ _ _ _ _ c.in_ok-write_others_before.ensures e) c.key.ensures
