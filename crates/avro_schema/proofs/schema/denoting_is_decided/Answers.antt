use Rattle.avro_schema.proofs.TextLemmas.{computed_denotes, denotes_computes}
use Rattle.avro_schema.proofs.schema.denoting_is_decided.Goals as goal

pub returns : goal.returns
returns c = λ text nodes. (computed_denotes text nodes, denotes_computes text nodes)
