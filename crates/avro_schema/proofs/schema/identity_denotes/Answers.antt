use Rattle.avro_schema.proofs.RoundText.{identity_text_denotes}
use Rattle.avro_schema.proofs.schema.identity_denotes.Goals as goal

pub returns : goal.returns
returns c = λ nodes s. identity_text_denotes nodes s
