use Rattle.avro_schema.proofs.TextLemmas.{one_schema}
use Rattle.avro_schema.proofs.RoundText.{kept_denotes}
use Rattle.avro_schema.proofs.schema.Schema.text.Goals as goal

pub returns : goal.returns
returns c =
    let kept = c.self.invariant.0 in
    let here = kept_denotes _ _ kept in
    rw (c.in_ok-from_str.ensures.ok, c.as_str.ensures.value, ← c.self.view_is) (record { text = kept.text_is; denotes = here; unique = λ nodes t. one_schema _ _ _ t here })
