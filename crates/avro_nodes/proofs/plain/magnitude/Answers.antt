use Rattle.std.proofs.Common.{◌∙◌, sym}
use Rattle.avro_nodes.proofs.Numbers.{magnitude_is}
use Rattle.avro_nodes.proofs.plain.magnitude.Goals as goal

pub returns : goal.returns
returns c = c.ok.ensures.value ∙ magnitude_is c.args.digits.now c.parse.result c.parse.ensures.value.0 (sym c.is_canonical_decimal.ensures ∙ c.if-not-is_canonical_decimal.false)
