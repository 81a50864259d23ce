use Rattle.std.proofs.Common.{sym, ◌∙◌, arith}
use Rattle.avro_nodes.proofs.Unchanged.{short_number_stays}
use Rattle.avro_nodes.proofs.plain.is_unchanged.Goals as goal

pub returns-then-is_canonical_decimal : goal.returns-then-is_canonical_decimal
returns-then-is_canonical_decimal c _ = short_number_stays c.args.run.now (sym c.is_canonical_decimal.ensures ∙ c.if-is_canonical_decimal.true) (omega arith)
