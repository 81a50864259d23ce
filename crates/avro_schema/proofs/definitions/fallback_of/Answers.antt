use Rattle.std.proofs.Common.{sym, ◌∙◌}
use Rattle.avro_schema.proofs.AttributeLemmas.{symbol_there}
use Rattle.avro_schema.proofs.definitions.fallback_of.Goals as goal

pub returns-then-has_symbol : goal.returns-then-has_symbol
returns-then-has_symbol c = rw c.in-Some.is (symbol_there _ _ _ _ c.in-Some-text_of.ensures (rw c.as_str.ensures.value at (sym c.has_symbol.ensures ∙ c.if-has_symbol.true)))

pub returns-else-has_symbol : goal.returns-else-has_symbol
returns-else-has_symbol c = rw c.in-Some.is (symbol_there _ _ _ _ c.in-Some-text_of.ensures (rw c.as_str.ensures.value at (sym c.has_symbol.ensures ∙ c.if-has_symbol.false)))
