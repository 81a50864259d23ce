use Rattle.std.proofs.Common.{sym, ap, ◌∙◌}
use Rattle.avro_schema.specs.DenotedNodes.{denoted_nodes}
use Rattle.avro_schema.proofs.TextLemmas.{one_schema, computed_denotes}
use Rattle.schema_cache.proofs.OfTexts.{of_text}
use Rattle.schema_cache.proofs.cache.SchemaCache.read.Goals as goal

pub returns-in-Ok-Some-clause-ok : goal.returns-in-Ok-Some-clause-ok
returns-in-Ok-Some-clause-ok c = computed_denotes _ _ (rw c.in-Ok-Some.field-0-is at c.in-Ok-Some.ensures.ok)

pub returns-in-Ok-Some-clause-unique : goal.returns-in-Ok-Some-clause-unique
returns-in-Ok-Some-clause-unique c = λ nodes t. one_schema _ _ _ t (computed_denotes _ _ (rw c.in-Ok-Some.field-0-is at c.in-Ok-Some.ensures.ok))

pub returns-in-Some-clause-ok : goal.returns-in-Some-clause-ok
returns-in-Some-clause-ok c =
    let same = of_text _ _ _ (sym c.in-Some.ensures) (rw c.in-Ok-None.field-0-is at c.in-Ok-None.ensures.ok) in
    computed_denotes _ _ (ap denoted_nodes (sym same) ∙ c.schema.ensures.denotes)

pub returns-in-Some-clause-unique : goal.returns-in-Some-clause-unique
returns-in-Some-clause-unique c =
    let same = of_text _ _ _ (sym c.in-Some.ensures) (rw c.in-Ok-None.field-0-is at c.in-Ok-None.ensures.ok) in
    λ nodes t. one_schema _ _ _ t (computed_denotes _ _ (ap denoted_nodes (sym same) ∙ c.schema.ensures.denotes))
