use Rattle.std.proofs.Common.{Option, Some, option_map, ap, ◌∙◌}
use Rattle.serde_json.specs.Data.{Data}
use Rattle.serde_json.specs.declared.value.Value.{Value}
use Rattle.serde_json.specs.View.{view, members_view}
use Rattle.serde_json.proofs.Views.{view-lookup}
use Rattle.avro_schema.proofs.AttributeLemmas.{removed_is}
use Rattle.avro_schema.proofs.BorrowedLemmas.{of_Owned}
use Rattle.avro_schema.proofs.attribute_map.take.Goals as goal

pub returns-in-Some-clause-value : goal.returns-in-Some-clause-value
returns-in-Some-clause-value c =
    rw c.in-Owned.is (ap (λ (d : Data). Some d) (of_Owned c.in-Some.value) ∙ ap (λ (o : Option Value). option_map view o) c.in-Some.ensures.value ∙ view-lookup c.args.key.now c.in-Owned.map.entries)

pub returns-in-Some-clause-rest : goal.returns-in-Some-clause-rest
returns-in-Some-clause-rest c =
    rw c.in-Owned.is (ap members_view c.remove.ensures.entries ∙ removed_is c.args.key.now c.in-Owned.map.entries (rw c.remove.ensures.entries at c.remove.ensures.updates.1))

pub returns-in-None-clause-value : goal.returns-in-None-clause-value
returns-in-None-clause-value c =
    rw c.in-Owned.is (ap (λ (o : Option Value). option_map view o) c.in-None.ensures.value ∙ view-lookup c.args.key.now c.in-Owned.map.entries)

pub returns-in-None-clause-rest : goal.returns-in-None-clause-rest
returns-in-None-clause-rest c =
    rw c.in-Owned.is (ap members_view c.remove.ensures.entries ∙ removed_is c.args.key.now c.in-Owned.map.entries (rw c.remove.ensures.entries at c.remove.ensures.updates.1))
