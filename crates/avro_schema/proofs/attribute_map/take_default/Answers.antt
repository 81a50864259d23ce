use Rattle.std.proofs.Common.{Option, option_map, codes, ap, ◌∙◌}
use Rattle.serde_json.specs.declared.value.Value.{Value}
use Rattle.serde_json.specs.View.{view, members_view}
use Rattle.serde_json.proofs.Views.{view-lookup}
use Rattle.avro_schema.proofs.AttributeLemmas.{removed_is}
use Rattle.avro_schema.proofs.attribute_map.take_default.Goals as goal

pub returns-in-Owned-clause-value : goal.returns-in-Owned-clause-value
returns-in-Owned-clause-value c =
    rw c.in-Owned.is (ap (λ (o : Option Value). option_map view o) c.remove.ensures.value ∙ view-lookup (codes "default") c.in-Owned.map.entries)

pub returns-in-Owned-clause-rest : goal.returns-in-Owned-clause-rest
returns-in-Owned-clause-rest c =
    rw c.in-Owned.is (ap members_view c.remove.ensures.entries ∙ removed_is (codes "default") c.in-Owned.map.entries (rw c.remove.ensures.entries at c.remove.ensures.updates.1))
