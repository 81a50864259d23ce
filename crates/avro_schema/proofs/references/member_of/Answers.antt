use Rattle.std.proofs.Common.{Option, option_map, ap, ◌∙◌}
use Rattle.serde_json.specs.declared.value.Value.{Value}
use Rattle.serde_json.specs.View.{view}
use Rattle.serde_json.proofs.Views.{view-lookup, view_of_ref}
use Rattle.avro_schema.proofs.references.member_of.Goals as goal

pub returns : goal.returns
returns c = view_of_ref c.get.result ∙ ap (λ (o : Option Value). option_map view o) c.get.ensures.value ∙ view-lookup c.args.key.now c.args.members.now.entries
