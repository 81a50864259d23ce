use Rattle.std.proofs.Common.{Option, option_map, ap, ◌∙◌}
use Rattle.serde_json.specs.declared.value.Value.{Value}
use Rattle.serde_json.specs.View.{view, members_view}
use Rattle.serde_json.proofs.Views.{view-lookup}
use Rattle.avro_nodes.proofs.Written.{ordered_entries}
use Rattle.avro_schema.specs.Inside.Reserved.{has_reserved}
use Rattle.avro_schema.proofs.AttributeLemmas.{removed_is}
use Rattle.avro_schema.proofs.ReservedLemmas.{without_unreserved, order_seen}
use Rattle.avro_schema.proofs.others.OtherMembers.take.Goals as goal

pub invariant_of-self : goal.invariant_of-self
invariant_of-self c =
    let old = c.args.self.now.members.entries in
    let left = ap members_view c.remove.ensures.entries ∙ removed_is c.args.key.now old (rw c.remove.ensures.entries at c.remove.ensures.updates.1) in
    record {
      unreserved = ap has_reserved left ∙ without_unreserved c.args.key.now (members_view old) c.args.self.now.unreserved;
      in_order = order_seen _ (ordered_entries _ c.remove.ensures.ordered);
    }

pub returns-clause-value : goal.returns-clause-value
returns-clause-value c = ap (λ (o : Option Value). option_map view o) c.remove.ensures.value ∙ view-lookup c.args.key.now c.args.self.now.members.entries

pub returns-clause-rest : goal.returns-clause-rest
returns-clause-rest c = ap members_view c.remove.ensures.entries ∙ removed_is c.args.key.now c.args.self.now.members.entries (rw c.remove.ensures.entries at c.remove.ensures.updates.1)
