use Rattle.std.proofs.Common.{string_bytes, ap, ◌∙◌}
use Rattle.serde_json.specs.View.{view, members_view}
use Rattle.serde_json.proofs.Views.{members_view-insert_entry}
use Rattle.avro_nodes.proofs.Written.{ordered_entries}
use Rattle.avro_schema.specs.Inside.Reserved.{has_reserved}
use Rattle.avro_schema.proofs.ReservedLemmas.{either_way, put_unreserved, order_seen}
use Rattle.avro_schema.proofs.others.OtherMembers.put.Goals as goal

pub invariant_of-self : goal.invariant_of-self
invariant_of-self c =
    let old = c.args.self.now.members.entries in
    let k = c.args.key in
    let v = c.args.value in
    record {
      unreserved = either_way c.insert.result c.insert.ensures.entries c.insert.ensures.err
          (λ e. ap (λ es. has_reserved (members_view es)) e ∙ ap has_reserved (members_view-insert_entry old k v) ∙ put_unreserved (string_bytes k) (view v) (members_view old) c.requires c.args.self.now.unreserved)
          (λ e. ap (λ es. has_reserved (members_view es)) e ∙ c.args.self.now.unreserved);
      in_order = order_seen _ (ordered_entries _ c.insert.ensures.ordered);
    }

pub returns : goal.returns
returns c = ap members_view c.in_ok-insert.ensures.entries ∙ members_view-insert_entry c.args.self.now.members.entries c.args.key c.args.value
