use Rattle.std.proofs.Common.{◌≡◌, ◌-◌, drop}
use Rattle.serde_json.specs.View.{items_view}
use Rattle.avro_schema.specs.Inside.Borrowed.{items_data}
use Rattle.avro_schema.specs.Inside.Weight.{items_size, alias_size}
use Rattle.avro_schema.proofs.weight.after_aliases.Given as goal

abbrev pub invariant-tree : goal.invariant-tree
invariant-tree l = l.rest - items_size (alias_size l.space) (items_data (drop l.item-index l.item-items)) ≡ l.budget - items_size (alias_size l.space) (items_data l.item-items)

abbrev pub invariant-owned : goal.invariant-owned
invariant-owned l = l.rest - items_size (alias_size l.space) (items_view (drop l.value-index l.value-items)) ≡ l.budget - items_size (alias_size l.space) (items_view l.value-items)
