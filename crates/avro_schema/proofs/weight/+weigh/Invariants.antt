use Rattle.std.proofs.Common.{◌≡◌, ◌+◌, ◌*◌, ◌-◌, drop}
use Rattle.serde_json.specs.View.{items_view}
use Rattle.avro_schema.specs.Inside.Borrowed.{items_data}
use Rattle.avro_schema.specs.Inside.Weight.{items_size, field_size, weight}
use Rattle.avro_schema.proofs.weight.+weigh.Given as goal

abbrev pub decreases-after_owned_type : goal.decreases-after_owned_type
decreases-after_owned_type l = 8 * l.depth

abbrev pub decreases-after_tree_type : goal.decreases-after_tree_type
decreases-after_tree_type l = 8 * l.depth + 1

abbrev pub decreases-after_type : goal.decreases-after_type
decreases-after_type l = 8 * l.depth + 2

abbrev pub decreases-after_type_if_any : goal.decreases-after_type_if_any
decreases-after_type_if_any l = 8 * l.depth + 3

abbrev pub decreases-after_branches : goal.decreases-after_branches
decreases-after_branches l = 8 * l.depth + 3

abbrev pub decreases-after_field : goal.decreases-after_field
decreases-after_field l = 8 * l.depth + 4

abbrev pub decreases-after_fields : goal.decreases-after_fields
decreases-after_fields l = 8 * l.depth + 5

abbrev pub decreases-after_record : goal.decreases-after_record
decreases-after_record l = 8 * l.depth + 6

abbrev pub decreases-after_object : goal.decreases-after_object
decreases-after_object l = 8 * l.depth + 7

abbrev pub invariant-after_branches-tree : goal.invariant-after_branches-tree
invariant-after_branches-tree l = l.rest - items_size (weight l.depth l.space) (items_data (drop l.item-index l.item-items)) ≡ l.budget - items_size (weight l.depth l.space) (items_data l.item-items)

abbrev pub invariant-after_branches-owned : goal.invariant-after_branches-owned
invariant-after_branches-owned l = l.rest - items_size (weight l.depth l.space) (items_view (drop l.value-index l.value-items)) ≡ l.budget - items_size (weight l.depth l.space) (items_view l.value-items)

abbrev pub invariant-after_fields-tree : goal.invariant-after_fields-tree
invariant-after_fields-tree l =
    l.rest - items_size (field_size (weight l.depth l.space)) (items_data (drop l.item-index l.item-items)) ≡ l.budget - items_size (field_size (weight l.depth l.space)) (items_data l.item-items)

abbrev pub invariant-after_fields-owned : goal.invariant-after_fields-owned
invariant-after_fields-owned l =
    l.rest - items_size (field_size (weight l.depth l.space)) (items_view (drop l.value-index l.value-items)) ≡ l.budget - items_size (field_size (weight l.depth l.space)) (items_view l.value-items)
