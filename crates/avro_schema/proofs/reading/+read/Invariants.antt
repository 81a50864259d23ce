use Rattle.std.proofs.Common.{◌≡◌, ◌+◌, ◌*◌, length, map}
use Rattle.std.specs.Vec.Iter.{into_iter_items, into_iter_len}
use Rattle.serde_json.specs.View.{items_view}
use Rattle.avro_schema.specs.Inside.Borrowed.{items_data}
use Rattle.avro_nodes.specs.Nodes.{field_view, nodes_view}
use Rattle.avro_schema.specs.Inside.KindNumbers.{branch_view}
use Rattle.avro_schema.specs.Inside.Types.{branch_of, field_of, type_at}
use Rattle.avro_schema.specs.Inside.NameTables.{known_in, KeepsNumbers}
use Rattle.avro_schema.proofs.Sequence.{Going}
use Rattle.avro_schema.proofs.reading.+read.Given as goal

abbrev pub decreases-type_at : goal.decreases-type_at
decreases-type_at l = 8 * l.depth

abbrev pub decreases-branch_at : goal.decreases-branch_at
decreases-branch_at l = 8 * l.depth + 1

abbrev pub decreases-field_at : goal.decreases-field_at
decreases-field_at l = 8 * l.depth + 1

abbrev pub decreases-tree_fields_at : goal.decreases-tree_fields_at
decreases-tree_fields_at l = 8 * l.depth + 2

abbrev pub decreases-owned_fields_at : goal.decreases-owned_fields_at
decreases-owned_fields_at l = 8 * l.depth + 2

abbrev pub decreases-tree_branches_at : goal.decreases-tree_branches_at
decreases-tree_branches_at l = 8 * l.depth + 2

abbrev pub decreases-owned_branches_at : goal.decreases-owned_branches_at
decreases-owned_branches_at l = 8 * l.depth + 2

abbrev pub decreases-fields_at : goal.decreases-fields_at
decreases-fields_at l = 8 * l.depth + 3

abbrev pub decreases-branches_at : goal.decreases-branches_at
decreases-branches_at l = 8 * l.depth + 3

abbrev pub decreases-union_at : goal.decreases-union_at
decreases-union_at l = 8 * l.depth + 4

abbrev pub decreases-record_at : goal.decreases-record_at
decreases-record_at l = 8 * l.depth + 4

abbrev pub decreases-container_at : goal.decreases-container_at
decreases-container_at l = 8 * l.depth + 4

abbrev pub decreases-object_at : goal.decreases-object_at
decreases-object_at l = 8 * l.depth + 5

abbrev pub decreases-owned_type_at : goal.decreases-owned_type_at
decreases-owned_type_at l = 8 * l.depth + 6

abbrev pub invariant-tree_branches_at-loop-item : goal.invariant-tree_branches_at-loop-item
invariant-tree_branches_at-loop-item l =
    Going (branch_of (type_at l.depth l.space.text.now)) (items_data (into_iter_items l.initial.item-iterator)) (known_in l.initial.known) (length l.initial.nodes.items) (nodes_view l.initial.nodes.items)
    (map branch_view l.branches.items) (nodes_view l.nodes.items) (known_in l.known) (length l.nodes.items) (items_data (into_iter_items l.item-iterator))
    × (into_iter_len l.item-iterator ≡ length (into_iter_items l.item-iterator))
    × KeepsNumbers l.initial.known l.known

abbrev pub invariant-owned_branches_at-loop-value : goal.invariant-owned_branches_at-loop-value
invariant-owned_branches_at-loop-value l =
    Going (branch_of (type_at l.depth l.space.text.now)) (items_view (into_iter_items l.initial.value-iterator)) (known_in l.initial.known) (length l.initial.nodes.items) (nodes_view l.initial.nodes.items)
    (map branch_view l.branches.items) (nodes_view l.nodes.items) (known_in l.known) (length l.nodes.items) (items_view (into_iter_items l.value-iterator))
    × (into_iter_len l.value-iterator ≡ length (into_iter_items l.value-iterator))
    × KeepsNumbers l.initial.known l.known

abbrev pub invariant-tree_fields_at-loop-item : goal.invariant-tree_fields_at-loop-item
invariant-tree_fields_at-loop-item l =
    Going (field_of (type_at l.depth l.space.text.now)) (items_data (into_iter_items l.initial.item-iterator)) (known_in l.initial.known) (length l.initial.nodes.items) (nodes_view l.initial.nodes.items)
    (map field_view l.fields.items) (nodes_view l.nodes.items) (known_in l.known) (length l.nodes.items) (items_data (into_iter_items l.item-iterator))
    × (into_iter_len l.item-iterator ≡ length (into_iter_items l.item-iterator))
    × KeepsNumbers l.initial.known l.known

abbrev pub invariant-owned_fields_at-loop-value : goal.invariant-owned_fields_at-loop-value
invariant-owned_fields_at-loop-value l =
    Going (field_of (type_at l.depth l.space.text.now)) (items_view (into_iter_items l.initial.value-iterator)) (known_in l.initial.known) (length l.initial.nodes.items) (nodes_view l.initial.nodes.items)
    (map field_view l.fields.items) (nodes_view l.nodes.items) (known_in l.known) (length l.nodes.items) (items_view (into_iter_items l.value-iterator))
    × (into_iter_len l.value-iterator ≡ length (into_iter_items l.value-iterator))
    × KeepsNumbers l.initial.known l.known
