use Rattle.std.proofs.Common.{◌≡◌, ◌≤◌, ◌*◌, length}
use Rattle.std.specs.Vec.Iter.{into_iter_items, into_iter_len}
use Rattle.serde_json.specs.View.{items_view, members_view}
use Rattle.avro_schema.specs.Inside.Borrowed.{put_all, items_data, object_data, items_on}
use Rattle.avro_schema.proofs.BorrowedLemmas.{size, items_size, members_size}
use Rattle.avro_schema.proofs.BorrowedMembers.{read_of}
use Rattle.avro_schema.proofs.owning.+own.Given as goal

abbrev pub decreases-owned : goal.decreases-owned
decreases-owned l = 2 * size l.value

abbrev pub decreases-owned_items : goal.decreases-owned_items
decreases-owned_items l = 2 * items_size l.items.items

abbrev pub decreases-owned_members : goal.decreases-owned_members
decreases-owned_members l = 2 * members_size l.object.reserved.items

abbrev pub invariant-owned_items-loop-item : goal.invariant-owned_items-loop-item
invariant-owned_items-loop-item l =
    (items_data (into_iter_items l.initial.item-iterator) ≡ items_on (items_view l.list.items) (items_data (into_iter_items l.item-iterator)))
    × (into_iter_len l.item-iterator ≡ length (into_iter_items l.item-iterator))
    × (items_size (into_iter_items l.item-iterator) ≤ items_size (into_iter_items l.initial.item-iterator))

abbrev pub invariant-owned_members-loop-name : goal.invariant-owned_members-loop-name
invariant-owned_members-loop-name l =
    (object_data l.fn.object ≡ put_all (read_of (into_iter_items l.name-iterator)) (members_view l.map.entries))
    × (into_iter_len l.name-iterator ≡ length (into_iter_items l.name-iterator))
    × (members_size (into_iter_items l.name-iterator) ≤ members_size l.fn.object.reserved.items)
