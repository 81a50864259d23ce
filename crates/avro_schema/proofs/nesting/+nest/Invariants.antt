use Rattle.std.proofs.Common.{◌≡◌, ◌+◌, ◌*◌, drop}
use Rattle.std.specs.Prelude.{nat_le}
use Rattle.serde_json.specs.Data.{items_depth, members_depth}
use Rattle.serde_json.specs.View.{items_view, members_view}
use Rattle.avro_schema.proofs.nesting.+nest.Given as goal

abbrev pub decreases-nests_within : goal.decreases-nests_within
decreases-nests_within l = 2 * l.limit

abbrev pub decreases-items_within : goal.decreases-items_within
decreases-items_within l = 2 * l.limit + 1

abbrev pub decreases-members_within : goal.decreases-members_within
decreases-members_within l = 2 * l.limit + 1

abbrev pub invariant-items_within-loop-item : goal.invariant-items_within-loop-item
invariant-items_within-loop-item l = nat_le (items_depth (items_view (drop l.item-index l.item-items))) l.limit ≡ nat_le (items_depth (items_view l.item-items)) l.limit

abbrev pub invariant-members_within-loop-key : goal.invariant-members_within-loop-key
invariant-members_within-loop-key l = nat_le (members_depth (members_view l._key-iterator)) l.limit ≡ nat_le (members_depth (members_view l.initial._key-iterator)) l.limit
