use Rattle.std.proofs.Common.{◌≡◌, ℕ, ◌+◌, ◌*◌, ◌≤◌, length}
use Rattle.json.specs.Json.{items, members, value, parse_map}
use Rattle.serde_json.specs.Data.{no_members}
use Rattle.serde_json.specs.Read.{of_items, of_members, converted}
use Rattle.serde_json.specs.View.{items_view, members_view}
use Rattle.avro_schema.specs.Inside.Borrowed.{items_on}
use Rattle.avro_schema.proofs.owned_values.+keep.Given as goal

abbrev pub decreases-owned_value_at : goal.decreases-owned_value_at
decreases-owned_value_at l = 2 * l.depth

abbrev pub decreases-owned_items_at : goal.decreases-owned_items_at
decreases-owned_items_at l = 2 * l.depth + 1

abbrev pub decreases-owned_members_at : goal.decreases-owned_members_at
decreases-owned_members_at l = 2 * l.depth + 1

abbrev pub invariant-owned_items_at-items : goal.invariant-owned_items_at-items
invariant-owned_items_at-items l =
    ((m : ℕ) → length l.initial.reader ≤ m → (n : ℕ) × (length l.reader ≤ n)
    × (parse_map (items_on (items_view l.fn.before.items)) (converted of_items (items (value l.depth) m l.initial.reader)) ≡ parse_map (items_on (items_view l.found.items)) (converted of_items (items (value l.depth) n l.reader))))
    × (length l.reader ≤ length l.initial.reader)

abbrev pub decreases-owned_items_at-items : goal.decreases-owned_items_at-items
decreases-owned_items_at-items l = length l.reader

abbrev pub invariant-owned_members_at-members : goal.invariant-owned_members_at-members
invariant-owned_members_at-members l =
    (n : ℕ) × (length l.reader ≤ n)
    × (converted (λ ms. of_members ms no_members) (members (value l.depth) (length l.initial.reader) l.initial.reader) ≡ converted (λ ms. of_members ms (members_view l.found.entries)) (members (value l.depth) n l.reader))
    × (length l.reader ≤ length l.initial.reader)

abbrev pub decreases-owned_members_at-members : goal.decreases-owned_members_at-members
decreases-owned_members_at-members l = length l.reader
