use Rattle.std.proofs.Common.{◌≡◌, ℕ, ◌+◌, ◌*◌, ◌≤◌, length}
use Rattle.json.specs.Json.{items, members, value, parse_map}
use Rattle.serde_json.specs.Data.{no_members}
use Rattle.serde_json.specs.Read.{of_items, of_members, converted}
use Rattle.avro_schema.specs.Inside.Borrowed.{items_data, items_on, object_data}
use Rattle.avro_schema.proofs.source.+source.Given as goal

abbrev pub decreases-value_at : goal.decreases-value_at
decreases-value_at l = 3 * l.depth

abbrev pub decreases-member_at : goal.decreases-member_at
decreases-member_at l = 3 * l.depth + 1

abbrev pub decreases-array_at : goal.decreases-array_at
decreases-array_at l = 3 * l.depth + 2

abbrev pub decreases-members_at : goal.decreases-members_at
decreases-members_at l = 3 * l.depth + 2

abbrev pub invariant-array_at-items : goal.invariant-array_at-items
invariant-array_at-items l =
    (n : ℕ) × (length l.reader ≤ n)
    × (converted of_items (items (value l.depth) (length l.initial.reader) l.initial.reader) ≡ parse_map (items_on (items_data l.found.items)) (converted of_items (items (value l.depth) n l.reader)))
    × (length l.reader ≤ length l.initial.reader)

abbrev pub decreases-array_at-items : goal.decreases-array_at-items
decreases-array_at-items l = length l.reader

abbrev pub invariant-members_at-members : goal.invariant-members_at-members
invariant-members_at-members l =
    (n : ℕ) × (length l.reader ≤ n)
    × (converted (λ ms. of_members ms no_members) (members (value l.depth) (length l.initial.reader) l.initial.reader) ≡ converted (λ ms. of_members ms (object_data l.found)) (members (value l.depth) n l.reader))
    × (length l.reader ≤ length l.initial.reader)

abbrev pub decreases-members_at-members : goal.decreases-members_at-members
decreases-members_at-members l = length l.reader
