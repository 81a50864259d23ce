-- The reserved member names, which have a meaning in some declaration (Avro 1.11 specification, Schema Declaration), and lists of members
-- without them.
use Rattle.std.specs.Prelude.{ℕ, ◌==◌, ◌||◌, ◌&&◌, List, [], ◌∷◌, length, Bool, true, false, cond, codes}
use Rattle.std.specs.Cmp.Lexicographic.{slice_cmp}
use Rattle.std.specs.Ordering.{nat_cmp, is_lt}
use Rattle.std.specs.List.{list_any}
use Rattle.std.specs.Str.{bytes_eq}
use Rattle.serde_json.specs.Data.{Members, no_members, member}

abbrev pub is_one_of : List (List ℕ) → List ℕ → Bool
is_one_of keys key = list_any (λ k. bytes_eq key k) keys

-- the reserved names, by length
abbrev pub is_reserved_name : List ℕ → Bool
is_reserved_name key =
    cond (length key == 4) (is_one_of (codes "name" ∷ codes "type" ∷ codes "size" ∷ []) key) (cond (length key == 5) (is_one_of (codes "order" ∷ codes "items" ∷ []) key)
    (cond (length key == 6) (is_one_of (codes "fields" ∷ codes "values" ∷ []) key) (cond (length key == 7) (is_one_of (codes "aliases" ∷ codes "symbols" ∷ []) key)
    (cond (length key == 9) (is_one_of (codes "namespace" ∷ []) key) false))))

-- The tree has the values of reserved members. All other members, `default` too, are read as `serde_json` values.
unfoldable pub is_reserved : List ℕ → Bool
is_reserved key = is_reserved_name key

abbrev pub has_reserved : Members → Bool
has_reserved no_members = false
has_reserved (member k d ms) = is_reserved k || has_reserved ms

-- whether the name comes before all others in byte order
abbrev pub is_first : List ℕ → Members → Bool
is_first k no_members = true
is_first k (member l d ms) = is_lt (slice_cmp nat_cmp k l) && is_first k ms

abbrev pub are_in_order : Members → Bool
are_in_order no_members = true
are_in_order (member k d ms) = is_first k ms && are_in_order ms
