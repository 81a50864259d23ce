-- Members without reserved names.
use Rattle.std.proofs.Common.{◌≡◌, ◌≢◌, ℕ, List, Bool, true, false, cond, ◌||◌, None, Ordering, Less, Equal, Greater, nat_cmp, bytes_eq, refl, sym, ap, ◌∙◌, true≢false}
use Rattle.std.specs.Prelude.{IsTrue, Result, Ok, Err, OnOk, OnErr, codes}
use Rattle.std.specs.Cmp.Lexicographic.{slice_cmp}
use Rattle.std.specs.Ordering.{match_ordering}
use Rattle.std.proofs.lemmas.Map.Text.{is_eq-slice_cmp}
use Rattle.serde_json.specs.Data.{Data, Members, no_members, member, put}
use Rattle.serde_json.specs.Find.{get_member}
use Rattle.avro_schema.specs.Attributes.{without}
use Rattle.std.proofs.lemmas.Bool.{false≢true, and_parts}
use Rattle.std.specs.Ordering.{is_lt}
use Rattle.avro_nodes.specs.Inside.Objects.{AllAfter, AreOrdered}
use Rattle.avro_schema.specs.Inside.Reserved.{is_reserved, is_reserved_name, has_reserved, is_first, are_in_order}
use Rattle.avro_schema.proofs.Inversion.{differ}
use Rattle.avro_schema.proofs.RoundMembers.{not_found_at}

pub reserved_is : (k : List ℕ) → IsTrue (is_reserved_name k) → is_reserved k ≡ true
unfolding is_reserved
reserved_is k h = h

pub is_name : (k : List ℕ) → is_reserved k ≡ true → IsTrue (is_reserved_name k)
unfolding is_reserved
is_name k h = h

pub default_is_not : is_reserved (codes "default") ≡ false
unfolding is_reserved
default_is_not = refl

pub either_way : {T E P Q G : Type 0} (r : Result T E) → OnOk r P → OnErr r Q → (P → G) → (Q → G) → G
either_way (Ok x) p q f g = f p
either_way (Err e) p q f g = g q

neither : (a b : Bool) → (a || b) ≡ false → (a ≡ false) × (b ≡ false)
neither true b h = absurd (true≢false h)
neither false b h = (refl, h)

none_at : (b : Bool) (k l : List ℕ) (d : Data) (ms : Members) → is_reserved l ≡ b → is_reserved k ≡ true → (b || has_reserved ms) ≡ false → (has_reserved ms ≡ false → get_member k ms ≡ None) → get_member k (member l d ms) ≡ None
none_at true k l d ms is r h more = absurd (true≢false h)
none_at false k l d ms is r h more =
    let apart : k ≢ l = λ e. true≢false (sym r ∙ ap is_reserved e ∙ is) in
    not_found_at (slice_cmp nat_cmp k l) (get_member k ms) d (is_eq-slice_cmp k l ∙ differ k l apart) (more h)

-- the lookup of a reserved name fails
pub none_reserved : (k : List ℕ) (ms : Members) → is_reserved k ≡ true → has_reserved ms ≡ false → get_member k ms ≡ None
none_reserved k no_members r h = refl
none_reserved k (member l d ms) r h = none_at (is_reserved l) k l d ms refl r h (none_reserved k ms r)

put_at : (o : Ordering) (k l : List ℕ) (d e : Data) (ms : Members) → is_reserved k ≡ false → (is_reserved l || has_reserved ms) ≡ false → (has_reserved ms ≡ false → has_reserved (put k d ms) ≡ false)
    → has_reserved (match_ordering o (member k d (member l e ms)) (member l d ms) (member l e (put k d ms))) ≡ false
put_at Less k l d e ms r h more = rw r h
put_at Equal k l d e ms r h more = h
put_at Greater k l d e ms r h more =
    let parts = neither (is_reserved l) (has_reserved ms) h in
    rw parts.0 (more parts.1)

pub put_unreserved : (k : List ℕ) (d : Data) (ms : Members) → is_reserved k ≡ false → has_reserved ms ≡ false → has_reserved (put k d ms) ≡ false
put_unreserved k d no_members r h = rw r refl
put_unreserved k d (member l e ms) r h = put_at (slice_cmp nat_cmp k l) k l d e ms r h (put_unreserved k d ms r)

without_at : (same : Bool) (k l : List ℕ) (d : Data) (ms : Members) → (is_reserved l || has_reserved ms) ≡ false → (has_reserved ms ≡ false → has_reserved (without k ms) ≡ false)
    → has_reserved (cond same (without k ms) (member l d (without k ms))) ≡ false
without_at true k l d ms h more = more (neither (is_reserved l) (has_reserved ms) h).1
without_at false k l d ms h more =
    let parts = neither (is_reserved l) (has_reserved ms) h in
    rw parts.0 (more parts.1)

pub without_unreserved : (k : List ℕ) (ms : Members) → has_reserved ms ≡ false → has_reserved (without k ms) ≡ false
without_unreserved k no_members h = refl
without_unreserved k (member l d ms) h = without_at (bytes_eq k l) k l d ms h (without_unreserved k ms)

-- ---- sorted members

is_less : (o : Ordering) → is_lt o ≡ true → o ≡ Less
is_less Less e = refl
is_less Equal e = absurd (false≢true e)
is_less Greater e = absurd (false≢true e)

behind_first : (k : List ℕ) (ms : Members) → is_first k ms ≡ true → AllAfter k ms
behind_first k no_members h = tt
behind_first k (member l d ms) h =
    let parts = and_parts (is_lt (slice_cmp nat_cmp k l)) (is_first k ms) h in
    (is_less (slice_cmp nat_cmp k l) parts.0, behind_first k ms parts.1)

pub in_order : (ms : Members) → are_in_order ms ≡ true → AreOrdered ms
in_order no_members h = tt
in_order (member k d ms) h =
    let parts = and_parts (is_first k ms) (are_in_order ms) h in
    (behind_first k ms parts.0, in_order ms parts.1)

first_behind : (k : List ℕ) (ms : Members) → AllAfter k ms → is_first k ms ≡ true
first_behind k no_members h = refl
first_behind k (member l d ms) h = rw h.0 (first_behind k ms h.1)

pub order_seen : (ms : Members) → AreOrdered ms → are_in_order ms ≡ true
order_seen no_members h = refl
order_seen (member k d ms) h = rw (first_behind k ms h.0) (order_seen ms h.1)
