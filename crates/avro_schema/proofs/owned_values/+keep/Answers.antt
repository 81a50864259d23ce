use Rattle.std.proofs.Common.{◌≡◌, ◌-◌, ◌<◌, [], ◌∷◌, length, Some, None, string_bytes, refl, sym, ap, ap₂, ◌∙◌, arith, rules}
use Rattle.json.specs.Token.{Token}
use Rattle.json.specs.Json.{parse_map, after_end_array, read_key, items, members, value}
use Rattle.json.specs.Reads.{token_of}
use Rattle.json.proofs.Grammar.{value_is, value-begin_array, value-begin_object, read_key-shorter}
use Rattle.serde_json.specs.Data.{null, boolean, number, string, array, object, put}
use Rattle.serde_json.specs.Read.{of_json, of_items, of_members, converted}
use Rattle.serde_json.specs.View.{view, number_view, items_view, members_view}
use Rattle.serde_json.specs.declared.value.Value.{String, Number, Bool, Null, the_lemmas}
use Rattle.serde_json.proofs.Views.{view-Array, view-Object, members_view-insert_entry}
use Rattle.avro_schema.proofs.Conversions.{converted-array, converted-object, item_read, item_refused, items_over, member_read, member_refused, key_refused, members_over, items_on-no_items, one_more_item, none_before, not_mapped}
use Rattle.avro_schema.specs.Inside.Borrowed.{items_on}
use Rattle.avro_schema.proofs.owned_values.+keep.Goals as goal

pub owned_value_at-returns-in_err-token-clause-invalid : goal.owned_value_at-returns-in_err-token-clause-invalid
owned_value_at-returns-in_err-token-clause-invalid t c refused =
    let empty : c.args.reader.now ≡ [] = grind arith in
    ap (converted of_json) (ap (value c.args.depth) empty ∙ value_is c.args.depth [])

pub owned_value_at-returns-then-depth-eq0-clause-invalid : goal.owned_value_at-returns-then-depth-eq0-clause-invalid
unfolding value
owned_value_at-returns-then-depth-eq0-clause-invalid t c never =
    let first : c.args.reader.now ≡ token_of c.in_ok-token.token ∷ c.next.new.self = grind arith in
    let none : c.args.depth ≡ 0 = omega arith in
    ap (converted of_json) (ap₂ value none (first ∙ ap (λ k. token_of k ∷ c.next.new.self) c.in-BeginArray.is))

pub owned_value_at-returns-then-depth-eq0-2-clause-invalid : goal.owned_value_at-returns-then-depth-eq0-2-clause-invalid
unfolding value
owned_value_at-returns-then-depth-eq0-2-clause-invalid t c never =
    let first : c.args.reader.now ≡ token_of c.in_ok-token.token ∷ c.next.new.self = grind arith in
    let none : c.args.depth ≡ 0 = omega arith in
    ap (converted of_json) (ap₂ value none (first ∙ ap (λ k. token_of k ∷ c.next.new.self) c.in-BeginObject.is))

pub owned_value_at-returns-in_err-owned_items_at-in-BeginArray-clause-invalid : goal.owned_value_at-returns-in_err-owned_items_at-in-BeginArray-clause-invalid
owned_value_at-returns-in_err-owned_items_at-in-BeginArray-clause-invalid t c refused =
    let first : c.args.reader.now ≡ token_of c.in_ok-token.token ∷ c.next.new.self = grind arith in
    let opened = ap (converted of_json) (ap (value c.args.depth) (first ∙ ap (λ k. token_of k ∷ c.next.new.self) c.in-BeginArray.is) ∙ value-begin_array c.args.depth c.next.new.self (omega arith)) ∙ converted-array (items (value (c.args.depth - 1)) (length c.next.new.self) c.next.new.self) in
    opened ∙ ap (parse_map array) (c.owned_items_at.ensures.invalid (grind arith) (length c.next.new.self) (omega arith))

pub owned_value_at-returns-in_err-owned_members_at-in-BeginObject-clause-invalid : goal.owned_value_at-returns-in_err-owned_members_at-in-BeginObject-clause-invalid
owned_value_at-returns-in_err-owned_members_at-in-BeginObject-clause-invalid t c refused =
    let first : c.args.reader.now ≡ token_of c.in_ok-token.token ∷ c.next.new.self = grind arith in
    let opened = ap (converted of_json) (ap (value c.args.depth) (first ∙ ap (λ k. token_of k ∷ c.next.new.self) c.in-BeginObject.is) ∙ value-begin_object c.args.depth c.next.new.self (omega arith)) ∙ converted-object (members (value (c.args.depth - 1)) (length c.next.new.self) c.next.new.self) in
    opened ∙ ap (parse_map object) (c.owned_members_at.ensures.invalid (grind arith))

pub owned_value_at-returns-in_ok-from_str-in-String-clause-ok : goal.owned_value_at-returns-in_ok-from_str-in-String-clause-ok
owned_value_at-returns-in_ok-from_str-in-String-clause-ok t c =
    let first : c.args.reader.now ≡ token_of c.in_ok-token.token ∷ c.next.new.self = grind arith in
    let is : c.args.reader.now ≡ Token.string c.in-String.text.now ∷ c.next.new.self = grind (arith, first) in
    let seen : view (String c.in_ok-from_str-in-String.field-0) ≡ string c.in-String.text.now = search (rules, the_lemmas) in
    ap (converted of_json) (ap (value c.args.depth) is ∙ value_is c.args.depth _) ∙ ap (λ d. Some (d, c.next.new.self)) (sym seen)

pub owned_value_at-returns-in-Bool-clause-ok : goal.owned_value_at-returns-in-Bool-clause-ok
owned_value_at-returns-in-Bool-clause-ok t c =
    let first : c.args.reader.now ≡ token_of c.in_ok-token.token ∷ c.next.new.self = grind arith in
    let is : c.args.reader.now ≡ Token.boolean c.in-Bool.b ∷ c.next.new.self = grind (arith, first) in
    let seen : view (Bool c.in-Bool.b) ≡ boolean c.in-Bool.b = search (rules, the_lemmas) in
    ap (converted of_json) (ap (value c.args.depth) is ∙ value_is c.args.depth _) ∙ ap (λ d. Some (d, c.next.new.self)) (sym seen)

pub owned_value_at-returns-in-Null-clause-ok : goal.owned_value_at-returns-in-Null-clause-ok
owned_value_at-returns-in-Null-clause-ok t c =
    let first : c.args.reader.now ≡ token_of c.in_ok-token.token ∷ c.next.new.self = grind arith in
    let is : c.args.reader.now ≡ Token.null ∷ c.next.new.self = grind (arith, first) in
    let seen : view (Null) ≡ null = search (rules, the_lemmas) in
    ap (converted of_json) (ap (value c.args.depth) is ∙ value_is c.args.depth _) ∙ ap (λ d. Some (d, c.next.new.self)) (sym seen)

pub owned_value_at-returns-in-Some-clause-ok : goal.owned_value_at-returns-in-Some-clause-ok
owned_value_at-returns-in-Some-clause-ok t c =
    let first : c.args.reader.now ≡ token_of c.in_ok-token.token ∷ c.next.new.self = grind arith in
    let is : c.args.reader.now ≡ Token.number c.in-Number.text.now ∷ c.next.new.self = grind (arith, first) in
    let seen : view (Number c.in-Some.number) ≡ number (number_view c.in-Some.number) = search (rules, the_lemmas) in
    ap (converted of_json) (ap (value c.args.depth) is ∙ value_is c.args.depth _) ∙ rw (← c.in-Some.ensures, seen)

pub owned_value_at-returns-in-None-clause-invalid : goal.owned_value_at-returns-in-None-clause-invalid
owned_value_at-returns-in-None-clause-invalid t c refused =
    let first : c.args.reader.now ≡ token_of c.in_ok-token.token ∷ c.next.new.self = grind arith in
    let is : c.args.reader.now ≡ Token.number c.in-Number.text.now ∷ c.next.new.self = grind (arith, first) in
    ap (converted of_json) (ap (value c.args.depth) is ∙ value_is c.args.depth _) ∙ rw (← c.in-None.ensures)

pub owned_value_at-returns-in-EndObject-clause-invalid : goal.owned_value_at-returns-in-EndObject-clause-invalid
owned_value_at-returns-in-EndObject-clause-invalid t c refused =
    let first : c.args.reader.now ≡ token_of c.in_ok-token.token ∷ c.next.new.self = grind arith in
    let none : value c.args.depth c.args.reader.now ≡ None = rw (value_is c.args.depth c.args.reader.now, first) (grind arith) in
    ap (converted of_json) none

pub owned_value_at-returns-in_ok-owned_items_at-in-BeginArray-clause-ok : goal.owned_value_at-returns-in_ok-owned_items_at-in-BeginArray-clause-ok
owned_value_at-returns-in_ok-owned_items_at-in-BeginArray-clause-ok t c =
    let first : c.args.reader.now ≡ token_of c.in_ok-token.token ∷ c.next.new.self = grind arith in
    let opened = ap (converted of_json) (ap (value c.args.depth) (first ∙ ap (λ k. token_of k ∷ c.next.new.self) c.in-BeginArray.is) ∙ value-begin_array c.args.depth c.next.new.self (omega arith)) ∙ converted-array (items (value (c.args.depth - 1)) (length c.next.new.self) c.next.new.self) in
    let found = c.in_ok-owned_items_at-in-BeginArray in
    let all = converted of_items (items (value (c.args.depth - 1)) (length c.next.new.self) c.next.new.self) in
    let none = none_before all ∙ ap (λ vs. parse_map (items_on (items_view vs)) all) (sym c.new.ensures.items) in
    opened ∙ ap (parse_map array) (none ∙ found.ensures.ok (length c.next.new.self) (omega arith)) ∙ ap (λ d. Some (d, c.owned_items_at.new.reader)) (sym (view-Array found.field-0))

pub owned_value_at-returns-in_ok-owned_members_at-in-BeginObject-clause-ok : goal.owned_value_at-returns-in_ok-owned_members_at-in-BeginObject-clause-ok
owned_value_at-returns-in_ok-owned_members_at-in-BeginObject-clause-ok t c =
    let first : c.args.reader.now ≡ token_of c.in_ok-token.token ∷ c.next.new.self = grind arith in
    let opened = ap (converted of_json) (ap (value c.args.depth) (first ∙ ap (λ k. token_of k ∷ c.next.new.self) c.in-BeginObject.is) ∙ value-begin_object c.args.depth c.next.new.self (omega arith)) ∙ converted-object (members (value (c.args.depth - 1)) (length c.next.new.self) c.next.new.self) in
    let found = c.in_ok-owned_members_at-in-BeginObject in
    opened ∙ ap (parse_map object) found.ensures.ok ∙ ap (λ d. Some (d, c.owned_members_at.new.reader)) (sym (view-Object found.field-0))

pub owned_items_at-items-init : goal.owned_items_at-items-init
owned_items_at-items-init t c = (
  λ m enough. (m, enough, refl),
  omega arith,
)

pub owned_items_at-returns-in_err-item-clause-invalid : goal.owned_items_at-returns-in_err-item-clause-invalid
owned_items_at-returns-in_err-item-clause-invalid t c refused m enough =
    let p = value c.args.depth in
    let l = c.items in
    let was = l.invariant.0 m enough in
    let going : (after_end_array l.reader ≡ None) × (c.take_end_array.new.self ≡ l.reader) = grind arith in
    let none = was.2 ∙ ap (parse_map (items_on (items_view l.found.items))) (item_refused p was.0 l.reader going.0 (rw (← going.1) (c.owned_value_at.ensures.invalid (grind arith)))) in
    not_mapped (items_on (items_view c.args.before.items)) (converted of_items (items p m c.args.reader.now)) none

pub owned_items_at-items-preserved : goal.owned_items_at-items-preserved
owned_items_at-items-preserved t c =
    let p = value c.args.depth in
    let l = c.items in
    let going : (after_end_array l.reader ≡ None) × (c.take_end_array.new.self ≡ l.reader) = grind arith in
    let done = c.in_ok-item.ensures in
    let v = c.in_ok-item.item in
    let r = c.owned_value_at.new.reader in
    let less : length r < length l.reader = rw (← going.1) done.shorter in (
      λ m enough.
          let was = l.invariant.0 m enough in
          let n = was.0 in
          let turn = item_read p n l.reader r (view v) (omega (arith, was.1)) going.0 (rw (← going.1) done.ok) in (
            n - 1,
            omega (arith, was.1),
            was.2 ∙ ap (parse_map (items_on (items_view l.found.items))) turn ∙ one_more_item l.found.items v _
                ∙ ap (λ vs. parse_map (items_on (items_view vs)) (converted of_items (items p (n - 1) r))) (sym c.in_ok-push.ensures.items),
          ),
      omega (arith, l.invariant.1),
    )

pub owned_items_at-returns-clause-ok : goal.owned_items_at-returns-clause-ok
owned_items_at-returns-clause-ok t c m enough =
    let p = value c.args.depth in
    let l = c.items in
    let was = l.invariant.0 m enough in
    let r = c.take_end_array.new.self in
    was.2 ∙ ap (parse_map (items_on (items_view l.found.items))) (items_over p was.0 l.reader r was.1 (grind arith)) ∙ ap (λ ds. Some (ds, r)) (items_on-no_items (items_view l.found.items))

pub owned_members_at-members-init : goal.owned_members_at-members-init
owned_members_at-members-init t c =
    let all = members (value c.args.depth) (length c.args.reader.now) c.args.reader.now in
    (length c.args.reader.now, omega arith, ap (λ es. converted (λ ms. of_members ms (members_view es)) all) (sym c.new-found.ensures.empty), omega arith)

pub owned_members_at-returns-in_err-name-clause-invalid : goal.owned_members_at-returns-in_err-name-clause-invalid
owned_members_at-returns-in_err-name-clause-invalid t c refused =
    let p = value c.args.depth in
    let l = c.members in
    let n = l.invariant.0 in
    let old = members_view l.found.entries in
    l.invariant.2 ∙ key_refused p old n l.reader c.in_err-name.ensures.value

pub owned_members_at-returns-in_err-member-clause-invalid : goal.owned_members_at-returns-in_err-member-clause-invalid
owned_members_at-returns-in_err-member-clause-invalid t c refused =
    let p = value c.args.depth in
    let l = c.members in
    let n = l.invariant.0 in
    let old = members_view l.found.entries in
    let k = c.in-Some.name.now in
    let s = c.next_key.new.self in
    let named : read_key l.reader ≡ Some (Some k, s) = grind arith in
    l.invariant.2 ∙ member_refused p old n k l.reader s named (c.owned_value_at.ensures.invalid (grind arith))

pub owned_members_at-members-preserved : goal.owned_members_at-members-preserved
owned_members_at-members-preserved t c =
    let p = value c.args.depth in
    let l = c.members in
    let n = l.invariant.0 in
    let old = members_view l.found.entries in
    let k = c.in-Some.name.now in
    let s = c.next_key.new.self in
    let named : read_key l.reader ≡ Some (Some k, s) = grind arith in
    let done = c.in_ok-member.ensures in
    let v = c.in_ok-member.member in
    let r = c.owned_value_at.new.reader in
    let less = read_key-shorter l.reader (Some k) s named in
    let lesser = done.shorter in
    let copied : string_bytes c.in_ok-key.key ≡ k = search rules in
    let inserted : members_view c.insert.new.self.entries ≡ put k (view v) old =
    ap members_view c.in_ok-insert.ensures.entries ∙ members_view-insert_entry l.found.entries c.in_ok-key.key v ∙ ap (λ name. put name (view v) old) copied in (
      n - 1,
      omega (arith, l.invariant.1),
      l.invariant.2 ∙ member_read p old n k l.reader s r (view v) (omega (arith, l.invariant.1)) named done.ok
          ∙ ap (λ found. converted (λ ms. of_members ms found) (members p (n - 1) r)) (sym inserted),
      omega (arith, l.invariant.3),
    )

pub owned_members_at-returns-clause-ok : goal.owned_members_at-returns-clause-ok
owned_members_at-returns-clause-ok t c =
    let p = value c.args.depth in
    let l = c.members in
    let n = l.invariant.0 in
    let old = members_view l.found.entries in
    l.invariant.2 ∙ members_over p old n l.reader c.next_key.new.self l.invariant.1 (grind arith)
