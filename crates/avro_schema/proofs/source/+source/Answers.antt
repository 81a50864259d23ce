use Rattle.std.proofs.Common.{◌≡◌, ◌-◌, ◌<◌, [], ◌∷◌, ◌++◌, length, Some, None, Result, Ok, Err, sym, ap, ap₂, ◌∙◌, arith}
use Rattle.std.specs.Prelude.{IfOk}
use Rattle.json.specs.Token.{Token}
use Rattle.json.specs.Json.{parse_map, after_end_array, read_key, items, members, value}
use Rattle.json.specs.Reads.{token_of}
use Rattle.json.proofs.Grammar.{value_is, value-begin_array, value-begin_object, read_key-shorter}
use Rattle.serde_json.specs.Data.{array, object}
use Rattle.serde_json.specs.Read.{of_json, of_items, of_members, converted}
use Rattle.avro_schema.specs.Inside.Borrowed.{value_data, items_data, items_on, object_data}
use Rattle.avro_schema.proofs.BorrowedLemmas.{of_Null, of_Bool, of_Number, of_Text, of_Array, of_Object, one_more_item}
use Rattle.avro_schema.proofs.Conversions.{converted-array, converted-object, item_read, item_refused, items_over, member_read, member_refused, key_refused, members_over, items_on-no_items, none_before}
use Rattle.avro_schema.proofs.ReservedLemmas.{is_name}
use Rattle.avro_schema.proofs.source.+source.Goals as goal

pub value_at-returns-in_err-token-clause-invalid : goal.value_at-returns-in_err-token-clause-invalid
value_at-returns-in_err-token-clause-invalid t c refused =
    let empty : c.args.reader.now ≡ [] = grind arith in
    ap (converted of_json) (ap (value c.args.depth) empty ∙ value_is c.args.depth [])

pub value_at-returns-then-depth-eq0-clause-invalid : goal.value_at-returns-then-depth-eq0-clause-invalid
unfolding value
value_at-returns-then-depth-eq0-clause-invalid t c never =
    let first : c.args.reader.now ≡ token_of c.in_ok-token.token ∷ c.next.new.self = grind arith in
    let none : c.args.depth ≡ 0 = omega arith in
    ap (converted of_json) (ap₂ value none (first ∙ ap (λ k. token_of k ∷ c.next.new.self) c.in-BeginArray.is))

pub value_at-returns-then-depth-eq0-2-clause-invalid : goal.value_at-returns-then-depth-eq0-2-clause-invalid
unfolding value
value_at-returns-then-depth-eq0-2-clause-invalid t c never =
    let first : c.args.reader.now ≡ token_of c.in_ok-token.token ∷ c.next.new.self = grind arith in
    let none : c.args.depth ≡ 0 = omega arith in
    ap (converted of_json) (ap₂ value none (first ∙ ap (λ k. token_of k ∷ c.next.new.self) c.in-BeginObject.is))

pub value_at-returns-in_err-array_at-in-BeginArray-clause-invalid : goal.value_at-returns-in_err-array_at-in-BeginArray-clause-invalid
value_at-returns-in_err-array_at-in-BeginArray-clause-invalid t c refused =
    let first : c.args.reader.now ≡ token_of c.in_ok-token.token ∷ c.next.new.self = grind arith in
    let opened = ap (converted of_json) (ap (value c.args.depth) (first ∙ ap (λ k. token_of k ∷ c.next.new.self) c.in-BeginArray.is) ∙ value-begin_array c.args.depth c.next.new.self (omega arith)) ∙ converted-array (items (value (c.args.depth - 1)) (length c.next.new.self) c.next.new.self) in
    opened ∙ ap (parse_map array) (c.array_at.ensures.invalid (grind arith))

pub value_at-returns-in_err-members_at-in-BeginObject-clause-invalid : goal.value_at-returns-in_err-members_at-in-BeginObject-clause-invalid
value_at-returns-in_err-members_at-in-BeginObject-clause-invalid t c refused =
    let first : c.args.reader.now ≡ token_of c.in_ok-token.token ∷ c.next.new.self = grind arith in
    let opened = ap (converted of_json) (ap (value c.args.depth) (first ∙ ap (λ k. token_of k ∷ c.next.new.self) c.in-BeginObject.is) ∙ value-begin_object c.args.depth c.next.new.self (omega arith)) ∙ converted-object (members (value (c.args.depth - 1)) (length c.next.new.self) c.next.new.self) in
    opened ∙ ap (parse_map object) (c.members_at.ensures.invalid (grind arith))

pub value_at-returns-in-String-clause-ok : goal.value_at-returns-in-String-clause-ok
value_at-returns-in-String-clause-ok t c =
    let first : c.args.reader.now ≡ token_of c.in_ok-token.token ∷ c.next.new.self = grind arith in
    let is : c.args.reader.now ≡ Token.string c.in-String.text.now ∷ c.next.new.self = grind (arith, first) in
    let here = of_Text c.in-String.text in
    ap (converted of_json) (ap (value c.args.depth) is ∙ value_is c.args.depth _) ∙ ap (λ d. Some (d, c.next.new.self)) (sym here)

pub value_at-returns-in-Bool-clause-ok : goal.value_at-returns-in-Bool-clause-ok
value_at-returns-in-Bool-clause-ok t c =
    let first : c.args.reader.now ≡ token_of c.in_ok-token.token ∷ c.next.new.self = grind arith in
    let is : c.args.reader.now ≡ Token.boolean c.in-Bool.b ∷ c.next.new.self = grind (arith, first) in
    let here = of_Bool c.in-Bool.b in
    ap (converted of_json) (ap (value c.args.depth) is ∙ value_is c.args.depth _) ∙ ap (λ d. Some (d, c.next.new.self)) (sym here)

pub value_at-returns-in-Null-clause-ok : goal.value_at-returns-in-Null-clause-ok
value_at-returns-in-Null-clause-ok t c =
    let first : c.args.reader.now ≡ token_of c.in_ok-token.token ∷ c.next.new.self = grind arith in
    let is : c.args.reader.now ≡ Token.null ∷ c.next.new.self = grind (arith, first) in
    let here = of_Null in
    ap (converted of_json) (ap (value c.args.depth) is ∙ value_is c.args.depth _) ∙ ap (λ d. Some (d, c.next.new.self)) (sym here)

pub value_at-returns-in-Some-clause-ok : goal.value_at-returns-in-Some-clause-ok
value_at-returns-in-Some-clause-ok t c =
    let first : c.args.reader.now ≡ token_of c.in_ok-token.token ∷ c.next.new.self = grind arith in
    let is : c.args.reader.now ≡ Token.number c.in-Number.text.now ∷ c.next.new.self = grind (arith, first) in
    let here = of_Number c.in-Some.number in
    ap (converted of_json) (ap (value c.args.depth) is ∙ value_is c.args.depth _) ∙ rw (← c.in-Some.ensures, here)

pub value_at-returns-in-None-clause-invalid : goal.value_at-returns-in-None-clause-invalid
value_at-returns-in-None-clause-invalid t c refused =
    let first : c.args.reader.now ≡ token_of c.in_ok-token.token ∷ c.next.new.self = grind arith in
    let is : c.args.reader.now ≡ Token.number c.in-Number.text.now ∷ c.next.new.self = grind (arith, first) in
    ap (converted of_json) (ap (value c.args.depth) is ∙ value_is c.args.depth _) ∙ rw (← c.in-None.ensures)

pub value_at-returns-in-EndObject-clause-invalid : goal.value_at-returns-in-EndObject-clause-invalid
value_at-returns-in-EndObject-clause-invalid t c refused =
    let first : c.args.reader.now ≡ token_of c.in_ok-token.token ∷ c.next.new.self = grind arith in
    let none : value c.args.depth c.args.reader.now ≡ None = rw (value_is c.args.depth c.args.reader.now, first) (grind arith) in
    ap (converted of_json) none

pub value_at-returns-in_ok-array_at-in-BeginArray-clause-ok : goal.value_at-returns-in_ok-array_at-in-BeginArray-clause-ok
value_at-returns-in_ok-array_at-in-BeginArray-clause-ok t c =
    let first : c.args.reader.now ≡ token_of c.in_ok-token.token ∷ c.next.new.self = grind arith in
    let opened = ap (converted of_json) (ap (value c.args.depth) (first ∙ ap (λ k. token_of k ∷ c.next.new.self) c.in-BeginArray.is) ∙ value-begin_array c.args.depth c.next.new.self (omega arith)) ∙ converted-array (items (value (c.args.depth - 1)) (length c.next.new.self) c.next.new.self) in
    let found = c.in_ok-array_at-in-BeginArray in
    opened ∙ found.ensures.ok

pub value_at-returns-in_ok-members_at-in-BeginObject-clause-ok : goal.value_at-returns-in_ok-members_at-in-BeginObject-clause-ok
value_at-returns-in_ok-members_at-in-BeginObject-clause-ok t c =
    let first : c.args.reader.now ≡ token_of c.in_ok-token.token ∷ c.next.new.self = grind arith in
    let opened = ap (converted of_json) (ap (value c.args.depth) (first ∙ ap (λ k. token_of k ∷ c.next.new.self) c.in-BeginObject.is) ∙ value-begin_object c.args.depth c.next.new.self (omega arith)) ∙ converted-object (members (value (c.args.depth - 1)) (length c.next.new.self) c.next.new.self) in
    let found = c.in_ok-members_at-in-BeginObject in
    opened ∙ ap (parse_map object) found.ensures.ok ∙ ap (λ d. Some (d, c.members_at.new.reader)) (sym (of_Object found.field-0))

pub array_at-items-init : goal.array_at-items-init
array_at-items-init t c =
    let all = converted of_items (items (value c.args.depth) (length c.args.reader.now) c.args.reader.now) in
    (length c.args.reader.now, omega arith, none_before all ∙ ap (λ vs. parse_map (items_on (items_data vs)) all) (sym c.new-found.ensures.items), omega arith)

pub array_at-returns-in_err-item-clause-invalid : goal.array_at-returns-in_err-item-clause-invalid
array_at-returns-in_err-item-clause-invalid t c refused =
    let p = value c.args.depth in
    let l = c.items in
    let n = l.invariant.0 in
    let going : (after_end_array l.reader ≡ None) × (c.take_end_array.new.self ≡ l.reader) = grind arith in
    l.invariant.2 ∙ ap (parse_map (items_on (items_data l.found.items))) (item_refused p n l.reader going.0 (rw (← going.1) (c.value_at.ensures.invalid (grind arith))))

pub array_at-items-preserved : goal.array_at-items-preserved
array_at-items-preserved t c =
    let p = value c.args.depth in
    let l = c.items in
    let n = l.invariant.0 in
    let going : (after_end_array l.reader ≡ None) × (c.take_end_array.new.self ≡ l.reader) = grind arith in
    let done = c.in_ok-item.ensures in
    let v = c.in_ok-item.item in
    let r = c.value_at.new.reader in
    let less : length r < length l.reader = rw (← going.1) done.shorter in
    let turn = item_read p n l.reader r (value_data v) (omega (arith, l.invariant.1)) going.0 (rw (← going.1) done.ok) in (
      n - 1,
      omega (arith, l.invariant.1),
      l.invariant.2 ∙ ap (parse_map (items_on (items_data l.found.items))) turn ∙ one_more_item l.found.items v _
          ∙ ap (λ vs. parse_map (items_on (items_data vs)) (converted of_items (items p (n - 1) r))) (sym (c.in_ok-push.ensures.items ∙ ap (λ vs. vs ++ v ∷ []) c.reserve_two.ensures)),
      omega (arith, l.invariant.3),
    )

if_ok : {T E : Type 0} {P Q : T → Type 0} (r : Result T E) → IfOk r P → ((x : T) → P x → Q x) → IfOk r Q
if_ok (Ok x) h f = f x h
if_ok (Err e) h f = tt

pub array_at-returns-then-budget-eq0-clause-ok : goal.array_at-returns-then-budget-eq0-clause-ok
array_at-returns-then-budget-eq0-clause-ok t c =
    let p = value c.args.depth in
    let l = c.items in
    let n = l.invariant.0 in
    let going : (after_end_array l.reader ≡ None) × (c.take_end_array.new.self ≡ l.reader) = grind arith in
    let so_far = ap (parse_map array) (l.invariant.2 ∙ ap (λ ts. parse_map (items_on (items_data l.found.items)) (converted of_items (items p n ts))) (sym going.1)) in
    if_ok c.owned_array_at.result c.owned_array_at.ensures.ok (λ x h. so_far ∙ h n (omega (arith, l.invariant.1, ap length going.1)))

pub array_at-returns-then-budget-eq0-clause-invalid : goal.array_at-returns-then-budget-eq0-clause-invalid
array_at-returns-then-budget-eq0-clause-invalid t c refused =
    let p = value c.args.depth in
    let l = c.items in
    let n = l.invariant.0 in
    let going : (after_end_array l.reader ≡ None) × (c.take_end_array.new.self ≡ l.reader) = grind arith in
    let none = c.owned_array_at.ensures.invalid refused n (omega (arith, l.invariant.1, ap length going.1)) in
    l.invariant.2 ∙ ap (λ ts. parse_map (items_on (items_data l.found.items)) (converted of_items (items p n ts))) (sym going.1) ∙ ap (parse_map (items_on (items_data l.found.items))) none

pub array_at-returns-clause-ok : goal.array_at-returns-clause-ok
array_at-returns-clause-ok t c =
    let p = value c.args.depth in
    let l = c.items in
    let n = l.invariant.0 in
    let r = c.take_end_array.new.self in
    let over = l.invariant.2 ∙ ap (parse_map (items_on (items_data l.found.items))) (items_over p n l.reader r l.invariant.1 (grind arith)) ∙ ap (λ ds. Some (ds, r)) (items_on-no_items (items_data l.found.items)) in
    ap (parse_map array) over ∙ ap (λ d. Some (d, r)) (sym (of_Array l.found))

pub members_at-members-init : goal.members_at-members-init
members_at-members-init t c =
    let all = members (value c.args.depth) (length c.args.reader.now) c.args.reader.now in
    (length c.args.reader.now, omega arith, ap (λ es. converted (λ ms. of_members ms es) all) (sym c.empty_object-found.ensures), omega arith)

pub members_at-returns-in_err-name-clause-invalid : goal.members_at-returns-in_err-name-clause-invalid
members_at-returns-in_err-name-clause-invalid t c refused =
    let p = value c.args.depth in
    let l = c.members in
    let n = l.invariant.0 in
    let old = object_data l.found in
    l.invariant.2 ∙ key_refused p old n l.reader c.in_err-name.ensures.value

pub members_at-returns-in_err-member_at-clause-invalid : goal.members_at-returns-in_err-member_at-clause-invalid
members_at-returns-in_err-member_at-clause-invalid t c refused =
    let p = value c.args.depth in
    let l = c.members in
    let n = l.invariant.0 in
    let old = object_data l.found in
    let k = c.in-Some.name.now in
    let s = c.next_key.new.self in
    let named : read_key l.reader ≡ Some (Some k, s) = grind arith in
    l.invariant.2 ∙ member_refused p old n k l.reader s named (c.member_at.ensures.invalid (grind arith))

pub members_at-members-preserved : goal.members_at-members-preserved
members_at-members-preserved t c =
    let p = value c.args.depth in
    let l = c.members in
    let n = l.invariant.0 in
    let old = object_data l.found in
    let k = c.in-Some.name.now in
    let s = c.next_key.new.self in
    let named : read_key l.reader ≡ Some (Some k, s) = grind arith in
    let done = c.in_ok-member_at.ensures in
    let d = done.ok.0 in
    let r = c.member_at.new.reader in
    let less = read_key-shorter l.reader (Some k) s named in
    let lesser = done.shorter in (
      n - 1,
      omega (arith, l.invariant.1),
      l.invariant.2 ∙ member_read p old n k l.reader s r d (omega (arith, l.invariant.1)) named done.ok.1
          ∙ ap (λ found. converted (λ ms. of_members ms found) (members p (n - 1) r)) (sym done.ok.2),
      omega (arith, l.invariant.3),
    )

pub members_at-returns-clause-ok : goal.members_at-returns-clause-ok
members_at-returns-clause-ok t c =
    let p = value c.args.depth in
    let l = c.members in
    let n = l.invariant.0 in
    let old = object_data l.found in
    l.invariant.2 ∙ members_over p old n l.reader c.next_key.new.self l.invariant.1 (grind arith)

pub member_at-put_reserved-requires : goal.member_at-put_reserved-requires
member_at-put_reserved-requires t c = is_name c.args.key.now (sym c.is_reserved.ensures ∙ c.if-is_reserved.true)
