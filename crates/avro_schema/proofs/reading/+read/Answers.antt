use mathlib.Core.List.{map-map}
use Rattle.std.proofs.Common.{◌≡◌, ℕ, length, map, option_map, string_bytes, bytes_eq, sym, ap, ◌∙◌, arith, rules}
use Rattle.std.proofs.lemmas.List.{map_push}
use Rattle.serde_json.specs.Data.{null, boolean, number, string, array, object}
use Rattle.serde_json.specs.View.{view, number_view}
use Rattle.avro_schema.specs.Inside.Borrowed.{value_data, items_data, object_data}
use Rattle.avro_schema.proofs.BorrowedLemmas.{of_Null, of_Bool, of_Text, of_Array, of_Object, of_Owned, of_Number}
use Rattle.avro_nodes.specs.Nodes.{field_view}
use Rattle.avro_nodes.specs.Names.{namespace_of}
use Rattle.avro_schema.specs.Kinds.{branch_kind}
use Rattle.avro_schema.specs.Inside.KindNumbers.{branch_view}
use Rattle.std.specs.Prelude.{◌==◌}
use Rattle.avro_schema.specs.Inside.Distinct.{all_distinct}
use Rattle.avro_schema.proofs.AttributeLemmas.{nothing_left}
use Rattle.avro_schema.proofs.BorrowedMembers.{key_reserved}
use Rattle.avro_schema.proofs.DistinctLemmas.{field_names}
use Rattle.avro_schema.proofs.ReaderErrors.{fails_from, reads_exit, same_reads}
use Rattle.avro_schema.proofs.NameTableLemmas.{all_kept, keeps_same, keeps_then, still_numbered}
use Rattle.avro_schema.proofs.Sequence.{at_start, one_more, nodes_push, length-nodes, new_nodes, still_there, goes_on, fails_at, is_over}
use Rattle.avro_schema.proofs.ReaderCases.{too_deep, type_form, type_string, type_array, type_object, type_null, type_boolean, type_number, no_word, object_is, reference_unbound, reference_is}
use Rattle.avro_schema.proofs.ReaderCases.{container_past, nothing_held, container_unbound, held_fails, container_done, union_past, branches_fail, branches_alike, union_done, branch_fails, is_no_branch, is_branch}
use Rattle.avro_schema.proofs.ReaderCases.{no_object, no_label, no_type, field_unbound, field_fails, field_is, record_past, no_named, no_fields, record_unbound, fields_fail, fields_alike, record_done}
use Rattle.avro_schema.proofs.TypeApart.{label_apart, type_apart, rest_apart}
use Rattle.avro_schema.proofs.reading.+read.Goals as goal

-- ---- a type

pub type_at-returns-then-depth-eq0-clause-read : goal.type_at-returns-then-depth-eq0-clause-read
type_at-returns-then-depth-eq0-clause-read t c = too_deep _ _ _ _ _ c.if-depth-eq0.true

pub type_at-returns-in-Text-clause-read : goal.type_at-returns-in-Text-clause-read
type_at-returns-in-Text-clause-read t c =
    let seen : string c.in-Text.name.now ≡ value_data c.args.value = rw c.in-Text.is (sym (of_Text c.in-Text.name)) in
    same_reads _ _ _ _ _ _ _ (type_string _ _ _ _ _ (omega arith) _ seen) c.name_at.ensures

pub type_at-returns-in-Array-clause-read : goal.type_at-returns-in-Array-clause-read
type_at-returns-in-Array-clause-read t c =
    let seen : array (items_data c.in-Array.items.items) ≡ value_data c.args.value = rw c.in-Array.is (sym (of_Array c.in-Array.items)) in
    same_reads _ _ _ _ _ _ _ (type_array _ _ _ _ _ (omega arith) _ seen) c.union_at.ensures.read

pub type_at-returns-in-Object-clause-read : goal.type_at-returns-in-Object-clause-read
type_at-returns-in-Object-clause-read t c =
    let seen : object (object_data c.in-Object.object) ≡ value_data c.args.value = rw c.in-Object.is (sym (of_Object c.in-Object.object)) in
    same_reads _ _ _ _ _ _ _ (type_object _ _ _ _ _ (omega arith) _ seen) c.object_at.ensures.read

pub type_at-returns-in-Owned-clause-read : goal.type_at-returns-in-Owned-clause-read
type_at-returns-in-Owned-clause-read t c =
    let seen : view c.in-Owned.value ≡ value_data c.args.value = rw c.in-Owned.is (sym (of_Owned c.in-Owned.value)) in
    same_reads _ _ _ _ _ _ _ (type_form _ _ _ _ _ (omega arith) _ seen) c.owned_type_at.ensures.read

pub type_at-returns-in-Null-clause-read : goal.type_at-returns-in-Null-clause-read
type_at-returns-in-Null-clause-read t c =
    let seen : null ≡ value_data c.args.value = rw c.in-Null.is (sym of_Null) in
    type_null _ _ _ _ _ (omega arith) seen

pub type_at-returns-in-Bool-clause-read : goal.type_at-returns-in-Bool-clause-read
type_at-returns-in-Bool-clause-read t c =
    let seen : boolean c.in-Bool.field-0 ≡ value_data c.args.value = rw c.in-Bool.is (sym (of_Bool c.in-Bool.field-0)) in
    type_boolean _ _ _ _ _ (omega arith) _ seen

pub type_at-returns-in-Number-clause-read : goal.type_at-returns-in-Number-clause-read
type_at-returns-in-Number-clause-read t c =
    let seen : number (number_view c.in-Number.field-0) ≡ value_data c.args.value = rw c.in-Number.is (sym (of_Number c.in-Number.field-0)) in
    type_number _ _ _ _ _ (omega arith) _ seen

pub type_at-returns-in-Text-clause-kept : goal.type_at-returns-in-Text-clause-kept
type_at-returns-in-Text-clause-kept t c = all_kept c.name_at.result c.args.known.now

-- ---- an object

pub object_at-returns-in_err-name-clause-read : goal.object_at-returns-in_err-name-clause-read
object_at-returns-in_err-name-clause-read t c = reads_exit _ _ _ _ _ _ _ c.from_residual.ensures.1 (fails_from _ _ _ (no_word _ _ _ _ _) c.in_err-name.ensures.text)

pub object_at-returns-in-Primitive-clause-read : goal.object_at-returns-in-Primitive-clause-read
object_at-returns-in-Primitive-clause-read t c =
    same_reads _ _ _ _ _ _ _ (object_is _ _ _ _ _ _ _ c.in_ok-name.ensures.text c.in_ok-name.ensures.rest _ (rw c.as_str.ensures.value at c.in-Primitive.ensures)) c.primitive_at.ensures

pub object_at-returns-in-Array-clause-read : goal.object_at-returns-in-Array-clause-read
object_at-returns-in-Array-clause-read t c =
    same_reads _ _ _ _ _ _ _ (object_is _ _ _ _ _ _ _ c.in_ok-name.ensures.text c.in_ok-name.ensures.rest _ (rw c.as_str.ensures.value at c.in-Array.ensures)) c.container_at.ensures.read

pub object_at-returns-in-Map-clause-read : goal.object_at-returns-in-Map-clause-read
object_at-returns-in-Map-clause-read t c =
    same_reads _ _ _ _ _ _ _ (object_is _ _ _ _ _ _ _ c.in_ok-name.ensures.text c.in_ok-name.ensures.rest _ (rw c.as_str.ensures.value at c.in-Map.ensures)) c.container_at-in-Map.ensures.read

pub object_at-returns-in-Fixed-clause-read : goal.object_at-returns-in-Fixed-clause-read
object_at-returns-in-Fixed-clause-read t c =
    same_reads _ _ _ _ _ _ _ (object_is _ _ _ _ _ _ _ c.in_ok-name.ensures.text c.in_ok-name.ensures.rest _ (rw c.as_str.ensures.value at c.in-Fixed.ensures)) c.fixed_at.ensures.read

pub object_at-returns-in-Enum-clause-read : goal.object_at-returns-in-Enum-clause-read
object_at-returns-in-Enum-clause-read t c =
    same_reads _ _ _ _ _ _ _ (object_is _ _ _ _ _ _ _ c.in_ok-name.ensures.text c.in_ok-name.ensures.rest _ (rw c.as_str.ensures.value at c.in-Enum.ensures)) c.enum_at.ensures.read

pub object_at-returns-in-Record-clause-read : goal.object_at-returns-in-Record-clause-read
object_at-returns-in-Record-clause-read t c =
    same_reads _ _ _ _ _ _ _ (object_is _ _ _ _ _ _ _ c.in_ok-name.ensures.text c.in_ok-name.ensures.rest _ (rw c.as_str.ensures.value at c.in-Record.ensures)) c.record_at.ensures.read

pub object_at-returns-in_err-other_attributes-in-Reference-clause-read : goal.object_at-returns-in_err-other_attributes-in-Reference-clause-read
object_at-returns-in_err-other_attributes-in-Reference-clause-read t c =
    reads_exit _ _ _ _ _ _ _ c.from_residual-in_err-other_attributes-in-Reference.ensures.1
    (fails_from _ _ _ (reference_unbound _ _ _ _ _ _ _ c.in_ok-name.ensures.text c.in_ok-name.ensures.rest (rw c.as_str.ensures.value at c.in-Reference.ensures)) c.in_err-other_attributes-in-Reference.ensures)

pub object_at-returns-clause-read : goal.object_at-returns-clause-read
object_at-returns-clause-read t c =
    same_reads _ _ _ _ _ _ _ (reference_is _ _ _ _ _ _ _ c.in_ok-name.ensures.text c.in_ok-name.ensures.rest _ (rw c.as_str.ensures.value at c.in-Reference.ensures) c.in_ok-other_attributes-in-Reference.ensures)
    (rw c.as_str-in-Reference.ensures.value at c.reference_to.ensures)

pub object_at-returns-in-Primitive-clause-kept : goal.object_at-returns-in-Primitive-clause-kept
object_at-returns-in-Primitive-clause-kept t c = all_kept c.primitive_at.result c.args.known.now

pub object_at-returns-clause-kept : goal.object_at-returns-clause-kept
object_at-returns-clause-kept t c = all_kept c.reference_to.result c.args.known.now

pub owned_type_at-returns-in-String-clause-kept : goal.owned_type_at-returns-in-String-clause-kept
owned_type_at-returns-in-String-clause-kept t c = all_kept c.name_at.result c.args.known.now

-- ---- an array or a map

pub container_at-returns-in_err-place-clause-read : goal.container_at-returns-in_err-place-clause-read
container_at-returns-in_err-place-clause-read t c = reads_exit _ _ _ _ _ _ _ c.from_residual.ensures.1 (fails_from _ _ _ (container_past _ _ _ _ _) c.in_err-place.ensures.room)

pub container_at-returns-in_default-clause-read : goal.container_at-returns-in_default-clause-read
container_at-returns-in_default-clause-read t c = nothing_held _ _ _ _ _ _ c.in_ok-place.ensures.room (rw c.member_name.ensures at (sym c.in_default.ensures.value))

pub container_at-returns-in_err-extra-clause-read : goal.container_at-returns-in_err-extra-clause-read
container_at-returns-in_err-extra-clause-read t c =
    let holds = rw c.member_name.ensures at (sym c.in-Some.ensures.value) in
    let rest = rw c.member_name.ensures at c.in-Some.ensures.rest in
    reads_exit _ _ _ _ _ _ _ c.from_residual-in_err-extra.ensures.1
    (fails_from _ _ _ (container_unbound _ _ _ _ _ _ c.in_ok-place.ensures.room _ holds) (rw rest at c.in_err-extra.ensures))

pub container_at-returns-in_err-within-clause-read : goal.container_at-returns-in_err-within-clause-read
container_at-returns-in_err-within-clause-read t c =
    let holds = rw c.member_name.ensures at (sym c.in-Some.ensures.value) in
    let rest = rw c.member_name.ensures at c.in-Some.ensures.rest in
    let next = one_more _ _ _ c.in_ok-push.ensures.items in
    reads_exit _ _ _ _ _ _ _ c.from_residual-in_err-within.ensures.1
    (fails_from _ _ _ (held_fails _ _ _ _ _ _ c.in_ok-place.ensures.room _ holds _ (rw rest at c.in_ok-extra.ensures)) (rw next at c.in_err-within.ensures.read))

pub container_at-take-requires : goal.container_at-take-requires
container_at-take-requires t c = rw c.member_name.ensures (key_reserved c.args.object.container)

pub container_at-fill_placeholder-requires : goal.container_at-fill_placeholder-requires
container_at-fill_placeholder-requires t c =
    let next = one_more _ _ _ c.in_ok-push.ensures.items in
    still_there _ _ _ _ _ c.in_ok-within.ensures.read.after_is next c.in_ok-place.ensures.place

pub container_at-returns-clause-read : goal.container_at-returns-clause-read
container_at-returns-clause-read t c =
    let holds = rw c.member_name.ensures at (sym c.in-Some.ensures.value) in
    let rest = rw c.member_name.ensures at c.in-Some.ensures.rest in
    let next = one_more _ _ _ c.in_ok-push.ensures.items in
    rw (c.fill_placeholder.ensures, c.container_node.ensures)
    (container_done _ _ _ _ _ _ c.in_ok-place.ensures.room _ holds _ (rw rest at c.in_ok-extra.ensures) _ _ _ _ _ _ (c.in_ok-place.ensures.place ∙ sym (length-nodes _)) (nodes_push _ _ _ c.in_ok-push.ensures.items) (rw next at c.in_ok-within.ensures.read))

-- ---- a union

pub branch_at-returns-in_err-place-clause-read : goal.branch_at-returns-in_err-place-clause-read
branch_at-returns-in_err-place-clause-read t c = reads_exit _ _ _ _ _ _ _ c.from_residual.ensures.1 (fails_from _ _ _ (branch_fails _ _ _ _) c.in_err-place.ensures.read)

pub branch_at-returns-in_default-clause-read : goal.branch_at-returns-in_default-clause-read
branch_at-returns-in_default-clause-read t c =
    let found = c.in_ok-place.ensures.read in
    let added = new_nodes c.args.nodes.now.items c.type_at.new.nodes.items found.added c.len-before.result found.after_is (c.len-before.ensures ∙ c.args.nodes.now.ok.0) in
    is_no_branch _ _ _ _ _ _ _ _ found (ap (branch_kind c.in_ok-place.place) (sym added) ∙ (rw c.deref.ensures.value at (sym (c.in_default.ensures c.in_ok-place.place))))

pub branch_at-returns-clause-read : goal.branch_at-returns-clause-read
branch_at-returns-clause-read t c =
    let found = c.in_ok-place.ensures.read in
    let added = new_nodes c.args.nodes.now.items c.type_at.new.nodes.items found.added c.len-before.result found.after_is (c.len-before.ensures ∙ c.args.nodes.now.ok.0) in
    is_branch _ _ _ _ _ _ _ _ _ found (ap (branch_kind c.in_ok-place.place) (sym added) ∙ (rw c.deref.ensures.value at (sym (c.in-Some.ensures c.in_ok-place.place))))

pub tree_branches_at-loop-item-init : goal.tree_branches_at-loop-item-init
tree_branches_at-loop-item-init t c = (rw c.in_ok-branches.ensures.items (at_start _ _ _ _ _), search rules, keeps_same c.args.known.now)

pub tree_branches_at-branch_at-requires : goal.tree_branches_at-branch_at-requires
tree_branches_at-branch_at-requires t c = (search rules, still_numbered c.args.known.now c.loop-item.known c.args.space.now.text.now c.args.space.now.number c.loop-item.invariant.2 c.requires)

pub tree_branches_at-returns-in_err-branch_at-clause-read : goal.tree_branches_at-returns-in_err-branch_at-clause-read
tree_branches_at-returns-in_err-branch_at-clause-read t c =
    let at = rw c.in-Some.ensures.steps.0 at c.loop-item.invariant.0 in
    reads_exit _ _ _ _ _ _ _ c.from_residual-in_err-branch_at.ensures.1
    (rw (← c.into_iter-item-iterator.ensures.into_iter_gives.0) (fails_at _ _ _ _ _ _ _ _ _ _ _ _ at c.in_err-branch_at.ensures.read))

pub tree_branches_at-loop-item-preserved : goal.tree_branches_at-loop-item-preserved
tree_branches_at-loop-item-preserved t c =
    let at = rw c.in-Some.ensures.steps.0 at c.loop-item.invariant.0 in
    let longer = c.in-Some.ensures.steps.1 in
    let short = ap length c.in-Some.ensures.steps.0 in
    let was = c.loop-item.invariant.1 in (
      rw (c.in_ok-push.ensures.items, map_push branch_view c.loop-item.branches.items c.in_ok-branch_at.field-0)
          (goes_on _ _ _ _ _ _ _ _ _ _ _ _ _ _ _ at c.in_ok-branch_at.ensures.read (sym (length-nodes _)) (sym (length-nodes _))),
      omega arith,
      keeps_then c.args.known.now c.loop-item.known c.branch_at.new.known c.loop-item.invariant.2 c.in_ok-branch_at.ensures.kept,
    )

pub tree_branches_at-returns-clause-read : goal.tree_branches_at-returns-clause-read
tree_branches_at-returns-clause-read t c =
    let empty = nothing_left _ (sym c.in-None.ensures.steps.0 ∙ c.loop-item.invariant.1) in
    rw (← c.into_iter-item-iterator.ensures.into_iter_gives.0) (is_over _ _ _ _ _ _ _ _ _ (rw empty at c.loop-item.invariant.0))

pub owned_branches_at-loop-value-init : goal.owned_branches_at-loop-value-init
owned_branches_at-loop-value-init t c = (rw c.in_ok-branches.ensures.items (at_start _ _ _ _ _), search rules, keeps_same c.args.known.now)

pub owned_branches_at-branch_at-requires : goal.owned_branches_at-branch_at-requires
owned_branches_at-branch_at-requires t c = (search rules, still_numbered c.args.known.now c.loop-value.known c.args.space.now.text.now c.args.space.now.number c.loop-value.invariant.2 c.requires)

pub owned_branches_at-returns-in_err-branch_at-clause-read : goal.owned_branches_at-returns-in_err-branch_at-clause-read
owned_branches_at-returns-in_err-branch_at-clause-read t c =
    let at = rw c.in-Some.ensures.steps.0 at c.loop-value.invariant.0 in
    reads_exit _ _ _ _ _ _ _ c.from_residual-in_err-branch_at.ensures.1
    (rw (← c.into_iter-value-iterator.ensures.into_iter_gives.0) (fails_at _ _ _ _ _ _ _ _ _ _ _ _ at (rw (of_Owned c.in-Some.value) at c.in_err-branch_at.ensures.read)))

pub owned_branches_at-loop-value-preserved : goal.owned_branches_at-loop-value-preserved
owned_branches_at-loop-value-preserved t c =
    let at = rw c.in-Some.ensures.steps.0 at c.loop-value.invariant.0 in
    let longer = c.in-Some.ensures.steps.1 in
    let short = ap length c.in-Some.ensures.steps.0 in
    let was = c.loop-value.invariant.1 in (
      rw (c.in_ok-push.ensures.items, map_push branch_view c.loop-value.branches.items c.in_ok-branch_at.field-0)
          (goes_on _ _ _ _ _ _ _ _ _ _ _ _ _ _ _ at (rw (of_Owned c.in-Some.value) at c.in_ok-branch_at.ensures.read) (sym (length-nodes _)) (sym (length-nodes _))),
      omega arith,
      keeps_then c.args.known.now c.loop-value.known c.branch_at.new.known c.loop-value.invariant.2 c.in_ok-branch_at.ensures.kept,
    )

pub owned_branches_at-returns-clause-read : goal.owned_branches_at-returns-clause-read
owned_branches_at-returns-clause-read t c =
    let empty = nothing_left _ (sym c.in-None.ensures.steps.0 ∙ c.loop-value.invariant.1) in
    rw (← c.into_iter-value-iterator.ensures.into_iter_gives.0) (is_over _ _ _ _ _ _ _ _ _ (rw empty at c.loop-value.invariant.0))

pub union_at-returns-in_err-place-clause-read : goal.union_at-returns-in_err-place-clause-read
union_at-returns-in_err-place-clause-read t c = reads_exit _ _ _ _ _ _ _ c.from_residual.ensures.1 (fails_from _ _ _ (union_past _ _ _ _) c.in_err-place.ensures.room)

pub union_at-returns-in_err-read-clause-read : goal.union_at-returns-in_err-read-clause-read
union_at-returns-in_err-read-clause-read t c =
    let next = one_more _ _ _ c.in_ok-push.ensures.items in
    reads_exit _ _ _ _ _ _ _ c.from_residual-in_err-read.ensures.1 (fails_from _ _ _ (branches_fail _ _ _ _ _ c.in_ok-place.ensures.room) (rw next at c.in_err-read.ensures.read))

pub union_at-returns-then-not-are_numbers_distinct-clause-read : goal.union_at-returns-then-not-are_numbers_distinct-clause-read
union_at-returns-then-not-are_numbers_distinct-clause-read t c =
    let next = one_more _ _ _ c.in_ok-push.ensures.items in
    let kinds : c.in_ok-kinds.kinds.items ≡ map (λ b. (branch_view b).1) c.in_ok-read.read.items = search rules in
    let alike = ap (all_distinct (λ a b. a == b)) (map-map (λ (b : ℕ × ℕ). b.1) branch_view c.in_ok-read.read.items ∙ sym kinds) ∙ sym c.are_numbers_distinct.ensures ∙ c.if-not-are_numbers_distinct.true in
    branches_alike _ _ _ _ _ c.in_ok-place.ensures.room _ _ _ _ (rw next at c.in_ok-read.ensures.read) alike

pub union_at-fill_placeholder-requires : goal.union_at-fill_placeholder-requires
union_at-fill_placeholder-requires t c =
    let next = one_more _ _ _ c.in_ok-push.ensures.items in
    still_there _ _ _ _ _ c.in_ok-read.ensures.read.after_is next c.in_ok-place.ensures.place

pub union_at-returns-clause-read : goal.union_at-returns-clause-read
union_at-returns-clause-read t c =
    let next = one_more _ _ _ c.in_ok-push.ensures.items in
    let kinds : c.in_ok-kinds.kinds.items ≡ map (λ b. (branch_view b).1) c.in_ok-read.read.items = search rules in
    let differ = ap (all_distinct (λ a b. a == b)) (map-map (λ (b : ℕ × ℕ). b.1) branch_view c.in_ok-read.read.items ∙ sym kinds) ∙ sym c.are_numbers_distinct.ensures ∙ c.if-not-are_numbers_distinct.false in
    let places : c.in_ok-branches.branches.items ≡ map (λ b. b.place) c.in_ok-read.read.items = search rules in
    let branches = places ∙ sym (map-map (λ (b : ℕ × ℕ). b.0) branch_view c.in_ok-read.read.items) in
    rw (c.fill_placeholder.ensures, branches)
    (union_done _ _ _ _ _ c.in_ok-place.ensures.room _ _ _ _ _ _ (c.in_ok-place.ensures.place ∙ sym (length-nodes _)) (nodes_push _ _ _ c.in_ok-push.ensures.items) (rw next at c.in_ok-read.ensures.read) differ)

-- ---- a field

pub field_at-returns-in_default-clause-read : goal.field_at-returns-in_default-clause-read
field_at-returns-in_default-clause-read t c = no_object _ _ _ _ (sym c.in_default.ensures)

pub field_at-returns-in_err-label-clause-read : goal.field_at-returns-in_err-label-clause-read
field_at-returns-in_err-label-clause-read t c =
    let same = label_apart _ _ _ (sym c.in-Some.ensures) c.take-inner.ensures.rest in
    let label = rw same at c.in_err-label.ensures.label in
    reads_exit _ _ _ _ _ _ _ c.from_residual.ensures.1 (fails_from _ _ _ (no_label _ _ _ _ _ (sym c.in-Some.ensures)) label)

pub field_at-returns-in_default-inner-clause-read : goal.field_at-returns-in_default-inner-clause-read
field_at-returns-in_default-inner-clause-read t c =
    let same = label_apart _ _ _ (sym c.in-Some.ensures) c.take-inner.ensures.rest in
    let label = rw same at c.in_ok-label.ensures.label in
    no_type _ _ _ _ _ (sym c.in-Some.ensures) _ label (type_apart _ _ _ (sym c.in-Some.ensures) c.take-inner.ensures.rest ∙ sym c.take-inner.ensures.value ∙ ap (option_map value_data) c.in_default-inner.is)

pub field_at-returns-in_err-extra-clause-read : goal.field_at-returns-in_err-extra-clause-read
field_at-returns-in_err-extra-clause-read t c =
    let same = label_apart _ _ _ (sym c.in-Some.ensures) c.take-inner.ensures.rest in
    let label = rw same at c.in_ok-label.ensures.label in
    let typed = type_apart _ _ _ (sym c.in-Some.ensures) c.take-inner.ensures.rest ∙ sym c.take-inner.ensures.value ∙ ap (option_map value_data) c.in-Some-inner.is in
    let rest = c.in_ok-label.ensures.rest ∙ rest_apart _ _ _ (sym c.in-Some.ensures) c.take-inner.ensures.rest in
    reads_exit _ _ _ _ _ _ _ c.from_residual-in_err-extra.ensures.1
    (fails_from _ _ _ (field_unbound _ _ _ _ _ (sym c.in-Some.ensures) _ label _ typed) (rw rest at c.in_err-extra.ensures))

pub field_at-returns-in_err-place-clause-read : goal.field_at-returns-in_err-place-clause-read
field_at-returns-in_err-place-clause-read t c =
    let same = label_apart _ _ _ (sym c.in-Some.ensures) c.take-inner.ensures.rest in
    let label = rw same at c.in_ok-label.ensures.label in
    let typed = type_apart _ _ _ (sym c.in-Some.ensures) c.take-inner.ensures.rest ∙ sym c.take-inner.ensures.value ∙ ap (option_map value_data) c.in-Some-inner.is in
    let rest = c.in_ok-label.ensures.rest ∙ rest_apart _ _ _ (sym c.in-Some.ensures) c.take-inner.ensures.rest in
    reads_exit _ _ _ _ _ _ _ c.from_residual-in_err-place.ensures.1
    (fails_from _ _ _ (field_fails _ _ _ _ _ (sym c.in-Some.ensures) _ label _ typed _ (rw rest at c.in_ok-extra.ensures)) c.in_err-place.ensures.read)

pub field_at-returns-clause-read : goal.field_at-returns-clause-read
field_at-returns-clause-read t c =
    let same = label_apart _ _ _ (sym c.in-Some.ensures) c.take-inner.ensures.rest in
    let label = rw same at c.in_ok-label.ensures.label in
    let typed = type_apart _ _ _ (sym c.in-Some.ensures) c.take-inner.ensures.rest ∙ sym c.take-inner.ensures.value ∙ ap (option_map value_data) c.in-Some-inner.is in
    let rest = c.in_ok-label.ensures.rest ∙ rest_apart _ _ _ (sym c.in-Some.ensures) c.take-inner.ensures.rest in
    rw c.field_from.ensures
    (field_is _ _ _ _ _ (sym c.in-Some.ensures) _ label _ typed _ (rw rest at c.in_ok-extra.ensures) _ _ _ _ c.in_ok-place.ensures.read)

pub tree_fields_at-loop-item-init : goal.tree_fields_at-loop-item-init
tree_fields_at-loop-item-init t c = (rw c.in_ok-fields.ensures.items (at_start _ _ _ _ _), search rules, keeps_same c.args.known.now)

pub tree_fields_at-field_at-requires : goal.tree_fields_at-field_at-requires
tree_fields_at-field_at-requires t c = (search rules, still_numbered c.args.known.now c.loop-item.known c.args.space.now.text.now c.args.space.now.number c.loop-item.invariant.2 c.requires)

pub tree_fields_at-returns-in_err-field_at-clause-read : goal.tree_fields_at-returns-in_err-field_at-clause-read
tree_fields_at-returns-in_err-field_at-clause-read t c =
    let at = rw c.in-Some.ensures.steps.0 at c.loop-item.invariant.0 in
    reads_exit _ _ _ _ _ _ _ c.from_residual-in_err-field_at.ensures.1
    (rw (← c.into_iter-item-iterator.ensures.into_iter_gives.0) (fails_at _ _ _ _ _ _ _ _ _ _ _ _ at c.in_err-field_at.ensures.read))

pub tree_fields_at-loop-item-preserved : goal.tree_fields_at-loop-item-preserved
tree_fields_at-loop-item-preserved t c =
    let at = rw c.in-Some.ensures.steps.0 at c.loop-item.invariant.0 in
    let longer = c.in-Some.ensures.steps.1 in
    let short = ap length c.in-Some.ensures.steps.0 in
    let was = c.loop-item.invariant.1 in (
      rw (c.in_ok-push.ensures.items, map_push field_view c.loop-item.fields.items c.in_ok-field_at.field-0)
          (goes_on _ _ _ _ _ _ _ _ _ _ _ _ _ _ _ at c.in_ok-field_at.ensures.read (sym (length-nodes _)) (sym (length-nodes _))),
      omega arith,
      keeps_then c.args.known.now c.loop-item.known c.field_at.new.known c.loop-item.invariant.2 c.in_ok-field_at.ensures.kept,
    )

pub tree_fields_at-returns-clause-read : goal.tree_fields_at-returns-clause-read
tree_fields_at-returns-clause-read t c =
    let empty = nothing_left _ (sym c.in-None.ensures.steps.0 ∙ c.loop-item.invariant.1) in
    rw (← c.into_iter-item-iterator.ensures.into_iter_gives.0) (is_over _ _ _ _ _ _ _ _ _ (rw empty at c.loop-item.invariant.0))

pub owned_fields_at-loop-value-init : goal.owned_fields_at-loop-value-init
owned_fields_at-loop-value-init t c = (rw c.in_ok-fields.ensures.items (at_start _ _ _ _ _), search rules, keeps_same c.args.known.now)

pub owned_fields_at-field_at-requires : goal.owned_fields_at-field_at-requires
owned_fields_at-field_at-requires t c = (search rules, still_numbered c.args.known.now c.loop-value.known c.args.space.now.text.now c.args.space.now.number c.loop-value.invariant.2 c.requires)

pub owned_fields_at-returns-in_err-field_at-clause-read : goal.owned_fields_at-returns-in_err-field_at-clause-read
owned_fields_at-returns-in_err-field_at-clause-read t c =
    let at = rw c.in-Some.ensures.steps.0 at c.loop-value.invariant.0 in
    reads_exit _ _ _ _ _ _ _ c.from_residual-in_err-field_at.ensures.1
    (rw (← c.into_iter-value-iterator.ensures.into_iter_gives.0) (fails_at _ _ _ _ _ _ _ _ _ _ _ _ at (rw (of_Owned c.in-Some.value) at c.in_err-field_at.ensures.read)))

pub owned_fields_at-loop-value-preserved : goal.owned_fields_at-loop-value-preserved
owned_fields_at-loop-value-preserved t c =
    let at = rw c.in-Some.ensures.steps.0 at c.loop-value.invariant.0 in
    let longer = c.in-Some.ensures.steps.1 in
    let short = ap length c.in-Some.ensures.steps.0 in
    let was = c.loop-value.invariant.1 in (
      rw (c.in_ok-push.ensures.items, map_push field_view c.loop-value.fields.items c.in_ok-field_at.field-0)
          (goes_on _ _ _ _ _ _ _ _ _ _ _ _ _ _ _ at (rw (of_Owned c.in-Some.value) at c.in_ok-field_at.ensures.read) (sym (length-nodes _)) (sym (length-nodes _))),
      omega arith,
      keeps_then c.args.known.now c.loop-value.known c.field_at.new.known c.loop-value.invariant.2 c.in_ok-field_at.ensures.kept,
    )

pub owned_fields_at-returns-clause-read : goal.owned_fields_at-returns-clause-read
owned_fields_at-returns-clause-read t c =
    let empty = nothing_left _ (sym c.in-None.ensures.steps.0 ∙ c.loop-value.invariant.1) in
    rw (← c.into_iter-value-iterator.ensures.into_iter_gives.0) (is_over _ _ _ _ _ _ _ _ _ (rw empty at c.loop-value.invariant.0))

-- ---- a record

pub record_at-returns-in_err-place-clause-read : goal.record_at-returns-in_err-place-clause-read
record_at-returns-in_err-place-clause-read t c = reads_exit _ _ _ _ _ _ _ c.from_residual.ensures.1 (fails_from _ _ _ (record_past _ _ _ _ _) c.in_err-place.ensures.room)

pub record_at-returns-in_err-named-clause-read : goal.record_at-returns-in_err-named-clause-read
record_at-returns-in_err-named-clause-read t c =
    reads_exit _ _ _ _ _ _ _ c.from_residual-in_err-named.ensures.1 (fails_from _ _ _ (no_named _ _ _ _ _ _ c.in_ok-place.ensures.room) c.in_err-named.ensures.named)

pub record_at-returns-in_err-items-clause-read : goal.record_at-returns-in_err-items-clause-read
record_at-returns-in_err-items-clause-read t c =
    reads_exit _ _ _ _ _ _ _ c.from_residual-in_err-items.ensures.1
    (fails_from _ _ _ (no_fields _ _ _ _ _ _ c.in_ok-place.ensures.room _ c.in_ok-named.ensures.named) (rw c.in_ok-named.ensures.rest at c.in_err-items.ensures.items))

pub record_at-returns-in_err-extra-clause-read : goal.record_at-returns-in_err-extra-clause-read
record_at-returns-in_err-extra-clause-read t c =
    let listed = rw c.in_ok-named.ensures.rest at c.in_ok-items.ensures.items in
    let rest = rw c.in_ok-named.ensures.rest at c.in_ok-items.ensures.rest in
    reads_exit _ _ _ _ _ _ _ c.from_residual-in_err-extra.ensures.1
    (fails_from _ _ _ (record_unbound _ _ _ _ _ _ c.in_ok-place.ensures.room _ c.in_ok-named.ensures.named _ listed) (rw rest at c.in_err-extra.ensures))

pub record_at-returns-in_err-fields-clause-read : goal.record_at-returns-in_err-fields-clause-read
record_at-returns-in_err-fields-clause-read t c =
    let listed = rw c.in_ok-named.ensures.rest at c.in_ok-items.ensures.items in
    let rest = rw c.in_ok-named.ensures.rest at c.in_ok-items.ensures.rest in
    let next = one_more _ _ _ c.in_ok-push.ensures.items in
    let inside : c.namespace_of.result.now ≡ namespace_of (string_bytes c.in_ok-named.named.name) = c.namespace_of.ensures ∙ ap namespace_of c.as_str-2.ensures.value in
    let known = rw c.as_str.ensures.value at c.in_ok-number.ensures.defined in
    reads_exit _ _ _ _ _ _ _ c.from_residual-in_err-fields.ensures.1
    (fails_from _ _ _ (fields_fail _ _ _ _ _ _ c.in_ok-place.ensures.room _ c.in_ok-named.ensures.named _ listed _ (rw rest at c.in_ok-extra.ensures)) (rw (inside, known, next) at c.in_err-fields.ensures.read))

pub record_at-returns-then-not-branch-clause-read : goal.record_at-returns-then-not-branch-clause-read
record_at-returns-then-not-branch-clause-read t c =
    let listed = rw c.in_ok-named.ensures.rest at c.in_ok-items.ensures.items in
    let rest = rw c.in_ok-named.ensures.rest at c.in_ok-items.ensures.rest in
    let next = one_more _ _ _ c.in_ok-push.ensures.items in
    let inside : c.namespace_of.result.now ≡ namespace_of (string_bytes c.in_ok-named.named.name) = c.namespace_of.ensures ∙ ap namespace_of c.as_str-2.ensures.value in
    let known = rw c.as_str.ensures.value at c.in_ok-number.ensures.defined in
    let alike = rw c.deref.ensures.value at (sym c.in_ok-are_names_distinct.ensures ∙ c.if-not-branch.true) in
    fields_alike _ _ _ _ _ _ c.in_ok-place.ensures.room _ c.in_ok-named.ensures.named _ listed _ (rw rest at c.in_ok-extra.ensures) _ _ _ _ (rw (inside, known, next) at c.in_ok-fields.ensures.read) (ap (all_distinct bytes_eq) (field_names c.in_ok-fields.fields.items) ∙ alike)

pub record_at-fill_placeholder-requires : goal.record_at-fill_placeholder-requires
record_at-fill_placeholder-requires t c =
    let next = one_more _ _ _ c.in_ok-push.ensures.items in
    still_there _ _ _ _ _ c.in_ok-fields.ensures.read.after_is next c.in_ok-place.ensures.place

pub record_at-returns-clause-read : goal.record_at-returns-clause-read
record_at-returns-clause-read t c =
    let listed = rw c.in_ok-named.ensures.rest at c.in_ok-items.ensures.items in
    let rest = rw c.in_ok-named.ensures.rest at c.in_ok-items.ensures.rest in
    let next = one_more _ _ _ c.in_ok-push.ensures.items in
    let inside : c.namespace_of.result.now ≡ namespace_of (string_bytes c.in_ok-named.named.name) = c.namespace_of.ensures ∙ ap namespace_of c.as_str-2.ensures.value in
    let known = rw c.as_str.ensures.value at c.in_ok-number.ensures.defined in
    let differ = rw c.deref.ensures.value at (sym c.in_ok-are_names_distinct.ensures ∙ c.if-not-branch.false) in
    rw c.fill_placeholder.ensures
    (record_done _ _ _ _ _ _ c.in_ok-place.ensures.room _ c.in_ok-named.ensures.named _ listed _ (rw rest at c.in_ok-extra.ensures) _ _ _ _ _ _ (c.in_ok-place.ensures.place ∙ sym (length-nodes _)) (nodes_push _ _ _ c.in_ok-push.ensures.items) (rw (inside, known, next) at c.in_ok-fields.ensures.read) (ap (all_distinct bytes_eq) (field_names c.in_ok-fields.fields.items) ∙ differ))

pub record_at-returns-clause-kept : goal.record_at-returns-clause-kept
record_at-returns-clause-kept t c = keeps_then c.args.known.now c.define.new.self c.fields_at.new.known c.in_ok-number.ensures.kept c.in_ok-fields.ensures.kept
