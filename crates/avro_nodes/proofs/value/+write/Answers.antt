use Rattle.std.proofs.Common.{◌≡◌, ◌+◌, ◌∷◌, [], List, drop, sym, ap, ◌∙◌, subst, arith, rules}
use Rattle.std.proofs.lemmas.List.{drop_more, drop_all}
use Rattle.std.proofs.lemmas.Result.{on_ok_weaker}
use Rattle.serde_json.specs.Data.{Data, null, boolean, number, string}
use Rattle.serde_json.specs.View.{view, number_view, items_view, members_view}
use Rattle.serde_json.specs.Written.{WritesValue, WritesItems}
use Rattle.serde_json.specs.declared.value.Value.{Value, the_lemmas}
use Rattle.serde_json.proofs.Views.{Entry, view-Array, view-Object}
use Rattle.avro_nodes.specs.Inside.Objects.{EndsObject}
use Rattle.avro_nodes.proofs.Written.{items_ended, items_on, array_ended, members_ended, members_on, object_ended, ordered_entries, null_written, boolean_written, number_written, string_written}
use Rattle.avro_nodes.proofs.value.+write.Goals as goal

pub write_array-loop-item-preserved : goal.write_array-loop-item-preserved
write_array-loop-item-preserved t c = λ end rest.
    let l = c.loop-item in
    let xs = c.deref-item-items.result.now in
    let x = c.item-item.result in
    let here : drop l.item-index xs ≡ x ∷ drop (l.item-index + 1) xs = drop_more xs l.item-index x (omega arith) ∙ ap (λ (y : Value). y ∷ drop (l.item-index + 1) xs) (sym c.item-item.is) in
    l.invariant end (subst (λ (vs : List Value). WritesItems (items_view vs) l.out end) (sym here) (items_on _ _ _ _ end c.in_ok-write_value.ensures rest))

pub write_array-returns : goal.write_array-returns
write_array-returns t c =
    let l = c.loop-item in
    let xs = c.deref-item-items.result.now in
    let none : drop l.item-index xs ≡ [] = drop_all l.item-index xs (omega arith) in
    on_ok_weaker c.end_array.result (λ e.
    array_ended _ _ _ _ c.in_ok-begin_array.ensures
    (subst (λ (ys : List Value). WritesItems (items_view ys) c.begin_array.new.self c.end_array.new.self) c.deref-item-items.ensures.value
    (l.invariant _ (subst (λ (ys : List Value). WritesItems (items_view ys) l.out c.end_array.new.self) (sym none) (items_ended _ _ e))))) c.end_array.ensures

pub write_object-loop-name-preserved : goal.write_object-loop-name-preserved
write_object-loop-name-preserved t c = λ end rest.
    let l = c.loop-name in
    let named = rw c.as_str.ensures.value at (c.in_ok-write_member.ensures (members_view c.next.new.self) end rest) in
    l.invariant end (subst (λ (es : List Entry). EndsObject (members_view es) l.out end) (sym c.in-Some.ensures.steps) named)

pub write_object-returns : goal.write_object-returns
write_object-returns t c =
    let l = c.loop-name in
    on_ok_weaker c.end_object.result (λ e.
    object_ended _ _ _ _ c.in_ok-begin_object.ensures
    (l.invariant _ (subst (λ (es : List Entry). EndsObject (members_view es) l.out c.end_object.new.self) (sym c.in-None.ensures.steps.0) (members_ended _ _ e)))
    (ordered_entries _ c.iter-name-items.ensures.ordered)) c.end_object.ensures

pub write_value-returns-in-Null : goal.write_value-returns-in-Null
write_value-returns-in-Null t c =
    let seen : view c.args.value.now ≡ null = rw c.in-Null.is (search (rules, the_lemmas)) in
    on_ok_weaker c.null.result (λ e. rw seen (null_written _ _ e)) c.null.ensures

pub write_value-returns-in-Bool : goal.write_value-returns-in-Bool
write_value-returns-in-Bool t c =
    let seen : view c.args.value.now ≡ boolean c.in-Bool.b = rw c.in-Bool.is (search (rules, the_lemmas)) in
    on_ok_weaker c.boolean.result (λ e. rw seen (boolean_written _ _ _ e)) c.boolean.ensures

pub write_value-returns-in-Number : goal.write_value-returns-in-Number
write_value-returns-in-Number t c =
    let seen : view c.args.value.now ≡ number (number_view c.in-Number.number) = rw c.in-Number.is (search (rules, the_lemmas)) in
    on_ok_weaker c.number.result (λ w. rw seen (number_written _ _ _ w)) c.number.ensures

pub write_value-returns-in-String : goal.write_value-returns-in-String
write_value-returns-in-String t c =
    let seen : view c.args.value.now ≡ string c.as_str.result.now = rw c.in-String.is (search (rules, the_lemmas)) in
    on_ok_weaker c.string.result (λ e. rw seen (string_written _ _ _ e)) c.string.ensures

pub write_value-returns-in-Array : goal.write_value-returns-in-Array
write_value-returns-in-Array t c =
    let seen = ap view c.in-Array.is ∙ view-Array c.in-Array.items in
    on_ok_weaker c.write_array.result (λ w. subst (λ (d : Data). WritesValue d c.args.out.now c.write_array.new.out) (sym seen) w) c.write_array.ensures

pub write_value-returns-in-Object : goal.write_value-returns-in-Object
write_value-returns-in-Object t c =
    let seen = ap view c.in-Object.is ∙ view-Object c.in-Object.members in
    on_ok_weaker c.write_object.result (λ w. subst (λ (d : Data). WritesValue d c.args.out.now c.write_object.new.out) (sym seen) w) c.write_object.ensures

pub write_member-returns : goal.write_member-returns
write_member-returns t c = on_ok_weaker c.write_value.result (λ w ms end rest. members_on _ _ ms _ _ _ end c.in_ok-key.ensures w rest) c.write_value.ensures
