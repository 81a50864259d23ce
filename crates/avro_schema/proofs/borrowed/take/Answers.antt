use Rattle.std.proofs.Common.{◌≡◌, Some, option_map, sym, ap, ◌∙◌}
use Rattle.std.specs.Prelude.{slice_get}
use Rattle.std.proofs.lemmas.Option.{slice_get-get_or, same_Some}
use Rattle.serde_json.specs.View.{members_view}
use Rattle.avro_schema.specs.Inside.Borrowed.{value_data, object_data, put_all}
use Rattle.avro_schema.proofs.BorrowedMembers.{Entry, others, read_of, taken_out}
use Rattle.avro_schema.proofs.PutLemmas.{nothing_there}
use Rattle.avro_schema.proofs.ReservedLemmas.{none_reserved, reserved_is, in_order}
use Rattle.avro_schema.proofs.borrowed.take.Goals as goal

pub returns-in_default-clause-rest : goal.returns-in_default-clause-rest
returns-in_default-clause-rest c = sym (nothing_there c.args.key.now (object_data c.args.object.now) c.in_default.ensures)

pub returns-clause-value : goal.returns-clause-value
returns-clause-value c =
    let xs = c.args.object.now.reserved.items in
    let m = c.remove-value.result in
    let here : slice_get xs c.in-Some.at ≡ Some m = slice_get-get_or xs c.in-Some.at m c.in-Some.ensures.0 ∙ ap (λ (y : Entry). Some y) (sym c.remove-value.ensures.value) in
    sym (c.in-Some.ensures.2 ∙ ap (option_map (λ (y : Entry). value_data y.1)) here)

pub returns-clause-rest : goal.returns-clause-rest
returns-clause-rest c =
    let xs = c.args.object.now.reserved.items in
    let kept = members_view c.args.object.now.others.members.entries in
    let key = c.args.key.now in
    let m = c.remove-value.result in
    let here : slice_get xs c.in-Some.at ≡ Some m = slice_get-get_or xs c.in-Some.at m c.in-Some.ensures.0 ∙ ap (λ (y : Entry). Some y) (sym c.remove-value.ensures.value) in
    let named : m.0.now ≡ key = same_Some m.0.now key (sym (ap (option_map (λ (y : Entry). y.0.now)) here) ∙ c.in-Some.ensures.1) in
    let none = none_reserved key kept (reserved_is key c.requires) c.args.object.now.others.unreserved in
    ap (λ ys. put_all (read_of ys) kept) (c.remove_members.ensures ∙ ap (others key) c.remove-value.ensures.items) ∙ taken_out key xs c.in-Some.at m kept here named none (in_order kept c.args.object.now.others.in_order)
