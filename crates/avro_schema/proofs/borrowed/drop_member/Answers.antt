use Rattle.std.proofs.Common.{◌≡◌, Some, option_map, sym, ap, ◌∙◌}
use Rattle.std.specs.Prelude.{slice_get}
use Rattle.std.proofs.lemmas.Option.{slice_get-get_or, same_Some}
use Rattle.serde_json.specs.Data.{put}
use Rattle.serde_json.specs.View.{members_view}
use Rattle.avro_schema.specs.Inside.Borrowed.{object_data, put_all}
use Rattle.avro_schema.proofs.BorrowedMembers.{Entry, others, read_of, taken_out, ordered_all}
use Rattle.avro_schema.proofs.PutLemmas.{put_again}
use Rattle.avro_schema.proofs.ReservedLemmas.{none_reserved, reserved_is, in_order}
use Rattle.avro_schema.proofs.borrowed.drop_member.Goals as goal

pub returns : goal.returns
returns c value =
    let old = c.args.object.now in
    let xs = old.reserved.items in
    let kept = members_view old.others.members.entries in
    let key = c.args.key.now in
    let m = c.remove.result in
    let ordered = in_order kept old.others.in_order in
    let here : slice_get xs c.in-Some.at ≡ Some m = slice_get-get_or xs c.in-Some.at m c.in-Some.ensures.0 ∙ ap (λ (y : Entry). Some y) (sym c.remove.ensures.value) in
    let named : m.0.now ≡ key = same_Some m.0.now key (sym (ap (option_map (λ (y : Entry). y.0.now)) here) ∙ c.in-Some.ensures.1) in
    let none = none_reserved key kept (reserved_is key c.requires) old.others.unreserved in
    ap (λ ys. put key value (put_all (read_of ys) kept)) (c.remove_members.ensures ∙ ap (others key) c.remove.ensures.items)
    ∙ ap (put key value) (taken_out key xs c.in-Some.at m kept here named none ordered)
    ∙ put_again key value (object_data old) (ordered_all xs kept ordered)
