use Rattle.std.proofs.Common.{List, [], ◌∷◌, ◌++◌, ap, ◌∙◌}
use Rattle.serde_json.specs.View.{members_view}
use Rattle.avro_schema.specs.Inside.Borrowed.{put_all, value_data}
use Rattle.avro_schema.proofs.BorrowedMembers.{Entry, read_of, pushed}
use Rattle.avro_schema.proofs.ReservedLemmas.{reserved_is}
use Rattle.avro_schema.proofs.borrowed.put_reserved.Goals as goal

pub returns : goal.returns
returns c =
    let left = c.drop_member.new.object in
    let kept = members_view left.others.members.entries in
    let added = c.in_ok-push.ensures.items ∙ ap (λ (ys : List Entry). ys ++ (c.args.key, c.args.value) ∷ []) c.reserve_two.ensures in
    ap (λ ys. put_all (read_of ys) kept) added
    ∙ pushed left.reserved.items (c.args.key, c.args.value) kept
    ∙ rw (reserved_is c.args.key.now c.requires) (c.drop_member.ensures (value_data c.args.value))
