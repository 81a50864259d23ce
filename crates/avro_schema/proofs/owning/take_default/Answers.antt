use Rattle.std.proofs.Common.{codes, sym, ap, ◌∙◌}
use Rattle.serde_json.specs.View.{members_view}
use Rattle.avro_schema.specs.Inside.Borrowed.{put_all}
use Rattle.avro_schema.proofs.BorrowedMembers.{read_of, other_found, other_left}
use Rattle.avro_schema.proofs.ReservedLemmas.{default_is_not, in_order}
use Rattle.avro_schema.proofs.owning.take_default.Goals as goal

pub returns-clause-value : goal.returns-clause-value
returns-clause-value c =
    let xs = c.args.object.now.reserved.items in
    let others = members_view c.args.object.now.others.members.entries in
    c.take.ensures.value ∙ sym (other_found xs (codes "default") others default_is_not)

pub returns-clause-rest : goal.returns-clause-rest
returns-clause-rest c =
    let xs = c.args.object.now.reserved.items in
    let others = members_view c.args.object.now.others.members.entries in
    ap (put_all (read_of xs)) c.take.ensures.rest ∙ other_left xs (codes "default") others default_is_not (in_order others c.args.object.now.others.in_order)
