use Rattle.std.proofs.Common.{◌≡◌, string_bytes, ap, ◌∙◌, rules}
use Rattle.serde_json.specs.Data.{put}
use Rattle.serde_json.specs.View.{view, members_view}
use Rattle.avro_schema.specs.Inside.Borrowed.{put_all}
use Rattle.avro_schema.proofs.BorrowedMembers.{read_of, other_put}
use Rattle.avro_schema.proofs.owning.put_other.Goals as goal

pub returns : goal.returns
returns c =
    let xs = c.args.object.now.reserved.items in
    let others = members_view c.args.object.now.others.members.entries in
    let copied : string_bytes c.in_ok-key.key ≡ c.args.name.now = search rules in
    let added = c.in_ok-put.ensures ∙ ap (λ n. put n (view c.args.value) others) copied in
    ap (put_all (read_of xs)) added ∙ other_put xs c.args.name.now (view c.args.value) others c.requires
