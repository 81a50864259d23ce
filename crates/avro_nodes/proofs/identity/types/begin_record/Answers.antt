use Rattle.std.proofs.Common.{refl}
use Rattle.serde_json.specs.Data.{array}
use Rattle.serde_json.specs.View.{members_view}
use Rattle.avro_nodes.specs.Nodes.{named_view}
use Rattle.avro_nodes.specs.Identity.{record_value}
use Rattle.avro_nodes.specs.Inside.Objects.{record_end}
use Rattle.avro_nodes.proofs.Forms.{made, record_attributes, record_put}
use Rattle.avro_nodes.proofs.identity.types.begin_record.Goals as goal

pub returns : goal.returns
returns c = λ enclosing fields new end value rest.
    let named = named_view c.args.named.now in
    let aliases = rw c.deref.ensures.value at c.in_ok-write_aliases.ensures in
    made (record_attributes enclosing named fields) c.args.extra.now.entries c.unwritten_members-others.result (record_value enclosing named fields (members_view c.args.extra.now.entries)) c.args.out.now c.begin_object.new.self end (record_put enclosing named fields (members_view c.args.extra.now.entries)) refl c.in_ok-begin_object.ensures c.unwritten_members-others.ensures.all c.unwritten_members-others.ensures.ordered
    (aliases _ end (c.in_ok-write_name.ensures (array fields) new value (record_end enclosing named.name) end rest))
