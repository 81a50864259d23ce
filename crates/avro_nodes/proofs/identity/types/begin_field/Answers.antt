use Rattle.std.proofs.Common.{[], drop, refl}
use Rattle.avro_nodes.specs.Nodes.{field_view}
use Rattle.avro_nodes.specs.Identity.{field_value}
use Rattle.avro_nodes.proofs.Forms.{made, field_attributes, field_put}
use Rattle.avro_nodes.proofs.identity.types.begin_field.Goals as goal

pub returns : goal.returns
returns c = λ type new end value rest.
    let field = field_view c.args.field.now in
    let ps = field_attributes field type in
    let aliases = rw c.deref.ensures.value at c.in_ok-write_aliases.ensures in
    let name = rw c.as_str.ensures.value at c.in_ok-write_text.ensures in
    made (ps) c.args.field.now.extra.entries c.unwritten_members-others.result (field_value field type) c.args.out.now c.begin_object.new.self end (field_put field type) refl c.in_ok-begin_object.ensures c.unwritten_members-others.ensures.all c.unwritten_members-others.ensures.ordered
    (aliases (drop 1 ps) end (c.in_ok-write_default.ensures (drop 2 ps) end (name (drop 3 ps) end (c.in_ok-write_order.ensures (drop 4 ps) end (c.in_ok-write_name.ensures type new value [] end rest)))))
