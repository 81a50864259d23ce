use Rattle.std.proofs.Common.{◌∷◌, Some, refl}
use Rattle.std.specs.Prelude.{codes}
use Rattle.serde_json.specs.View.{members_view}
use Rattle.avro_nodes.specs.Identity.{array_value}
use Rattle.avro_nodes.specs.Inside.Objects.{array_end}
use Rattle.avro_nodes.proofs.Forms.{made}
use Rattle.avro_nodes.proofs.identity.types.begin_array.Goals as goal

pub returns : goal.returns
returns c = λ items new end value rest.
    made ((codes "items", Some items) ∷ array_end) c.args.extra.now.entries c.unwritten_members-others.result (array_value items (members_view c.args.extra.now.entries)) c.args.out.now c.begin_object.new.self end (refl) refl c.in_ok-begin_object.ensures c.unwritten_members-others.ensures.all c.unwritten_members-others.ensures.ordered
    (c.in_ok-write_name.ensures items new value array_end end rest)
