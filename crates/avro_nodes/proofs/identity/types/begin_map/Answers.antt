use Rattle.std.proofs.Common.{[], ◌∷◌, Some, refl}
use Rattle.std.specs.Prelude.{codes}
use Rattle.serde_json.specs.Data.{string}
use Rattle.serde_json.specs.View.{members_view}
use Rattle.avro_nodes.specs.Identity.{map_value}
use Rattle.avro_nodes.proofs.Forms.{made}
use Rattle.avro_nodes.proofs.identity.types.begin_map.Goals as goal

pub returns : goal.returns
returns c = λ values new end value rest.
    made ((codes "type", Some (string (codes "map"))) ∷ (codes "values", Some values) ∷ []) c.args.extra.now.entries c.unwritten_members-others.result (map_value values (members_view c.args.extra.now.entries)) c.args.out.now c.begin_object.new.self end (refl) refl c.in_ok-begin_object.ensures c.unwritten_members-others.ensures.all c.unwritten_members-others.ensures.ordered
    (c.in_ok-write_text.ensures ((codes "values", Some values) ∷ []) end (c.in_ok-write_name.ensures values new value [] end rest))
