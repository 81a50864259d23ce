use Rattle.std.proofs.Common.{◌≡◌, ◌-◌, drop}
use Rattle.avro_nodes.specs.Nodes.{nodes_view}
use Rattle.avro_schema.specs.Inside.Mentions.{places_mentions}
use Rattle.avro_schema.proofs.mentions.after_places.Given as goal

abbrev pub invariant-loop-place : goal.invariant-loop-place
invariant-loop-place l = l.rest - places_mentions (nodes_view l.nodes) (drop l.place-index l.place-items) ≡ l.budget - places_mentions (nodes_view l.nodes) l.place-items
