use Rattle.std.proofs.Common.{◌≡◌, ℕ, ◌<◌, ◌≤◌, [], get_or}
use Rattle.std.specs.declared.cmp.Ordering.TheVariants.{Less}
use Rattle.avro_nodes.specs.Nodes.{texts_view}
use Rattle.avro_schema.proofs.Rising.{order}
use Rattle.avro_resolve.proofs.schemas.first_from.Given as goal

abbrev pub invariant-loop-at : goal.invariant-loop-at
invariant-loop-at l = (k : ℕ) → l.from ≤ k → k < l.at → order (get_or (texts_view l.names) k []) l.name ≡ Less
