use Rattle.std.proofs.Common.{◌≡◌, ℕ, ◌<◌, List, Some}
use Rattle.std.specs.Prelude.{All, Contains, slice_get}
use Rattle.avro_nodes.specs.Nodes.{nodes_view, union}
use Rattle.avro_resolve.proofs.lists.unions_in.Given as goal

abbrev pub invariant-loop-i : goal.invariant-loop-i
invariant-loop-i l = record {
  within : All (λ (i : ℕ). i < l.i) l.unions.items;
  all : (i : ℕ) (branches : List ℕ) → i < l.i → slice_get (nodes_view l.schema) i ≡ Some (union branches) → Contains l.unions.items i;
}
