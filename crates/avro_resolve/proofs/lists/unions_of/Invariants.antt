use Rattle.std.proofs.Common.{◌≡◌, ℕ, ◌<◌, Some, get_or, length}
use Rattle.std.specs.Prelude.{Contains, slice_get}
use Rattle.avro_nodes.specs.Nodes.{NodeView, nodes_view}
use Rattle.avro_resolve.specs.Inside.Referrers.{HasBranch, IsUnionListed}
use Rattle.avro_resolve.specs.Inside.Lists.{OnlyAdds, IsListedAt}
use Rattle.avro_resolve.proofs.lists.unions_of.Given as goal

abbrev pub invariant-loop-i : goal.invariant-loop-i
invariant-loop-i l = record {
  long : length l.lists.items ≡ length l.schema;
  within : (i place : ℕ) → IsListedAt l.lists.items i place → i < length l.schema;
  named : (i : ℕ) (a : NodeView) → i < l.i → slice_get (nodes_view l.schema) i ≡ Some a → IsUnionListed l.lists.items i a;
  meant : (i place : ℕ) → IsListedAt l.lists.items i place → (a : NodeView) → slice_get (nodes_view l.schema) i ≡ Some a → HasBranch a place;
}

abbrev pub invariant-loop-branch : goal.invariant-loop-branch
invariant-loop-branch l = record {
  adds : OnlyAdds (λ i p. (i ≡ l.i) × Contains l.branch-items p) l.initial.lists.items l.lists.items;
  there : (k d : ℕ) → k < l.branch-index → IsListedAt l.lists.items l.i (get_or l.branch-items k d);
}
