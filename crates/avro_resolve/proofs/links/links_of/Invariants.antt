use Rattle.std.proofs.Common.{◌≡◌, ℕ, ◌<◌, Some, length}
use Rattle.std.specs.Prelude.{slice_get}
use Rattle.std.specs.List.Sorted.{IsNonDecreasingBy}
use Rattle.avro_nodes.specs.Nodes.{NodeView}
use Rattle.avro_resolve.specs.declared.links.Link.{Link}
use Rattle.avro_resolve.specs.Inside.Referrers.{HasUnions, IsLinkOfNode, IsPlaceLinked, ranks_of}
use Rattle.avro_resolve.specs.Inside.Lists.{list_at, IsListedAt}
use Rattle.avro_resolve.specs.Inside.Schemas.{names_of, nodes_of}
use Rattle.avro_resolve.proofs.LinkLemmas.{SameLists}
use Rattle.avro_resolve.proofs.links.links_of.Given as goal

abbrev pub invariant-loop-i : goal.invariant-loop-i
invariant-loop-i l = record {
  unions : HasUnions (nodes_of l.indexed) l.links.unions.items;
  long : length l.links.lists.items ≡ length l.indexed.schema.now;
  within : (x : Link) (place : ℕ) → IsListedAt l.links.lists.items x place → x.referrer < length l.indexed.schema.now;
  named : (i : ℕ) (a : NodeView) → i < l.i → slice_get (nodes_of l.indexed) i ≡ Some a → IsPlaceLinked (names_of l.indexed) (ranks_of l.rank_map) l.links i a;
  meant : (x : Link) (place : ℕ) → IsListedAt l.links.lists.items x place → (a : NodeView) → slice_get (nodes_of l.indexed) x.referrer ≡ Some a → IsLinkOfNode (names_of l.indexed) (ranks_of l.rank_map) l.links.aliased.items a x place;
}

abbrev pub invariant-loop-place : goal.invariant-loop-place
invariant-loop-place l = record {
  long : length l.links.lists.items ≡ l.place-end;
  same : SameLists l.initial.links.lists.items l.links.lists.items;
  aliased : l.links.aliased.items ≡ l.initial.links.aliased.items;
  unions : l.links.unions ≡ l.initial.links.unions;
  sorted : (p : ℕ) → p < l.place → IsNonDecreasingBy (λ (x : Link). x.label) (list_at l.links.lists.items p);
}
