use Rattle.std.proofs.Common.{◌≡◌, ℕ, ◌<◌, Some, map}
use Rattle.std.specs.Prelude.{slice_get}
use Rattle.avro_nodes.specs.Nodes.{FieldView, field_view}
use Rattle.avro_schema.specs.declared.index.FieldRanks.{FieldRanks}
use Rattle.avro_resolve.specs.Inside.Referrers.{IsFieldLinked, IsLinkOfFields, OnlyAddsLinks, ranks_of}
use Rattle.avro_resolve.proofs.links.add_node_links.Given as goal

abbrev pub invariant-loop-index : goal.invariant-loop-index
invariant-loop-index l = record {
  only_adds : OnlyAddsLinks (λ x p. (x.referrer ≡ l.referrer) × IsLinkOfFields (ranks_of l.rank_map) l.links.aliased.items (map field_view l.fields.fields.now) l.fields.ranks.now x p) l.initial.links l.links;
  there : (k : ℕ) (f : FieldView) (x : FieldRanks) → k < l.index → slice_get (map field_view l.fields.fields.now) k ≡ Some f → slice_get l.fields.ranks.now k ≡ Some x → IsFieldLinked (ranks_of l.rank_map) l.links l.referrer k f.place x;
}
