use Rattle.std.proofs.Common.{◌≡◌, ℕ, ◌<◌, get_or}
use Rattle.std.specs.Prelude.{Contains}
use Rattle.avro_resolve.specs.Inside.Referrers.{HasLabel, LinkedBy, OnlyAddsLinks}
use Rattle.avro_resolve.proofs.links.add_links.Given as goal

abbrev pub invariant-loop-index : goal.invariant-loop-index
invariant-loop-index l = record {
  only_adds : OnlyAddsLinks (λ x p. Contains l.labels x.label × (x.kind ≡ l.kind) × (x.referrer ≡ l.at) × (p ≡ l.to)) l.initial.links l.links;
  there : (k d : ℕ) → k < l.index → LinkedBy (HasLabel (get_or l.labels k d) l.kind) l.links.lists.items l.at l.to;
}
