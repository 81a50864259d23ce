use Rattle.std.proofs.Common.{◌≡◌, ◌-◌, ◌<◌, ◌≤◌, ℕ, ap, get_or, length, refl, subst, sym, ◌∙◌, inl, inr, arith}
use Rattle.std.specs.Prelude.{Contains}
use Rattle.std.proofs.lemmas.Bool.{cases_lt}
use Rattle.std.proofs.lemmas.List.Elements.{Contains-get_or}
use Rattle.avro_resolve.specs.declared.links.Link.{Link}
use Rattle.avro_resolve.specs.declared.links.Links.{Links}
use Rattle.avro_resolve.specs.Inside.Referrers.{HasLabel, LinkedBy, OnlyAddsLinks}
use Rattle.avro_resolve.proofs.LinkLemmas.{linked_on, only_adds_none, only_adds_then}
use Rattle.avro_resolve.proofs.ListLemmas.{get_or_any}
use Rattle.avro_resolve.proofs.links.add_links.Goals as goal

pub loop-index-init : goal.loop-index-init
loop-index-init c = record { only_adds = only_adds_none _ c.args.links.now; there = λ k d l. absurd (omega arith) }

pub loop-index-preserved : goal.loop-index-preserved
loop-index-preserved c =
    let inv = c.loop-index.invariant in let ns = c.args.labels.now in let at = c.loop-index.index in let i = c.args.at in let p = c.args.to in let kind = c.args.kind in
    let link : Link = record { label = get_or ns at 0; referrer = i; kind = kind } in let more = c.in_ok-add_at.ensures.adds in
    let xs = c.loop-index.links in let ys : Links = record { unions = xs.unions; lists = c.add_at.new.lists; aliased = xs.aliased } in
    let one : OnlyAddsLinks (λ x q. (x ≡ link) × (q ≡ p)) xs ys = record { adds = more; kept = λ number field e. e; unions = refl } in
    let within : at < length ns = c.loop-index-test.true in
    record {
      only_adds = only_adds_then _ _ _ (λ x q h. h)
          (λ x q h. (subst (λ (n : ℕ). Contains ns n) (sym (ap (λ (y : Link). y.label) h.0)) (Contains-get_or ns at 0 within), ap (λ (y : Link). y.kind) h.0, ap (λ (y : Link). y.referrer) h.0, h.1)) c.args.links.now xs ys inv.only_adds one;
      there = λ k d l. elim (cases_lt k at) [
        | inl g ↦ linked_on xs ys more.kept (λ number field e. e) (HasLabel (get_or ns k d) kind) i p (inv.there k d g)
        | inr g ↦ (let e : at ≡ k = omega arith in
            subst (λ (m : ℕ). LinkedBy (HasLabel (get_or ns m d) kind) ys.lists.items i p) e (subst (λ (n : ℕ). LinkedBy (HasLabel n kind) ys.lists.items i p) (get_or_any ns at 0 d within) (link, (refl, refl), refl, c.in_ok-add_at.ensures.there)))
      ];
    }

pub loop-index-preserved-then-labels-index : goal.loop-index-preserved-then-labels-index
loop-index-preserved-then-labels-index c =
    let inv = c.loop-index.invariant in let ns = c.args.labels.now in let at = c.loop-index.index in let xs = c.loop-index.links in let i = c.args.at in let p = c.args.to in let kind = c.args.kind in
    record {
      only_adds = inv.only_adds;
      there = λ k d l. elim (cases_lt k at) [
        | inl g ↦ inv.there k d g
        | inr g ↦ (let e : at ≡ k = omega arith in
            let before : LinkedBy (HasLabel (get_or ns (at - 1) 0) kind) xs.lists.items i p = inv.there (at - 1) 0 (let more = c.if-index-gt0.true in omega arith) in
            subst (λ (m : ℕ). LinkedBy (HasLabel (get_or ns m d) kind) xs.lists.items i p) e (subst (λ (n : ℕ). LinkedBy (HasLabel n kind) xs.lists.items i p) (sym c.if-labels-index.true ∙ get_or_any ns at 0 d c.loop-index-test.true) before))
      ];
    }

pub returns-clause-there : goal.returns-clause-there
returns-clause-there c =
    let ns = c.args.labels.now in let past : length ns ≤ c.loop-index.index = c.loop-index-test.false in
    λ k d l. c.loop-index.invariant.there k d (omega arith)
