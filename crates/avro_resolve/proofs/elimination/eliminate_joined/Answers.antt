use Rattle.std.proofs.Common.{rules, ◌≡◌, ◌+◌, ◌<◌, ◌≤◌, ℕ, List, false, refl, get_or, length, sym, ap, subst, ◌∙◌, inl, inr, arith, true≢false}
use Rattle.std.proofs.lemmas.List.{length-map}
use Rattle.std.proofs.lemmas.List.Elements.{Contains-get_or}
use Rattle.avro_nodes.specs.Nodes.{node_view}
use Rattle.std.proofs.lemmas.Bool.{cases_lt}
use Rattle.std.proofs.lemmas.Bool.Decides.{nat_tests}
use Rattle.std.specs.Prelude.{Vec}
use Rattle.std.specs.declared.alloc.Global.{Global}
use Rattle.avro_resolve.specs.Inside.Schemas.{columns, rows}
use Rattle.avro_resolve.specs.declared.links.Link.{Link}
use Rattle.avro_resolve.specs.declared.links.LinkKind.{LinkKind}
use Rattle.avro_resolve.specs.declared.links.LinkKind.TheVariants.{ByElement, ByName, ByAlias}
use Rattle.avro_resolve.specs.Inside.Referrers.{CanMatchKinds, LinkKindsMatch}
use Rattle.avro_resolve.specs.Inside.Remaining.{remains, StillSupported}
use Rattle.avro_resolve.specs.Inside.Sources.{entry_at}
use Rattle.avro_resolve.proofs.ListLemmas.{get_or_any}
use Rattle.avro_resolve.proofs.KeptSupport.{lists_none, lists_then, settled_gone, settled_on, stays_out}
use Rattle.avro_resolve.proofs.elimination.eliminate_joined.Goals.{then-loop-at-test+else-reader_links-at, else-loop-at-test, in-ByName-ByAlias, in_default, in_default-2, in_default-3, in-ByElement-ByElement, in-ByElement-ByElement-2}
use Rattle.avro_resolve.proofs.elimination.eliminate_joined.Goals as goal

abbrev none : Link
none = record { label = 0; referrer = 0; kind = ByElement }

pub returns-clause-still_supported : goal.returns-clause-still_supported
returns-clause-still_supported c = λ x y hx hy one asks.
    let w = rows c.args.schemas.now in let r = columns c.args.schemas.now in let xs = c.args.writer_links.now in let ys = c.args.reader_links.now in
    let t = c.loop-link.progress.table in let ps = c.loop-link.progress.eliminated.items in
    let past : length xs ≤ c.loop-link.link-index = c.loop-link-test.false in
    let lx = hx.1 in let below : hx.0 < c.loop-link.link-index = omega (arith, past, lx) in
    let same : (get_or xs hx.0 x).label ≡ (get_or ys hy.0 y).label = ap (λ (z : Link). z.label) hx.2 ∙ one ∙ sym (ap (λ (z : Link). z.label) hy.2) in
    subst (λ (z : Link). StillSupported w r t ps z.referrer y.referrer) hx.2 (subst (λ (z : Link). StillSupported w r t ps (get_or xs hx.0 x).referrer z.referrer) hy.2 (c.loop-link.invariant.still_supported hx.0 hy.0 x y below hy.1 same
    (subst (λ (z : Link). LinkKindsMatch c.args.sources.now c.args.popped.0 z (get_or ys hy.0 y)) (sym hx.2) (subst (λ (z : Link). LinkKindsMatch c.args.sources.now c.args.popped.0 x z) (sym hy.2) asks))))

pub first_at_label-from-requires-clause-passed : goal.first_at_label-from-requires-clause-passed
first_at_label-from-requires-clause-passed c = λ k d l. c.loop-link.invariant.skipped k c.loop-link.link-index d none l (omega arith) c.loop-link-test.true

pub loop-at-init : goal.loop-at-init
loop-at-init c = record {
  on = omega arith;
  within = c.first_at_label-from.ensures.within;
  rest = c.loop-link.invariant.rest;
  lists = lists_none c.loop-link.progress.table c.loop-link.progress.eliminated.items;
  still_supported = λ k d le l. absurd (omega arith);
}

-- whether two links match, by their kinds
by_ways : (sources : List (Vec ℕ Global)) (p : ℕ) (x y : Link) (v w : LinkKind) → x.kind ≡ v → y.kind ≡ w → (CanMatchKinds sources p x.referrer v w → LinkKindsMatch sources p x y) × (LinkKindsMatch sources p x y → CanMatchKinds sources p x.referrer v w)
by_ways s p x y v w e f = (
  (λ h. subst (λ (z : LinkKind). CanMatchKinds s p x.referrer z y.kind) (sym e) (subst (λ (z : LinkKind). CanMatchKinds s p x.referrer v z) (sym f) h)),
  (λ h. subst (λ (z : LinkKind). CanMatchKinds s p x.referrer v z) f (subst (λ (z : LinkKind). CanMatchKinds s p x.referrer z y.kind) e h)),
)

no_contents : (sources : List (Vec ℕ Global)) (p referrer : ℕ) (w : LinkKind) → (w ≡ ByElement → ⊥) → CanMatchKinds sources p referrer ByElement w → ⊥
no_contents s p referrer ByElement n h = n refl
no_contents s p referrer ByName n h = h
no_contents s p referrer (ByAlias number) n h = h

no_alias : (sources : List (Vec ℕ Global)) (p referrer number : ℕ) (w : LinkKind) → CanMatchKinds sources p referrer (ByAlias number) w → ⊥
no_alias s p referrer number ByElement h = h
no_alias s p referrer number ByName h = h
no_alias s p referrer number (ByAlias other) h = h

pub eliminate_pair-requires-clause-unsupported : goal.eliminate_pair-requires-clause-unsupported
eliminate_pair-requires-clause-unsupported c =
    let xs = c.args.writer_links.now in let ys = c.args.reader_links.now in let m = c.loop-link.link-index in let at = c.loop-at.at in let t = c.loop-at.progress.table in
    let on = c.loop-at.invariant.on in let link = get_or xs m none in let other = get_or ys at none in let s = c.args.sources.now in let p = c.args.popped.0 in
    let label : link.label ≡ other.label =
    (let within = c.loop-at-test.true in let first = c.first_at_label-from.result in
    let one_if = c.requires.reader_links_sorted first at none on within in let least = c.first_at_label-from.ensures.at none (omega arith) in let most = c.if-reader_links-at.true in omega arith) in
    let asks : LinkKindsMatch c.args.sources.now c.args.popped.0 link other = elim c.match-link.branch [
      | in-ByName-ByAlias w ↦ (
          let popped : w.from.result ≡ entry_at s link.referrer w.in-ByName-ByAlias.number = search rules in
          let same : w.from.result ≡ p + 1 = grind (arith, nat_tests) in
          (by_ways s p link other ByName (ByAlias w.in-ByName-ByAlias.number) w.in-ByName-ByAlias.is-0 w.in-ByName-ByAlias.is-1).0 (sym popped ∙ same)
          )
      | in_default w ↦ absurd (true≢false (sym c.if-not-asks.false ∙ w.asks-is))
      | in_default-2 w ↦ absurd (true≢false (sym c.if-not-asks.false ∙ w.asks-is))
      | in_default-3 w ↦ absurd (true≢false (sym c.if-not-asks.false ∙ w.asks-is))
      | in-ByElement-ByElement w ↦ (by_ways s p link other ByElement ByElement w.in-ByElement-ByElement.is-0 w.in-ByElement-ByElement.is-1).0 tt
      | in-ByElement-ByElement-2 w ↦ (by_ways s p link other ByName ByName w.in-ByElement-ByElement.is-0 w.in-ByElement-ByElement.is-1).0 tt
    ] in
    c.requires.rests (get_or xs m none) (get_or ys at none) (Contains-get_or xs m none c.loop-link-test.true) (Contains-get_or ys at none c.loop-at-test.true) label asks (remains t)
    (stays_out c.args.progress.now.table t c.args.progress.now.eliminated.items c.loop-at.progress.eliminated.items c.args.popped.0 c.args.popped.1
    (lists_then c.args.progress.now.table c.loop-link.progress.table t c.args.progress.now.eliminated.items c.loop-link.progress.eliminated.items c.loop-at.progress.eliminated.items c.loop-link.invariant.lists c.loop-at.invariant.lists) c.requires.popped.1)

pub has-requires-clause-i_in : goal.has-requires-clause-i_in
has-requires-clause-i_in c =
    let l = c.requires.writer_links_in c.loop-link.link-index none c.loop-link-test.true in let n = c.loop-at.invariant.rest.rest.writers in let view = length-map c.args.schemas.now.writer.schema.now node_view in omega (arith, l, n, view)

pub has-requires-clause-j_in : goal.has-requires-clause-j_in
has-requires-clause-j_in c =
    let l = c.requires.reader_links_in c.loop-at.at none c.loop-at-test.true in let n = c.loop-at.invariant.rest.rest.readers in let view = length-map c.args.schemas.now.reader.schema.now node_view in omega (arith, l, n, view)

pub loop-at-preserved-then-not-has : goal.loop-at-preserved-then-not-has
loop-at-preserved-then-not-has c =
    let w = rows c.args.schemas.now in let r = columns c.args.schemas.now in let link = get_or c.args.writer_links.now c.loop-link.link-index none in let ys = c.args.reader_links.now in let at = c.loop-at.at in let inv = c.loop-at.invariant in
    let u = c.loop-at.progress.table in let qs = c.loop-at.progress.eliminated.items in let within : at < length ys = c.loop-at-test.true in
    let out : remains u link.referrer (get_or ys at none).referrer ≡ false = sym c.has.ensures ∙ c.if-not-has.true in
    record {
      on = omega arith;
      within = omega arith;
      rest = inv.rest;
      lists = inv.lists;
      still_supported = λ k d le l one asks. elim (cases_lt k at) [
        | inl g ↦ inv.still_supported k d le g one asks
        | inr g ↦ (let e : at ≡ k = omega arith in
            let row : get_or ys at none ≡ get_or ys k d = get_or_any ys at none d within ∙ ap (λ (n : ℕ). get_or ys n d) e in
            settled_gone w r u qs link.referrer (get_or ys k d).referrer (sym (ap (λ (y : Link). remains u link.referrer y.referrer) row) ∙ out))
      ];
    }

pub loop-at-preserved-then-not-asks : goal.loop-at-preserved-then-not-asks
loop-at-preserved-then-not-asks c =
    let link = get_or c.args.writer_links.now c.loop-link.link-index none in let ys = c.args.reader_links.now in let at = c.loop-at.at in let inv = c.loop-at.invariant in
    let within : at < length ys = c.loop-at-test.true in
    let other = get_or ys at none in let s = c.args.sources.now in let p = c.args.popped.0 in
    let never : LinkKindsMatch c.args.sources.now c.args.popped.0 link (get_or ys at none) → ⊥ = elim c.match-link.branch [
      | in-ByName-ByAlias w ↦ λ h. (
          let popped : w.from.result ≡ entry_at s link.referrer w.in-ByName-ByAlias.number = search rules in
          let entry : entry_at s link.referrer w.in-ByName-ByAlias.number ≡ p + 1 = (by_ways s p link other ByName (ByAlias w.in-ByName-ByAlias.number) w.in-ByName-ByAlias.is-0 w.in-ByName-ByAlias.is-1).1 h in
          let same : w.from.result ≡ p + 1 = popped ∙ entry in
          grind (arith, nat_tests)
          )
      | in_default w ↦ λ h. no_contents s p link.referrer other.kind w.in_default.not-ByElement-1 (subst (λ (v : LinkKind). CanMatchKinds s p link.referrer v other.kind) w.in_default.is-0 h)
      | in_default-2 w ↦ λ h. (by_ways s p link other ByName ByElement w.in_default.is-0 w.in_default.is-1).1 h
      | in_default-3 w ↦ λ h. no_alias s p link.referrer w.in_default.field-0-0 other.kind (subst (λ (v : LinkKind). CanMatchKinds s p link.referrer v other.kind) w.in_default.is-0 h)
      | in-ByElement-ByElement w ↦ absurd (true≢false (sym w.asks-is ∙ c.if-not-asks.true))
      | in-ByElement-ByElement-2 w ↦ absurd (true≢false (sym w.asks-is ∙ c.if-not-asks.true))
    ] in
    record {
      on = omega arith;
      within = omega arith;
      rest = inv.rest;
      lists = inv.lists;
      still_supported = λ k d le l one asks. elim (cases_lt k at) [
        | inl g ↦ inv.still_supported k d le g one asks
        | inr g ↦ (let e : at ≡ k = omega arith in
            let row : get_or ys at none ≡ get_or ys k d = get_or_any ys at none d within ∙ ap (λ (n : ℕ). get_or ys n d) e in
            absurd (never (subst (λ (y : Link). LinkKindsMatch c.args.sources.now c.args.popped.0 link y) (sym row) asks)))
      ];
    }

pub loop-at-preserved : goal.loop-at-preserved
loop-at-preserved c =
    let w = rows c.args.schemas.now in let r = columns c.args.schemas.now in let i = (get_or c.args.writer_links.now c.loop-link.link-index none).referrer in let ys = c.args.reader_links.now in let at = c.loop-at.at in
    let t = c.loop-link.progress.table in let u = c.loop-at.progress.table in let v = c.eliminate_pair.new.progress.table in
    let ps = c.loop-link.progress.eliminated.items in let qs = c.loop-at.progress.eliminated.items in let rs = c.eliminate_pair.new.progress.eliminated.items in
    let within : at < length ys = c.loop-at-test.true in
    record {
      on = omega arith;
      within = omega arith;
      rest = c.in_ok-eliminate_pair.ensures.eliminates.0;
      lists = lists_then t u v ps qs rs c.loop-at.invariant.lists c.in_ok-eliminate_pair.ensures.eliminates.1;
      still_supported = λ k d le l one asks. elim (cases_lt k at) [
        | inl g ↦ settled_on w r u v qs rs i (get_or ys k d).referrer c.requires.popped.0.0.writer.whole c.requires.popped.0.0.reader.whole c.in_ok-eliminate_pair.ensures.eliminates.1 (c.loop-at.invariant.still_supported k d le g one asks)
        | inr g ↦ (let e : at ≡ k = omega arith in
            subst (λ (x : ℕ). StillSupported w r v rs i (get_or ys x d).referrer) e (subst (λ (y : Link). StillSupported w r v rs i y.referrer) (get_or_any ys at none d within) c.in_ok-eliminate_pair.ensures.still_supported))
      ];
    }

pub loop-link-preserved : goal.loop-link-preserved
loop-link-preserved c =
    let w = rows c.args.schemas.now in let r = columns c.args.schemas.now in let xs = c.args.writer_links.now in let ys = c.args.reader_links.now in
    let at = c.loop-link.link-index in let inv = c.loop-link.invariant in let inner = c.loop-at.invariant in
    let u = c.loop-link.progress.table in let v = c.loop-at.progress.table in let qs = c.loop-link.progress.eliminated.items in let rs = c.loop-at.progress.eliminated.items in
    let within : at < length xs = c.loop-link-test.true in
    let row : (e : Link) → get_or xs at none ≡ get_or xs at e = λ e. get_or_any xs at none e within in
    let past : (k : ℕ) (d : Link) → c.loop-at.at ≤ k → k < length ys → (get_or xs at none).label < (get_or ys k d).label = λ k d le l. elim c.loop-at-test.branch [
      | then-loop-at-test+else-reader_links-at b ↦ (
          let more = b.if-reader_links-at.false in let one_if = c.requires.reader_links_sorted c.loop-at.at k d le l in
          let same : (get_or ys c.loop-at.at none).label ≡ (get_or ys c.loop-at.at d).label = ap (λ (y : Link). y.label) (get_or_any ys c.loop-at.at none d b.loop-at-test.true) in
          omega (arith, more, one_if, same)
          )
      | else-loop-at-test b ↦ (let done = b.loop-at-test.false in absurd (omega (arith, done, le, l)))
    ] in
    record {
      rest = inner.rest;
      lists = lists_then c.args.progress.now.table u v c.args.progress.now.eliminated.items qs rs inv.lists inner.lists;
      within = c.first_at_label-from.ensures.within;
      skipped = λ k m d e lk le lm. (
          let less = c.first_at_label-from.ensures.below k d lk in let one_if = c.requires.writer_links_sorted at m e (omega arith) lm in
          let same : (get_or xs at none).label ≡ (get_or xs at e).label = ap (λ (x : Link). x.label) (row e) in
          omega (arith, less, one_if, same)
          );
      still_supported = λ m k e d lm lk one asks. elim (cases_lt m at) [
        | inl g ↦ settled_on w r u v qs rs (get_or xs m e).referrer (get_or ys k d).referrer c.requires.popped.0.0.writer.whole c.requires.popped.0.0.reader.whole inner.lists (inv.still_supported m k e d g lk one asks)
        | inr g ↦ (
            let now : at ≡ m = omega arith in
            let same : get_or xs at none ≡ get_or xs m e = row e ∙ ap (λ (n : ℕ). get_or xs n e) now in
            let label : (get_or xs at none).label ≡ (get_or ys k d).label = ap (λ (x : Link). x.label) same ∙ one in
            elim (cases_lt k c.first_at_label-from.result) [
              | inl h ↦ (let less = c.first_at_label-from.ensures.below k d h in absurd (omega (arith, less, label)))
              | inr h ↦ elim (cases_lt k c.loop-at.at) [
                | inl j ↦ subst (λ (x : Link). StillSupported w r v rs x.referrer (get_or ys k d).referrer) same (inner.still_supported k d h j label (subst (λ (x : Link). LinkKindsMatch c.args.sources.now c.args.popped.0 x (get_or ys k d)) (sym same) asks))
                | inr j ↦ (let more = past k d j lk in absurd (omega (arith, more, label)))
              ]
            ]
            )
      ];
    }
