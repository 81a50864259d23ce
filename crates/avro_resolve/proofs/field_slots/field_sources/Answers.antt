use Rattle.std.proofs.Common.{rules, ◌≡◌, ℕ, ◌<◌, ◌≤◌, List, length, map, sym, ap, ◌∙◌, take_all, arith}
use Rattle.std.specs.Prelude.{Some, slice_get}
use Rattle.std.proofs.lemmas.Option.{slice_get-get_or}
use Rattle.std.proofs.lemmas.Slice.Zip.{AllZip-long}
use Rattle.avro_nodes.specs.Nodes.{FieldView, field_view}
use Rattle.avro_schema.specs.declared.index.FieldRanks.{FieldRanks}
use Rattle.avro_schema.specs.Index.{AreFieldsRanked, IsFieldRanked}
use Rattle.avro_resolve.specs.Asking.{source_place}
use Rattle.avro_resolve.specs.Inside.Schemas.{names_of}
use Rattle.avro_resolve.proofs.Sourcing.{mapped_more, nth, ranked_field}
use Rattle.avro_resolve.proofs.SupportLemmas.{source_fits}
use Rattle.avro_resolve.proofs.field_slots.field_sources.Goals as goal

-- the field with these ranks of names
named_at : (r : List (List ℕ)) (fields : List FieldView) (ranks : List FieldRanks) (i : ℕ) (x : FieldRanks) → AreFieldsRanked r fields ranks → i < length ranks → slice_get ranks i ≡ Some x
    → (f : FieldView) × (slice_get fields i ≡ Some f) × IsFieldRanked r f x
named_at r fields ranks i x ranked l here =
    let long = AllZip-long (IsFieldRanked r) fields ranks ranked in
    let n = nth fields i (omega arith) in
    (n.0, n.1, ranked_field r fields ranks i n.0 x ranked n.1 here)

pub find_source-place-requires-clause-named : goal.find_source-place-requires-clause-named
find_source-place-requires-clause-named c =
    let r = names_of c.args.schemas.now.reader in let ranks = c.args.wanted.ranks.now in let i = c.loop-names.names-index in let x = c.names-item.result in
    let here : slice_get ranks i ≡ Some x = slice_get-get_or ranks i x c.loop-names-test.true ∙ ap (λ v. Some v) (sym c.names-item.is) in
    let f = named_at r (map field_view c.args.wanted.fields.now) ranks i x c.requires.named c.loop-names-test.true here in
    (f.0, f.2)

pub map-requires : goal.map-requires
map-requires c =
    let r = names_of c.args.schemas.now.reader in let ranks = c.args.wanted.ranks.now in let i = c.loop-names.names-index in let x = c.names-item.result in
    let here : slice_get ranks i ≡ Some x = slice_get-get_or ranks i x c.loop-names-test.true ∙ ap (λ v. Some v) (sym c.names-item.is) in
    let f = named_at r (map field_view c.args.wanted.fields.now) ranks i x c.requires.named c.loop-names-test.true here in
    let below : (place : ℕ) → c.find_source-place.result ≡ Some place → place < 65535 = source_fits c.args.fields.fields.now c.requires.fields_in f.0 c.find_source-place.result (c.find_source-place.ensures f.0 f.2) in
    search rules

pub loop-names-preserved : goal.loop-names-preserved
loop-names-preserved c =
    let r = names_of c.args.schemas.now.reader in let ranks = c.args.wanted.ranks.now in let i = c.loop-names.names-index in let x = c.names-item.result in
    let here : slice_get ranks i ≡ Some x = slice_get-get_or ranks i x c.loop-names-test.true ∙ ap (λ v. Some v) (sym c.names-item.is) in
    let f = named_at r (map field_view c.args.wanted.fields.now) ranks i x c.requires.named c.loop-names-test.true here in
    let same : c.map.result ≡ c.find_source-place.result = search rules in
    c.in_ok-push.ensures.items
    ∙ mapped_more (source_place (map field_view c.args.fields.fields.now)) (map field_view c.args.wanted.fields.now) i f.0 c.loop-names.places.items c.map.result f.1 c.loop-names.invariant (same ∙ c.find_source-place.ensures f.0 f.2)

pub returns : goal.returns
returns c =
    let r = names_of c.args.schemas.now.reader in let views = map field_view c.args.wanted.fields.now in
    let long = AllZip-long (IsFieldRanked r) views c.args.wanted.ranks.now c.requires.named in
    let l : length views ≤ c.loop-names.names-index = omega arith in
    c.loop-names.invariant ∙ ap (map (source_place (map field_view c.args.fields.fields.now))) (take_all c.loop-names.names-index views l)
