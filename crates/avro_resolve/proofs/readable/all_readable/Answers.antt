use Rattle.std.proofs.Common.{rules, ◌≡◌, ◌<◌, ℕ, get_or, length, refl, sym, subst, ◌∙◌, inl, inr, true≢false, Some, false, true, arith, ap, None, List, Bool}
use Rattle.std.specs.Prelude.{◌↔◌, IsSome, MatchOption, IsTrue, Option, map, slice_get}
use Rattle.std.proofs.lemmas.Bool.{cases_lt}
use Rattle.std.proofs.lemmas.List.{length-map}
use Rattle.std.proofs.lemmas.List.Elements.{All-map}
use Rattle.std.proofs.lemmas.Option.{slice_get-get_or}
use Rattle.avro_nodes.specs.declared.node.Field.{Field}
use Rattle.avro_nodes.specs.Nodes.{FieldView, NodeView, field_view, node_view}
use Rattle.avro_schema.specs.declared.index.FieldRanks.{FieldRanks}
use Rattle.avro_schema.specs.Index.{AreFieldsRanked, IsFieldRanked}
use Rattle.avro_resolve.specs.Asking.{source_place}
use Rattle.avro_resolve.specs.Resolution.{Pairs, Readable, source}
use Rattle.avro_resolve.specs.Inside.Agreeing.{fields_of}
use Rattle.avro_resolve.specs.Inside.Remaining.{remains}
use Rattle.avro_resolve.specs.Inside.Rows.{row_fields, IsFieldSource, IsWriterPlace}
use Rattle.avro_resolve.specs.Inside.Schemas.{columns, names_of}
use Rattle.avro_resolve.specs.Inside.Sources.{field_at}
use Rattle.avro_resolve.specs.declared.readable.ReaderField.{ReaderField}
use Rattle.avro_resolve.specs.declared.readable.WriterPlace.{WriterPlace}
use Rattle.avro_resolve.specs.declared.schemas.Fields.{Fields}
use Rattle.avro_resolve.specs.declared.schemas.SchemaPair.{SchemaPair}
use Rattle.avro_resolve.proofs.ListLemmas.{get_or_any}
use Rattle.avro_resolve.proofs.Sourcing.{field_named, nth}
use Rattle.avro_resolve.proofs.SupportLemmas.{place_within, read_default, read_from, readable_as}
use Rattle.avro_resolve.proofs.readable.all_readable.Goals as goal
use Rattle.avro_resolve.proofs.readable.all_readable.Goals.{in-None, in-Some}

by_source : (t : Pairs) (fields : List FieldView) (reader_field : ReaderField) (f : FieldView) (place : ℕ) (b : Bool) → source_place fields f ≡ Some place → reader_field.place ≡ f.place → b ≡ t place reader_field.place → IsTrue b ↔ Readable t fields f
by_source t fields reader_field f place b e is here =
    let known = read_from t fields f place e in let same = here ∙ ap (t place) is in
    ((λ h. known.0 (sym same ∙ h)), (λ h. same ∙ known.1 h))

by_default : (t : Pairs) (fields : List FieldView) (reader_field : ReaderField) (f : FieldView) (b : Bool) → source_place fields f ≡ None → IsTrue reader_field.has_default ↔ IsSome f.value → b ≡ reader_field.has_default → IsTrue b ↔ Readable t fields f
by_default t fields reader_field f b e is here = let known = read_default t fields f e in ((λ h. known.0 (is.0 (sym here ∙ h))), (λ h. here ∙ is.1 (known.1 h)))

by_either : (t : Pairs) (fields : List FieldView) (reader_field : ReaderField) (f : FieldView) (o : Option ℕ) (b : Bool) → o ≡ source_place fields f → reader_field.place ≡ f.place → IsTrue reader_field.has_default ↔ IsSome f.value
    → MatchOption o (b ≡ reader_field.has_default) (λ p. b ≡ t p reader_field.place) → IsTrue b ↔ Readable t fields f
by_either t fields reader_field f None b e is default h = by_default t fields reader_field f b (sym e) default h
by_either t fields reader_field f (Some p) b e is default h = by_source t fields reader_field f p b (sym e) is h

source_within : (schemas : SchemaPair) (row : WriterPlace) → IsWriterPlace schemas row → (f : FieldView) (p : ℕ) → source_place (row_fields row) f ≡ Some p → p < length schemas.writer.schema.now
source_within schemas row is f p e =
    let m = length schemas.writer.schema.now in
    place_within m (row_fields row) f (source (row_fields row) f) p (All-map (λ (g : FieldView). g.place < m) field_view row.fields.fields.now is.places) refl (sym e)

named_at : (schemas : SchemaPair) (j n : ℕ) (wanted : Fields) → j < length schemas.reader.schema.now → ((a : NodeView) → slice_get (columns schemas) j ≡ Some a → map field_view wanted.fields.now ≡ fields_of a) → AreFieldsRanked (names_of schemas.reader) (map field_view wanted.fields.now) wanted.ranks.now
    → length wanted.ranks.now ≡ length wanted.fields.now → n < length wanted.fields.now → (d : Field) (e : FieldRanks)
    → (field_at (columns schemas) (record { place = j; index = n }) ≡ Some (field_view (get_or wanted.fields.now n d))) × IsFieldRanked (names_of schemas.reader) (field_view (get_or wanted.fields.now n d)) (get_or wanted.ranks.now n e)
named_at schemas j n wanted l are ranked long within d e =
    let view = length-map schemas.reader.schema.now node_view in let beside : n < length wanted.ranks.now = omega arith in
    let b = nth (columns schemas) j (omega arith) in
    field_named schemas j n wanted b.0 b.1 (are b.0 b.1) ranked (get_or wanted.fields.now n d) (get_or wanted.ranks.now n e) (slice_get-get_or wanted.fields.now n d within) (slice_get-get_or wanted.ranks.now n e beside)

same_field : (fields : List Field) (n : ℕ) (d e : Field) → n < length fields → (schemas : SchemaPair) (row : WriterPlace) (source : Option ℕ) (reader_field : ReaderField) → IsFieldSource schemas row source reader_field (field_view (get_or fields n d)) → IsFieldSource schemas row source reader_field (field_view (get_or fields n e))
same_field fields n d e l schemas row source reader_field h = subst (λ (f : Field). IsFieldSource schemas row source reader_field (field_view f)) (get_or_any fields n d e l) h

pub find_source-source-requires-clause-named : goal.find_source-source-requires-clause-named
find_source-source-requires-clause-named c =
    let schemas = c.args.schemas.now in let wanted = c.fields-wanted.result in let f = get_or wanted.fields.now c.loop-index.index c.index-wanted-index.result in
    let here = named_at schemas c.args.j c.loop-index.index wanted (omega arith) c.fields-wanted.ensures.are c.fields-wanted.ensures.ranked c.fields-wanted.ensures.long c.loop-index-test.true c.index-wanted-index.result c.index-wanted-index-in-None.result in
    (field_view f, here.1)

pub map_or-requires : goal.map_or-requires
map_or-requires c =
    let schemas = c.args.schemas.now in let row = c.args.row.now in let wanted = c.fields-wanted.result in let n = c.loop-index.index in
    let here = named_at schemas c.args.j n wanted (omega arith) c.fields-wanted.ensures.are c.fields-wanted.ensures.ranked c.fields-wanted.ensures.long c.loop-index-test.true in
    let f = (nth wanted.fields.now n c.loop-index-test.true).0 in let x = (nth wanted.ranks.now n (omega arith)).0 in
    let is : IsFieldSource schemas row c.match-known_source.source.0 c.match-known_source.source.1 (field_view (get_or wanted.fields.now n f)) = elim c.match-known_source.branch [
      | in-Some w ↦ rw w.source-is (w.in-Some.ensures schemas (field_view (get_or wanted.fields.now n f)) c.requires.is (here f x).0)
      | in-None w ↦ rw w.source-is (same_field wanted.fields.now n w.index-wanted-index.result f c.loop-index-test.true schemas row w.find_source-source.result w.reader_field.result (
          let own = (here w.index-wanted-index.result w.index-wanted-index-in-None.result).1 in
          (w.find_source-source.ensures (field_view (get_or wanted.fields.now n w.index-wanted-index.result)) own, w.reader_field.ensures (names_of schemas.reader) own)))
    ] in
    let below : (p : ℕ) → c.match-known_source.source.0 ≡ Some p → p < c.args.table.now.writers = (λ p e. let l = source_within schemas row c.requires.is (field_view (get_or wanted.fields.now n f)) p (sym is.0 ∙ e) in omega arith) in
    let same = is.1.0 in let in_schema = c.fields-wanted.ensures.in_schema n f c.loop-index-test.true in
    let j_in : c.match-known_source.source.1.place < c.args.table.now.readers = omega arith in
    search (rules, below)

pub returns-then-not-map_or : goal.returns-then-not-map_or
returns-then-not-map_or c = λ b e.
    let schemas = c.args.schemas.now in let row = c.args.row.now in let wanted = c.fields-wanted.result in let n = c.loop-index.index in
    let here = named_at schemas c.args.j n wanted (omega arith) c.fields-wanted.ensures.are c.fields-wanted.ensures.ranked c.fields-wanted.ensures.long c.loop-index-test.true in
    let f = (nth wanted.fields.now n c.loop-index-test.true).0 in let x = (nth wanted.ranks.now n (omega arith)).0 in
    let is : IsFieldSource schemas row c.match-known_source.source.0 c.match-known_source.source.1 (field_view (get_or wanted.fields.now n f)) = elim c.match-known_source.branch [
      | in-Some w ↦ rw w.source-is (w.in-Some.ensures schemas (field_view (get_or wanted.fields.now n f)) c.requires.is (here f x).0)
      | in-None w ↦ rw w.source-is (same_field wanted.fields.now n w.index-wanted-index.result f c.loop-index-test.true schemas row w.find_source-source.result w.reader_field.result (
          let own = (here w.index-wanted-index.result w.index-wanted-index-in-None.result).1 in
          (w.find_source-source.ensures (field_view (get_or wanted.fields.now n w.index-wanted-index.result)) own, w.reader_field.ensures (names_of schemas.reader) own)))
    ] in
    let t = remains c.args.table.now in
    let read : MatchOption c.match-known_source.source.0 (c.map_or.result ≡ c.match-known_source.source.1.has_default) (λ p. c.map_or.result ≡ t p c.match-known_source.source.1.place) = search rules in
    let known = by_either t (row_fields row) c.match-known_source.source.1 (field_view (get_or wanted.fields.now n f)) c.match-known_source.source.0 c.map_or.result is.0 is.1.0 is.1.1 read in
    readable_as t (row_fields row) _ row.fields.fields.now wanted.fields.now refl (c.fields-wanted.ensures.are b e) false (
      (λ h. absurd (true≢false (sym h))),
      (λ h. sym c.if-not-map_or.true ∙ known.1 (h n f c.loop-index-test.true)),
    )

pub loop-index-preserved : goal.loop-index-preserved
loop-index-preserved c = λ k d l.
    let schemas = c.args.schemas.now in let row = c.args.row.now in let wanted = c.fields-wanted.result in let n = c.loop-index.index in
    let here = named_at schemas c.args.j n wanted (omega arith) c.fields-wanted.ensures.are c.fields-wanted.ensures.ranked c.fields-wanted.ensures.long c.loop-index-test.true in
    let f = (nth wanted.fields.now n c.loop-index-test.true).0 in let x = (nth wanted.ranks.now n (omega arith)).0 in
    let is : IsFieldSource schemas row c.match-known_source.source.0 c.match-known_source.source.1 (field_view (get_or wanted.fields.now n f)) = elim c.match-known_source.branch [
      | in-Some w ↦ rw w.source-is (w.in-Some.ensures schemas (field_view (get_or wanted.fields.now n f)) c.requires.is (here f x).0)
      | in-None w ↦ rw w.source-is (same_field wanted.fields.now n w.index-wanted-index.result f c.loop-index-test.true schemas row w.find_source-source.result w.reader_field.result (
          let own = (here w.index-wanted-index.result w.index-wanted-index-in-None.result).1 in
          (w.find_source-source.ensures (field_view (get_or wanted.fields.now n w.index-wanted-index.result)) own, w.reader_field.ensures (names_of schemas.reader) own)))
    ] in
    let t = remains c.args.table.now in
    let read : MatchOption c.match-known_source.source.0 (c.map_or.result ≡ c.match-known_source.source.1.has_default) (λ p. c.map_or.result ≡ t p c.match-known_source.source.1.place) = search rules in
    let known = by_either t (row_fields row) c.match-known_source.source.1 (field_view (get_or wanted.fields.now n f)) c.match-known_source.source.0 c.map_or.result is.0 is.1.0 is.1.1 read in
    let readable = λ (g : Field). Readable t (row_fields row) (field_view g) in
    elim (cases_lt k n) [
      | inl g ↦ c.loop-index.invariant k d g
      | inr g ↦ (let same : n ≡ k = omega arith in subst (λ (i : ℕ). readable (get_or wanted.fields.now i d)) same (subst readable (get_or_any wanted.fields.now n f d c.loop-index-test.true) (known.0 c.if-not-map_or.false)))
    ]

pub returns : goal.returns
returns c = λ b e.
    let row = c.args.row.now in let wanted = c.fields-wanted.result in let t = remains c.args.table.now in
    readable_as t (row_fields row) _ row.fields.fields.now wanted.fields.now refl (c.fields-wanted.ensures.are b e) true (
      (λ h k d l. c.loop-index.invariant k d (omega arith)),
      (λ h. refl),
    )
