use Rattle.std.proofs.Common.{rules, ◌≡◌, ◌<◌, ◌≤◌, [], ◌∷◌, ℕ, zero, suc, Option, Some, true, get_or, length, map, sym, ap, subst, ◌∙◌, List, take_all, arith}
use Rattle.std.specs.Prelude.{◌==◌, IfSome, None, replicate, slice_get}
use Rattle.std.specs.List.{AllZip}
use Rattle.std.specs.Option.{IsSomeAnd}
use Rattle.std.proofs.lemmas.Bool.Decides.{nat_tests}
use Rattle.std.proofs.lemmas.Option.{get_or_from_slice_get, slice_get-get_or}
use Rattle.std.proofs.lemmas.Slice.Zip.{AllZip-long}
use Rattle.avro_nodes.specs.declared.node.Field.{Field}
use Rattle.avro_nodes.specs.Nodes.{FieldView, field_view}
use Rattle.avro_resolve.specs.declared.readable.Aliased.{Aliased}
use Rattle.avro_resolve.specs.declared.readable.ReaderField.{ReaderField}
use Rattle.avro_resolve.specs.declared.schemas.IndexedSchema.{IndexedSchema}
use Rattle.avro_resolve.specs.Asking.{source_place}
use Rattle.avro_resolve.specs.Inside.Schemas.{columns, names_of}
use Rattle.avro_resolve.specs.Inside.Sources.{source_entry, Describes, IsSourceEntry, DescribesAliasedField}
use Rattle.avro_resolve.proofs.LinkLemmas.{zip_got, zip_more}
use Rattle.avro_resolve.proofs.SupportLemmas.{source_fits, unsourced}
use Rattle.avro_resolve.proofs.readable.source_entries.Goals as goal
use Rattle.avro_resolve.proofs.readable.source_entries.Goals.{in-None, in-Some}

-- the reader's field with a number
reader_field : (indexed : IndexedSchema) (all : List Aliased) (wanted : List (Option ReaderField)) → AllZip (DescribesAliasedField indexed) all wanted → (n : ℕ) (x : Option ReaderField) → n < length wanted → x ≡ get_or wanted n x → (a : Aliased) × (slice_get all n ≡ Some a) × DescribesAliasedField indexed a x
reader_field indexed all wanted zip n x l e =
    let none : Aliased = record { place = 0; index = 0 } in
    let within : n < length all = omega (arith, AllZip-long (DescribesAliasedField indexed) all wanted zip, l) in
    let at = slice_get-get_or all n none within in
    let w = zip_got (DescribesAliasedField indexed) all wanted zip n (get_or all n none) at in
    (get_or all n none, at, subst (DescribesAliasedField indexed (get_or all n none)) (sym (e ∙ get_or_from_slice_get wanted n w.0 x w.1)) w.2)

-- a property of the value in an option
asked_by : {X : Type 0} (P : X → Type 0) (o : Option X) (x : X) → o ≡ Some x → IsSomeAnd o P → P x
asked_by P o x e h = subst (λ q. IsSomeAnd q P) e h

some_by : {X : Type 0} (P : X → Type 0) (o : Option X) (x : X) → o ≡ Some x → IfSome o P → P x
some_by P o x e h = subst (λ q. IfSome q P) e h

none_by : {X : Type 0} (P : X → Type 0) (o : Option X) → o ≡ None → IsSomeAnd o P → ⊥
none_by P o e h = subst (λ q. IsSomeAnd q P) e h

zeros : {X : Type 0} (P : X → ℕ → Type 0) → ((x : X) → P x 0) → (xs : List X) (n : ℕ) → length xs ≡ n → AllZip P xs (replicate n 0)
zeros P h [] zero e = tt
zeros P h [] (suc n) e = absurd (omega arith)
zeros P h (x ∷ xs) zero e = absurd (omega arith)
zeros P h (x ∷ xs) (suc n) e = (h x, zeros P h xs n (omega arith))

empty_source : (xs : List Field) (f : FieldView) → (length xs == 0) ≡ true → 0 ≡ source_entry (source_place (map field_view xs) f)
empty_source [] f e = sym (ap source_entry (unsourced f))
empty_source (x ∷ xs) f e = absurd (let l : length (x ∷ xs) ≡ 0 = grind (arith, nat_tests) in omega (arith, l))

pub returns-then-is_empty : goal.returns-then-is_empty
returns-then-is_empty c =
    let all = c.args.aliased_fields.aliased.now in let wanted = c.args.aliased_fields.wanted.now in
    let P = IsSourceEntry (columns c.args.schemas.now) (map field_view c.args.fields.fields.now) in
    let long : length all ≡ length wanted = sym (AllZip-long (DescribesAliasedField c.args.schemas.now.reader) all wanted c.requires.wanted) in
    let made : c.in_ok-vec.field-0.items ≡ replicate (length wanted) 0 = c.in_ok-vec.ensures.items_if_clones_equal (λ y h. h) in
    subst (λ (xs : List ℕ). AllZip P all xs) (sym made) (zeros P (λ a f h. empty_source c.args.fields.fields.now f (sym c.is_empty.ensures ∙ c.if-is_empty.true)) all (length wanted) long)

pub find_source-place-requires-clause-named : goal.find_source-place-requires-clause-named
find_source-place-requires-clause-named c =
    let indexed = c.args.schemas.now.reader in let x = c.wanted-item.result in
    let a = reader_field indexed c.args.aliased_fields.aliased.now c.args.aliased_fields.wanted.now c.requires.wanted c.loop-wanted.wanted-index x c.loop-wanted-test.true c.wanted-item.is in
    let f = some_by (λ (w : ReaderField). (f : FieldView) × Describes (names_of indexed) w f) x c.in-Some.wanted c.in-Some.is a.2.some in
    (f.0, f.1.2)

pub map_or-requires : goal.map_or-requires
map_or-requires c =
    let indexed = c.args.schemas.now.reader in let x = c.wanted-item.result in
    let a = reader_field indexed c.args.aliased_fields.aliased.now c.args.aliased_fields.wanted.now c.requires.wanted c.loop-wanted.wanted-index x c.loop-wanted-test.true c.wanted-item.is in
    let below : (place : ℕ) → c.match-wanted.place ≡ Some place → place < 65535 = (λ place is. elim c.match-wanted.branch [
      | in-Some w ↦ (
          let f = some_by (λ (v : ReaderField). (f : FieldView) × Describes (names_of indexed) v f) x w.in-Some.wanted w.in-Some.is a.2.some in
          source_fits c.args.fields.fields.now c.requires.fields_in f.0 w.find_source-place.result (w.find_source-place.ensures f.0 f.1.2) place (sym w.place-is ∙ is))
      | in-None w ↦ (absurd (cc (sym is ∙ w.place-is)))
    ]) in
    search rules

pub loop-wanted-preserved : goal.loop-wanted-preserved
loop-wanted-preserved c =
    let P = IsSourceEntry (columns c.args.schemas.now) (map field_view c.args.fields.fields.now) in let all = c.args.aliased_fields.aliased.now in let n = c.loop-wanted.wanted-index in
    let indexed = c.args.schemas.now.reader in let x = c.wanted-item.result in
    let a = reader_field indexed all c.args.aliased_fields.wanted.now c.requires.wanted n x c.loop-wanted-test.true c.wanted-item.is in
    let entry : c.map_or.result ≡ source_entry c.match-wanted.place = search rules in
    let known : P a.0 c.map_or.result = (λ f h. elim c.match-wanted.branch [
      | in-Some w ↦ (
          let own = asked_by (λ (v : ReaderField). Describes (names_of indexed) v f) x w.in-Some.wanted w.in-Some.is (a.2.known f h) in
          entry ∙ ap source_entry (w.place-is ∙ w.find_source-place.ensures f own.2))
      | in-None w ↦ absurd (none_by (λ (v : ReaderField). Describes (names_of indexed) v f) x w.in-None.is (a.2.known f h))
    ]) in
    rw c.in_ok-push.ensures.items (zip_more P all n a.0 c.loop-wanted.row.items c.map_or.result a.1 c.loop-wanted.invariant known)

pub returns : goal.returns
returns c =
    let P = IsSourceEntry (columns c.args.schemas.now) (map field_view c.args.fields.fields.now) in let all = c.args.aliased_fields.aliased.now in let n = c.loop-wanted.wanted-index in
    let long = AllZip-long (DescribesAliasedField c.args.schemas.now.reader) all c.args.aliased_fields.wanted.now c.requires.wanted in
    let past : length all ≤ n = omega (arith, long, c.loop-wanted-test.false) in
    subst (λ (xs : List Aliased). AllZip P xs c.loop-wanted.row.items) (take_all n all past) c.loop-wanted.invariant
