use Rattle.std.proofs.Common.{rules, ◌≡◌, ℕ, ◌<◌, ◌≤◌, List, ◌∷◌, false, get_or, length, map, true≢false, sym, ap, subst, ◌∙◌, inl, inr, arith}
use Rattle.std.specs.Prelude.{All, None, Some, Option, option_map, slice_get}
use Rattle.std.proofs.lemmas.Bool.{cases_lt}
use Rattle.std.proofs.lemmas.List.{length-map}
use Rattle.std.proofs.lemmas.List.Elements.{All-weaker}
use Rattle.std.proofs.lemmas.Option.{slice_get-get_or, slice_get_within}
use Rattle.std.proofs.lemmas.Slice.Zip.{AllZip-long}
use Rattle.avro_nodes.specs.declared.node.Field.{Field}
use Rattle.avro_nodes.specs.Nodes.{FieldView, field_view}
use Rattle.avro_schema.specs.declared.index.FieldRanks.{FieldRanks}
use Rattle.avro_schema.specs.Index.{IsFieldRanked}
use Rattle.avro_resolve.specs.Asking.{source_place}
use Rattle.avro_resolve.specs.Inside.FieldSlots.{slot, names_in, AreFieldsInSlots, IsSource, NoField}
use Rattle.avro_resolve.specs.Inside.Schemas.{names_of}
use Rattle.avro_resolve.specs.declared.schemas.Fields.{Fields}
use Rattle.avro_resolve.specs.declared.schemas.SchemaPair.{SchemaPair}
use Rattle.avro_resolve.proofs.FieldSlots.{nobody, source_here, source_none}
use Rattle.avro_resolve.proofs.ViewLemmas.{view_got}
use Rattle.avro_resolve.proofs.RankMaps.{ranks_decide_names}
use Rattle.avro_resolve.proofs.Sourcing.{ranks_below, source_told, source_within}
use Rattle.avro_resolve.proofs.field_slots.find_source.Goals as goal

module _ (schemas : SchemaPair) (fields : Fields) (slots : List (Option ℕ)) (h : AreFieldsInSlots schemas fields slots) (names : FieldRanks) where
  abbrev Source : Option ℕ → Type 0
  Source o = IsSource schemas.rank_map.ranks.items (names_in fields.ranks.now) (names.name ∷ names.aliases.items) o

  by_name : (k : ℕ) → slot slots names.name ≡ Some k → Source (Some k)
  by_name k e = inl ((h.in_slots.found names.name k e).1, (λ f. cc))

  by_alias : (o : Option ℕ) → names.name < length slots → slot slots names.name ≡ None → IsSource schemas.rank_map.ranks.items (names_in fields.ranks.now) names.aliases.items o → Source o
  by_alias o l e is = inr (nobody schemas.rank_map.ranks.items (names_in fields.ranks.now) slots h.in_slots names.name l e, is)

  by_alias_at : (i k : ℕ) → names.name < length slots → slot slots names.name ≡ None → i < length names.aliases.items → slot slots (get_or names.aliases.items i 0) ≡ Some k
      → ((m : ℕ) → m < i → m < length names.aliases.items → NoField schemas.rank_map.ranks.items (names_in fields.ranks.now) (get_or names.aliases.items m 0)) → Source (Some k)
  by_alias_at i k l e m here none = by_alias (Some k) l e (source_here schemas.rank_map.ranks.items (names_in fields.ranks.now) slots h.in_slots names.aliases.items i k m here none)

  -- the index that is found is below the number of fields
  below : (k : ℕ) → Source (Some k) → k < length fields.fields.now
  below k source =
      let within = source_within schemas.rank_map.ranks.items (names_in fields.ranks.now) (names.name ∷ names.aliases.items) k source in
      let same = length-map fields.ranks.now (λ x. x.name) in
      let long = AllZip-long (IsFieldRanked (names_of schemas.writer)) (map field_view fields.fields.now) fields.ranks.now h.ranked in
      let view = length-map fields.fields.now field_view in
      omega arith

  told : (k : ℕ) → Source (Some k) → (g : Field) → g ≡ get_or fields.fields.now k g → (f : FieldView) → IsFieldRanked (names_of schemas.reader) f names → Some g.place ≡ source_place (map field_view fields.fields.now) f
  told k source g at f is =
      let w = names_of schemas.writer in let r = names_of schemas.reader in let rank_map = schemas.rank_map.ranks.items in
      let here : slice_get fields.fields.now k ≡ Some g = slice_get-get_or fields.fields.now k g (below k source) ∙ ap (λ x. Some x) (sym at) in
      ap (option_map (λ x. x.place)) (sym (view_got field_view fields.fields.now k g here)) ∙ source_told w r rank_map (ranks_decide_names w r rank_map h.both.rank_map h.both.reader.index.names.rise) (map field_view fields.fields.now) fields.ranks.now h.ranked f names is (Some k) source

  untold : Source None → (f : FieldView) → IsFieldRanked (names_of schemas.reader) f names → None ≡ source_place (map field_view fields.fields.now) f
  untold source f is =
      let w = names_of schemas.writer in let r = names_of schemas.reader in let rank_map = schemas.rank_map.ranks.items in
      source_told w r rank_map (ranks_decide_names w r rank_map h.both.rank_map h.both.reader.index.names.rise) (map field_view fields.fields.now) fields.ranks.now h.ranked f names is None source

  -- each name of the field has a slot
  name_in : (f : FieldView) × IsFieldRanked (names_of schemas.reader) f names → names.name < length slots
  name_in f = (let l = slice_get_within (names_of schemas.reader) names.name f.0.name f.1.name in omega (arith, l, h.room))

  aliases_in : (f : FieldView) × IsFieldRanked (names_of schemas.reader) f names → All (λ rank. rank < length slots) names.aliases.items
  aliases_in f = All-weaker (λ rank. rank < length (names_of schemas.reader)) (λ rank. rank < length slots) (λ rank l. omega (arith, l, h.room)) names.aliases.items (ranks_below (names_of schemas.reader) f.0.aliases names.aliases.items f.1.aliases)

pub bounds-fields-own : goal.bounds-fields-own
bounds-fields-own c = below c.args.schemas.now c.args.fields c.args.slots.now c.requires.in_slots c.args.names.now c.in-Some.own (by_name c.args.schemas.now c.args.fields c.args.slots.now c.requires.in_slots c.args.names.now c.in-Some.own c.in-Some.is)

pub offset_bounds-fields-own : goal.offset_bounds-fields-own
offset_bounds-fields-own c = let l = below c.args.schemas.now c.args.fields c.args.slots.now c.requires.in_slots c.args.names.now c.in-Some.own (by_name c.args.schemas.now c.args.fields c.args.slots.now c.requires.in_slots c.args.names.now c.in-Some.own c.in-Some.is) in search rules

pub returns-in-Some : goal.returns-in-Some
returns-in-Some c = λ f is.
    ap (λ (x : Field). Some x.place) (sym c.index-fields-own.is) ∙ told c.args.schemas.now c.args.fields c.args.slots.now c.requires.in_slots c.args.names.now c.in-Some.own (by_name c.args.schemas.now c.args.fields c.args.slots.now c.requires.in_slots c.args.names.now c.in-Some.own c.in-Some.is) c.index-fields-own.result c.index-fields-own.is f is

pub bounds-in-loop-alias : goal.bounds-in-loop-alias
bounds-in-loop-alias c =
    let same = c.deref-alias-items.ensures.value in
    subst (λ (xs : List ℕ). get_or xs c.loop-alias.alias-index 0 < length c.args.slots.now) (sym same) (aliases_in c.args.schemas.now c.args.fields c.args.slots.now c.requires.in_slots c.args.names.now c.requires.named c.loop-alias.alias-index 0 (subst (λ (xs : List ℕ). c.loop-alias.alias-index < length xs) same c.loop-alias-test.true))

pub bounds-fields-field : goal.bounds-fields-field
bounds-fields-field c = below c.args.schemas.now c.args.fields c.args.slots.now c.requires.in_slots c.args.names.now c.in-Some-slots.field (by_alias_at c.args.schemas.now c.args.fields c.args.slots.now c.requires.in_slots c.args.names.now c.loop-alias.alias-index c.in-Some-slots.field (name_in c.args.schemas.now c.args.fields c.args.slots.now c.requires.in_slots c.args.names.now c.requires.named) c.in_default.is (subst (λ (xs : List ℕ). c.loop-alias.alias-index < length xs) c.deref-alias-items.ensures.value c.loop-alias-test.true) (subst (λ (xs : List ℕ). slot c.args.slots.now (get_or xs c.loop-alias.alias-index 0) ≡ Some c.in-Some-slots.field) c.deref-alias-items.ensures.value c.in-Some-slots.is) c.loop-alias.invariant)

pub offset_bounds-fields-field : goal.offset_bounds-fields-field
offset_bounds-fields-field c =
    let l = below c.args.schemas.now c.args.fields c.args.slots.now c.requires.in_slots c.args.names.now c.in-Some-slots.field (by_alias_at c.args.schemas.now c.args.fields c.args.slots.now c.requires.in_slots c.args.names.now c.loop-alias.alias-index c.in-Some-slots.field (name_in c.args.schemas.now c.args.fields c.args.slots.now c.requires.in_slots c.args.names.now c.requires.named) c.in_default.is (subst (λ (xs : List ℕ). c.loop-alias.alias-index < length xs) c.deref-alias-items.ensures.value c.loop-alias-test.true) (subst (λ (xs : List ℕ). slot c.args.slots.now (get_or xs c.loop-alias.alias-index 0) ≡ Some c.in-Some-slots.field) c.deref-alias-items.ensures.value c.in-Some-slots.is) c.loop-alias.invariant) in
    search rules

pub returns-in-Some-slots : goal.returns-in-Some-slots
returns-in-Some-slots c = λ f is.
    let source = by_alias_at c.args.schemas.now c.args.fields c.args.slots.now c.requires.in_slots c.args.names.now c.loop-alias.alias-index c.in-Some-slots.field (name_in c.args.schemas.now c.args.fields c.args.slots.now c.requires.in_slots c.args.names.now c.requires.named) c.in_default.is (subst (λ (xs : List ℕ). c.loop-alias.alias-index < length xs) c.deref-alias-items.ensures.value c.loop-alias-test.true) (subst (λ (xs : List ℕ). slot c.args.slots.now (get_or xs c.loop-alias.alias-index 0) ≡ Some c.in-Some-slots.field) c.deref-alias-items.ensures.value c.in-Some-slots.is) c.loop-alias.invariant in
    ap (λ (x : Field). Some x.place) (sym c.index-fields-field.is) ∙ told c.args.schemas.now c.args.fields c.args.slots.now c.requires.in_slots c.args.names.now c.in-Some-slots.field source c.index-fields-field.result c.index-fields-field.is f is

pub loop-alias-preserved : goal.loop-alias-preserved
loop-alias-preserved c k l m =
    let rank_map = c.args.schemas.now.rank_map.ranks.items in let fields = names_in c.args.fields.ranks.now in let aliases = c.args.names.now.aliases.items in let i = c.loop-alias.alias-index in
    let here = nobody rank_map fields c.args.slots.now c.requires.in_slots.in_slots (get_or aliases i 0) (aliases_in c.args.schemas.now c.args.fields c.args.slots.now c.requires.in_slots c.args.names.now c.requires.named i 0 (subst (λ (xs : List ℕ). c.loop-alias.alias-index < length xs) c.deref-alias-items.ensures.value c.loop-alias-test.true)) (subst (λ (xs : List ℕ). slot c.args.slots.now (get_or xs i 0) ≡ None) c.deref-alias-items.ensures.value c.in_default-slots.is) in
    elim (cases_lt k i) [
      | inl g ↦ c.loop-alias.invariant k g m
      | inr g ↦ (let e : i ≡ k = omega arith in subst (λ (n : ℕ). NoField rank_map fields (get_or aliases n 0)) e here)
    ]

pub loop-alias-preserved-then-not-writer_has : goal.loop-alias-preserved-then-not-writer_has
loop-alias-preserved-then-not-writer_has c k l m =
    let rank_map = c.args.schemas.now.rank_map.ranks.items in let fields = names_in c.args.fields.ranks.now in let aliases = c.args.names.now.aliases.items in let i = c.loop-alias.alias-index in
    let here : NoField rank_map fields (get_or aliases i 0) = λ j own.
    (let known = c.args.schemas.now.rank_map.writer_has.items in
    let told : c.writer_has.result ≡ get_or known (get_or aliases i 0) false = subst (λ (xs : List ℕ). c.writer_has.result ≡ get_or known (get_or xs i 0) false) c.deref-alias-items.ensures.value c.writer_has.ensures in
    true≢false (sym (c.requires.in_slots.both.known own.0 (get_or aliases i 0) own.2) ∙ sym told ∙ c.if-not-writer_has.true)) in
    elim (cases_lt k i) [
      | inl g ↦ c.loop-alias.invariant k g m
      | inr g ↦ (let e : i ≡ k = omega arith in subst (λ (n : ℕ). NoField rank_map fields (get_or aliases n 0)) e here)
    ]

pub returns : goal.returns
returns c = λ f is.
    let none = source_none c.args.schemas.now.rank_map.ranks.items (names_in c.args.fields.ranks.now) c.args.slots.now c.requires.in_slots.in_slots c.args.names.now.aliases.items c.loop-alias.alias-index (subst (λ (xs : List ℕ). length xs ≤ c.loop-alias.alias-index) c.deref-alias-items.ensures.value c.loop-alias-test.false) c.loop-alias.invariant in
    untold c.args.schemas.now c.args.fields c.args.slots.now c.requires.in_slots c.args.names.now (by_alias c.args.schemas.now c.args.fields c.args.slots.now c.requires.in_slots c.args.names.now None (name_in c.args.schemas.now c.args.fields c.args.slots.now c.requires.in_slots c.args.names.now c.requires.named) c.in_default.is none) f is
