use Rattle.std.proofs.Common.{rules, ◌∙◌, ◌≡◌, ◌<◌, ◌≤◌, ℕ, zero, suc, List, Option, None, Some, ap, length, map, refl, replicate, subst, inl, inr, sym, arith, take_all}
use Rattle.std.specs.Prelude.{string_bytes, Vec}
use Rattle.std.specs.List.{AllZip}
use Rattle.std.specs.declared.alloc.Global.{Global}
use Rattle.std.proofs.lemmas.Bool.{cases_lt}
use Rattle.std.proofs.lemmas.List.{length-map, length-replicate}
use Rattle.std.proofs.lemmas.List.Elements.{All-weaker}
use Rattle.avro_nodes.specs.declared.node.Field.{Field}
use Rattle.avro_nodes.specs.Nodes.{FieldView, NodeView, field_view, node_view}
use Rattle.avro_resolve.specs.Inside.Agreeing.{fields_of}
use Rattle.avro_resolve.specs.Inside.FieldSlots.{IsClear}
use Rattle.avro_resolve.specs.Inside.Remaining.{StillSupported}
use Rattle.avro_resolve.specs.Inside.Schemas.{columns, names_of, rows}
use Rattle.avro_resolve.specs.Inside.Sources.{IsSourceEntry, DescribesAliasedField}
use Rattle.avro_resolve.proofs.LinkLemmas.{zip_more}
use Rattle.avro_resolve.proofs.RankMaps.{met_below}
use Rattle.avro_resolve.proofs.KeptSupport.{lists_none, lists_then, settled_on}
use Rattle.avro_resolve.proofs.Sourcing.{nth}
use Rattle.avro_resolve.proofs.rows.examine_all.Goals as goal

none_alone : (P : Option ℕ → Type 0) → ((x : ℕ) → P (Some x) → ⊥) → (y : Option ℕ) → P y → y ≡ None
none_alone P never None h = refl
none_alone P never (Some x) h = absurd (never x h)

slots_clear : (n : ℕ) → IsClear (replicate n None)
slots_clear zero rank k e = absurd cc
slots_clear (suc n) zero k e = absurd cc
slots_clear (suc n) (suc rank) k e = slots_clear n rank k e

pub loop-place-init : goal.loop-place-init
loop-place-init c =
    let same = c.as_mut_slice-slots.ensures.value in
    let names = length-map c.args.schemas.now.reader.index.now.names.items string_bytes in
    let n = c.len.result in let none : Option ℕ = None in
    let made : c.as_mut_slice-slots.result.now ≡ replicate n none = same ∙ c.in_ok-made.ensures.items_if_clones_equal (none_alone _ (λ x g. g)) in
    let long : length (replicate n none) ≡ n = length-replicate n none in
    record {
      clear = subst IsClear (sym made) (slots_clear n);
      room = omega (arith, names, long, ap length made, c.len.ensures);
      sources = search rules;
      rest = c.requires.rest.1;
      lists = lists_none c.args.progress.now.table c.args.progress.now.eliminated.items;
      still_supported = λ a b lo l. absurd (omega (arith, lo));
    }

pub fill_slots-requires-clause-has_slots : goal.fill_slots-requires-clause-has_slots
fill_slots-requires-clause-has_slots c = λ name rank e.
    let schemas = c.args.schemas.now in let room = c.loop-place.invariant.room in
    let below = met_below (names_of schemas.writer) (names_of schemas.reader) schemas.rank_map.ranks.items c.requires.rest.0.rank_map name rank e in
    omega arith

pub source_entries-requires-clause-in_slots : goal.source_entries-requires-clause-in_slots
source_entries-requires-clause-in_slots c =
    let room = c.loop-place.invariant.room in let kept = c.fill_slots.auto.slots in
    record { both = c.requires.rest.0; ranked = c.fields-fields.ensures.ranked; in_slots = c.fill_slots.ensures; room = omega arith }

pub source_entries-requires-clause-fields_in : goal.source_entries-requires-clause-fields_in
source_entries-requires-clause-fields_in c =
    let s = c.args.schemas.now.writer.schema.now in let few = c.requires.rest.0.writer.few in
    All-weaker (λ (g : Field). g.place < length s) (λ (g : Field). g.place < 65535) (λ g h. omega arith) c.fields-fields.result.fields.now c.fields-fields.ensures.in_schema

pub source_entries-requires-clause-wanted : goal.source_entries-requires-clause-wanted
source_entries-requires-clause-wanted c = subst (AllZip (DescribesAliasedField c.args.schemas.now.reader) c.args.aliased.now) (sym c.deref-2.ensures.value) c.in_ok-wanted.ensures

pub examine_row-requires-clause-row : goal.examine_row-requires-clause-row
examine_row-requires-clause-row c =
    let schemas = c.args.schemas.now in let room = c.loop-place.invariant.room in let kept = c.fill_slots.auto.slots in let at = c.loop-place-test.true in let end = c.places-place-end.ensures.places in
    record {
      within = omega arith;
      are = c.fields-fields.ensures.are;
      places = c.fields-fields.ensures.in_schema;
      in_slots = record { both = c.requires.rest.0; ranked = c.fields-fields.ensures.ranked; in_slots = c.fill_slots.ensures; room = omega arith };
      entries = subst (λ (xs : List ℕ). AllZip (IsSourceEntry (columns schemas) (map field_view c.fields-fields.result.fields.now)) c.args.aliased.now xs) (sym c.deref-in-loop-place.ensures.value) c.in_ok-entries.ensures;
      wanted = subst (AllZip (DescribesAliasedField schemas.reader) c.args.aliased.now) (sym c.deref-2.ensures.value) c.in_ok-wanted.ensures;
    }

pub clear_slots-requires-clause-has_slots : goal.clear_slots-requires-clause-has_slots
clear_slots-requires-clause-has_slots c = λ name rank e.
    let schemas = c.args.schemas.now in let room = c.loop-place.invariant.room in let kept = c.fill_slots.auto.slots in
    let below = met_below (names_of schemas.writer) (names_of schemas.reader) schemas.rank_map.ranks.items c.requires.rest.0.rank_map name rank e in
    omega arith

pub loop-place-preserved : goal.loop-place-preserved
loop-place-preserved c =
    let w = rows c.args.schemas.now in let r = columns c.args.schemas.now in let p = c.loop-place.place in let inv = c.loop-place.invariant in let all = c.args.aliased.now in
    let u = c.loop-place.progress.table in let v = c.examine_row.new.progress.table in let qs = c.loop-place.progress.eliminated.items in let rs = c.examine_row.new.progress.eliminated.items in
    let is = c.in_ok-examine_row.ensures in let entries = c.in_ok-entries.entries in let room = inv.room in let in_slots = c.fill_slots.auto.slots in let lifted = c.clear_slots.auto.slots in
    let view = length-map c.args.schemas.now.writer.schema.now node_view in
    let a = nth w p (omega (arith, view, c.loop-place-test.true, c.places-place-end.ensures.places)) in
    let P = λ (x : NodeView) (row : Vec ℕ Global). AllZip (IsSourceEntry r (fields_of x)) all row.items in
    record {
      clear = c.clear_slots.ensures;
      room = omega arith;
      sources = rw c.in_ok-push.ensures.items (zip_more P w p a.0 c.loop-place.sources.items entries a.1 inv.sources (subst (λ (fs : List FieldView). AllZip (IsSourceEntry r fs) all entries.items) (c.fields-fields.ensures.are a.0 a.1) c.in_ok-entries.ensures));
      rest = is.eliminates.0;
      lists = lists_then c.args.progress.now.table u v c.args.progress.now.eliminated.items qs rs inv.lists is.eliminates.1;
      still_supported = λ a b lo l. elim (cases_lt a p) [
        | inl g ↦ settled_on w r u v qs rs a b c.requires.rest.0.writer.whole c.requires.rest.0.reader.whole is.eliminates.1 (inv.still_supported a b g l)
        | inr g ↦ (let e : p ≡ a = omega arith in subst (λ (x : ℕ). StillSupported w r v rs x b) e (is.still_supported b l))
      ];
    }

pub returns-clause-sources : goal.returns-clause-sources
returns-clause-sources c =
    let w = rows c.args.schemas.now in let r = columns c.args.schemas.now in let view = length-map c.args.schemas.now.writer.schema.now node_view in
    let past : length w ≤ c.loop-place.place = omega (arith, view, c.loop-place-test.false, c.places-place-end.ensures.places) in
    subst (λ (xs : List NodeView). AllZip (λ a (row : Vec ℕ Global). AllZip (IsSourceEntry r (fields_of a)) c.args.aliased.now row.items) xs c.loop-place.sources.items) (take_all c.loop-place.place w past) c.loop-place.invariant.sources
