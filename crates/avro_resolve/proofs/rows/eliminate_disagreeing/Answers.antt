use Rattle.std.proofs.Common.{◌≡◌, ℕ, List, IsTrue, false, ap, length, replicate, subst, inl, inr, arith, sym, ◌∙◌, true≢false}
use Rattle.std.specs.Prelude.{string_bytes}
use Rattle.std.proofs.lemmas.Bool.{cases_lt}
use Rattle.std.proofs.lemmas.List.{length-map, length-replicate}
use Rattle.avro_nodes.specs.Nodes.{node_view, nodes_view}
use Rattle.avro_resolve.specs.Inside.Agreeing.{symbols_of, AreCleared}
use Rattle.avro_resolve.specs.Inside.Remaining.{remains, Agreed}
use Rattle.avro_resolve.specs.Inside.Schemas.{names_of, rows}
use Rattle.avro_resolve.proofs.Numbering.{cleared_slots, listed_numbered, listed_ranked}
use Rattle.avro_resolve.proofs.Sourcing.{nth}
use Rattle.avro_resolve.proofs.Agreement.{supports_agreed}
use Rattle.avro_resolve.proofs.KeptSupport.{fewer_eliminated, gone_eliminated}
use Rattle.avro_resolve.proofs.Eliminates.{eliminated_pair}
use Rattle.avro_resolve.proofs.rows.eliminate_disagreeing.Goals.{then-not-has-via-then-not-has, then-not-has-via-else-not-has+then-agree_at}
use Rattle.avro_resolve.proofs.rows.eliminate_disagreeing.Goals as goal

pub loop-j-init : goal.loop-j-init
loop-j-init c = record { rest = c.loop-i.invariant.rest; fewer = λ a b h. h; agreed = λ b l h. absurd (omega (arith, l)) }

pub loop-j-preserved-then-not-has : goal.loop-j-preserved-then-not-has
loop-j-preserved-then-not-has c =
    let w = nodes_view c.args.schemas.now.writer.schema.now in let r = nodes_view c.args.schemas.now.reader.schema.now in let i = c.loop-i.i in let j = c.loop-j.j in let u = c.loop-j.table in
    let here : IsTrue (remains u i j) → Agreed w r i j = λ h. elim c.then-not-has.branch [
      | then-not-has-via-then-not-has b ↦ absurd (true≢false (sym h ∙ sym c.has.ensures ∙ b.if-not-has.true))
      | then-not-has-via-else-not-has+then-agree_at b ↦ b.agree_at.ensures.0 b.if-agree_at.true
    ] in
    record {
      rest = c.loop-j.invariant.rest;
      fewer = c.loop-j.invariant.fewer;
      agreed = λ b l. elim (cases_lt b j) [
        | inl g ↦ c.loop-j.invariant.agreed b g
        | inr g ↦ (let e : j ≡ b = omega arith in subst (λ (x : ℕ). IsTrue (remains u i x) → Agreed w r i x) e here)
      ];
    }

pub loop-j-preserved : goal.loop-j-preserved
loop-j-preserved c =
    let w = nodes_view c.args.schemas.now.writer.schema.now in let r = nodes_view c.args.schemas.now.reader.schema.now in let i = c.loop-i.i in let j = c.loop-j.j in
    let u = c.loop-j.table in let v = c.eliminate.new.self in
    let fewer = fewer_eliminated u v i j c.eliminate.ensures.others in
    let lw = length-map c.args.schemas.now.writer.schema.now node_view in let lr = length-map c.args.schemas.now.reader.schema.now node_view in
    record {
      rest = eliminated_pair w r u v i j c.requires.schemas.writer.whole c.requires.schemas.reader.whole c.loop-j.invariant.rest (omega (arith, lw)) (omega (arith, lr)) (sym c.has.ensures ∙ c.if-not-has.false)
          (λ s. true≢false (sym (c.agree_at.ensures.1 (supports_agreed w r (remains u) i j s)) ∙ c.if-agree_at.false)) c.eliminate.ensures.shape c.eliminate.ensures.others c.eliminate.ensures.fewer;
      fewer = λ a b h. c.loop-j.invariant.fewer a b (fewer a b h);
      agreed = λ b l h. elim (cases_lt b j) [
        | inl g ↦ c.loop-j.invariant.agreed b g (fewer i b h)
        | inr g ↦ (let e : j ≡ b = omega arith in absurd (true≢false (sym h ∙ subst (λ (x : ℕ). remains v i x ≡ false) e (gone_eliminated u v i j c.eliminate.ensures.others))))
      ];
    }

pub loop-i-preserved : goal.loop-i-preserved
loop-i-preserved c =
    let w = nodes_view c.args.schemas.now.writer.schema.now in let r = nodes_view c.args.schemas.now.reader.schema.now in let i = c.loop-i.i in let v = c.loop-j.table in
    record {
      clear_numbers = c.clear_numbers.ensures;
      room = (let numbered = c.number_symbols.auto.slots in let blanked = c.clear_numbers.auto.slots in omega (arith, c.loop-i.invariant.room, numbered, blanked));
      rest = c.loop-j.invariant.rest;
      agreed = λ a b l k h. elim (cases_lt a i) [
        | inl g ↦ c.loop-i.invariant.agreed a b g k (c.loop-j.invariant.fewer a b h)
        | inr g ↦ (let e : i ≡ a = omega arith in subst (λ (x : ℕ). IsTrue (remains v x b) → Agreed w r x b) e (λ z. c.loop-j.invariant.agreed b (let done = c.loop-j-test.false in omega (arith, done, k)) z) h)
      ];
    }

pub returns : goal.returns
returns c = record {
  rest = c.loop-i.invariant.rest;
  agreed = λ a b l k h.
      let lw = length-map c.args.schemas.now.writer.schema.now node_view in let lr = length-map c.args.schemas.now.reader.schema.now node_view in
      c.loop-i.invariant.agreed a b (omega (arith, l, lw)) (omega (arith, k, lr)) h;
}

pub loop-i-init : goal.loop-i-init
loop-i-init c =
    let same = c.as_mut_slice-slots.ensures.value in let n = c.len.result in
    let made : c.as_mut_slice-slots.result.now ≡ replicate n 0 = same ∙ c.in_ok-made.ensures.items_if_clones_equal (λ y h. h) in
    let names = length-map c.args.schemas.now.reader.index.now.names.items string_bytes in let zeros : List ℕ = replicate n 0 in let long : length zeros ≡ n = length-replicate n 0 in
    record {
      clear_numbers = subst AreCleared (sym made) (cleared_slots n);
      room = omega (arith, names, long, ap length made, c.len.ensures);
      rest = c.requires.rest;
      agreed = λ a b l k h. absurd (omega (arith, l));
    }

pub number_symbols-requires-clause-rise : goal.number_symbols-requires-clause-rise
number_symbols-requires-clause-rise c =
    let schemas = c.args.schemas.now in let view = length-map schemas.writer.schema.now node_view in
    let a = nth (rows schemas) c.loop-i.i (omega (arith, view, c.loop-i-test.true, c.places-i-end.ensures.places)) in
    (listed_ranked (names_of schemas.reader) (symbols_of a.0) c.in_ok-symbols.symbols c.ranks_or_empty-ranks.result.now c.ranks_or_empty-ranks.ensures (c.in_ok-symbols.ensures a.0 a.1)).0

pub number_symbols-requires-clause-within : goal.number_symbols-requires-clause-within
number_symbols-requires-clause-within c = λ k d l.
    let schemas = c.args.schemas.now in let view = length-map schemas.writer.schema.now node_view in
    let a = nth (rows schemas) c.loop-i.i (omega (arith, view, c.loop-i-test.true, c.places-i-end.ensures.places)) in
    let below = (listed_ranked (names_of schemas.reader) (symbols_of a.0) c.in_ok-symbols.symbols c.ranks_or_empty-ranks.result.now c.ranks_or_empty-ranks.ensures (c.in_ok-symbols.ensures a.0 a.1)).1 k d l in
    omega (arith, below, c.loop-i.invariant.room)

pub clear_numbers-requires-clause-rise : goal.clear_numbers-requires-clause-rise
clear_numbers-requires-clause-rise c =
    let schemas = c.args.schemas.now in let view = length-map schemas.writer.schema.now node_view in
    let a = nth (rows schemas) c.loop-i.i (omega (arith, view, c.loop-i-test.true, c.places-i-end.ensures.places)) in
    (listed_ranked (names_of schemas.reader) (symbols_of a.0) c.in_ok-symbols.symbols c.ranks_or_empty-ranks.result.now c.ranks_or_empty-ranks.ensures (c.in_ok-symbols.ensures a.0 a.1)).0

pub clear_numbers-requires-clause-within : goal.clear_numbers-requires-clause-within
clear_numbers-requires-clause-within c = λ k d l.
    let schemas = c.args.schemas.now in let view = length-map schemas.writer.schema.now node_view in
    let a = nth (rows schemas) c.loop-i.i (omega (arith, view, c.loop-i-test.true, c.places-i-end.ensures.places)) in
    let below = (listed_ranked (names_of schemas.reader) (symbols_of a.0) c.in_ok-symbols.symbols c.ranks_or_empty-ranks.result.now c.ranks_or_empty-ranks.ensures (c.in_ok-symbols.ensures a.0 a.1)).1 k d l in
    let kept = c.number_symbols.auto.slots in omega (arith, below, c.loop-i.invariant.room, kept)

pub agree_at-requires-clause-numbered : goal.agree_at-requires-clause-numbered
agree_at-requires-clause-numbered c = listed_numbered c.in_ok-symbols.symbols c.ranks_or_empty-ranks.result.now c.number_symbols.new.slots c.ranks_or_empty-ranks.ensures c.number_symbols.ensures

pub agree_at-requires-clause-room : goal.agree_at-requires-clause-room
agree_at-requires-clause-room c = let kept = c.number_symbols.auto.slots in omega (arith, c.loop-i.invariant.room, kept)
