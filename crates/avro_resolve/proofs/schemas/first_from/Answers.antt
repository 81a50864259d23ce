use Rattle.std.proofs.Common.{◌≡◌, ℕ, List, [], get_or, length, Some, sym, ap, subst, ◌∙◌, inl, inr, true≢false, arith}
use Rattle.std.specs.Prelude.{slice_get}
use Rattle.std.specs.Ordering.{is_eq, is_lt}
use Rattle.std.specs.declared.cmp.Ordering.{Ordering}
use Rattle.std.specs.declared.cmp.Ordering.TheVariants.{Less, Equal, Greater}
use Rattle.std.proofs.lemmas.Bool.{cases_lt}
use Rattle.std.proofs.lemmas.List.{length-map}
use Rattle.std.proofs.lemmas.Map.Lookups.{exact_bytes}
use Rattle.std.proofs.lemmas.Option.{get_or_from_slice_get, same_Some, slice_get_within}
use Rattle.avro_nodes.specs.Nodes.{texts_view}
use Rattle.avro_schema.proofs.Rising.{order, level, less_not_equal}
use Rattle.avro_resolve.proofs.RankMaps.{name_at}
use Rattle.avro_resolve.proofs.schemas.first_from.Goals as goal

-- the comparison with the name at a rank
at_rank : (names : List (List ℕ)) (at : ℕ) (here name : List ℕ) (o : Ordering) → slice_get names at ≡ Some here → o ≡ order here name → order (get_or names at []) name ≡ o
at_rank names at here name o e is = ap (λ (x : List ℕ). order x name) (get_or_from_slice_get names at here [] e) ∙ sym is

equal_not_greater : (a : Ordering) → a ≡ Equal → a ≡ Greater → ⊥
equal_not_greater a e f = true≢false (sym (ap is_eq e) ∙ ap is_eq f)

less_not_greater : (a : Ordering) → a ≡ Less → a ≡ Greater → ⊥
less_not_greater a e f = true≢false (sym (ap is_lt e) ∙ ap is_lt f)

pub returns-in-Equal : goal.returns-in-Equal
returns-in-Equal c =
    let r = texts_view c.args.names.now in let at = c.loop-at.at in let here = c.as_str.result.now in let name = c.args.name.now in
    let is = name_at c.args.names.now at c.index-names-at.result here c.loop-at-test.true c.index-names-at.is c.as_str.ensures.value in
    let level = at_rank r at here name Equal is (sym c.in-Equal.is ∙ c.cmp.ensures) in
    record {
      within = omega arith;
      below = c.loop-at.invariant;
      at = λ _ less. less_not_equal (order (get_or r at []) name) less level;
      mapped = is ∙ ap (λ (x : List ℕ). Some x) (exact_bytes here name (sym c.cmp.ensures ∙ c.in-Equal.is));
    }

pub returns-in-Greater : goal.returns-in-Greater
returns-in-Greater c =
    let r = texts_view c.args.names.now in let at = c.loop-at.at in let here = c.as_str.result.now in let name = c.args.name.now in
    let is = name_at c.args.names.now at c.index-names-at.result here c.loop-at-test.true c.index-names-at.is c.as_str.ensures.value in
    let above = at_rank r at here name Greater is (sym c.in-Greater.is ∙ c.cmp.ensures) in
    record {
      within = omega arith;
      below = c.loop-at.invariant;
      at = λ _ less. less_not_greater (order (get_or r at []) name) less above;
      mapped = λ same. equal_not_greater (order here name) (level here name (same_Some here name (sym is ∙ same))) (sym c.cmp.ensures ∙ c.in-Greater.is);
    }

pub loop-at-preserved : goal.loop-at-preserved
loop-at-preserved c = λ k l m.
    let r = texts_view c.args.names.now in let at = c.loop-at.at in let name = c.args.name.now in
    let is = name_at c.args.names.now at c.index-names-at.result c.as_str.result.now c.loop-at-test.true c.index-names-at.is c.as_str.ensures.value in
    let low = at_rank r at c.as_str.result.now name Less is (sym c.in-Less.is ∙ c.cmp.ensures) in
    elim (cases_lt k at) [
      | inl g ↦ c.loop-at.invariant k l g
      | inr g ↦ (let same : at ≡ k = omega arith in subst (λ (n : ℕ). order (get_or r n []) name ≡ Less) same low)
    ]

pub returns : goal.returns
returns c = record {
  within = omega arith;
  below = λ k l m. c.loop-at.invariant k l (omega (arith, m, c.loop-at-test.false));
  at = λ l. absurd (omega (arith, l));
  mapped = λ e. (
      let r = texts_view c.args.names.now in
      let l = slice_get_within r (length c.args.names.now) c.args.name.now e in
      let long : length r ≡ length c.args.names.now = length-map _ _ in
      absurd (omega (arith, l, long)));
}
