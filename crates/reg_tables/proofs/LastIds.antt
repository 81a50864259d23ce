-- The query of the greatest id returns it.
use Rattle.std.proofs.Common.{◌≡◌, ◌≤◌, inl, inr, ℕ, pos, List, [], ◌∷◌, map, take, Option, None, Some, MatchOption, slice_get, false, Ordering, Less, Equal, Greater, refl, sym, ap, subst, ◌∙◌, arith}
use Rattle.reg_tables.proofs.Kit.{IsSome, IsTotalOrder, get, IsSorted, is_gt, nat_cmp, ordering_then, on_total, le_from_not_gt, Row, overlay, Output, IsAnswer, output_cmp, Schema, State, Shown, Term, Has, all_has, Key, value_cmp-Int}
use Rattle.sqlite.specs.Order.{column}
use Rattle.reg_tables.specs.Layout.{HasFiveTables}
use Rattle.reg_tables.specs.Contents.{number_cells, Contents, HoldsContents}
use Rattle.reg_tables.specs.Inside.Statements.{body_of}
use Rattle.reg_tables.proofs.LayoutTables.{value_of}
use Rattle.reg_tables.proofs.KeyedTables.{int_order, with_nothing, answered, none_of}
use Rattle.reg_tables.proofs.OrderedQueries.{at_most, key_cmp_total}
use Rattle.reg_tables.proofs.Queries.{ordered_has, has_ordered}
use Rattle.reg_tables.proofs.Tables.{five}
use Rattle.reg_tables.proofs.Statements.{laid_out, find_last, asks_last}

module _ (old new : State) (schema : Schema) (contents : Contents) (h : HoldsContents schema old.now contents) (first : HasFiveTables schema) (found : List Row) (shown : Shown find_last.sql [] old new found) where
  abbrev cmp : Output → Output → Ordering
  cmp = output_cmp (body_of find_last)

  answer : IsAnswer (body_of find_last) (overlay old.now.trees []) [] found
  answer = answered find_last [] old new (asks_last.is old.now.schema (laid_out h first)) found shown

  abbrev out : ℕ → Output
  out id = (number_cells id, number_cells id)

  -- each ordered output is the id of a text
  is_id : (o : Output) → Has answer.ordered o → (id : ℕ) × IsSome (get contents.texts id) × (o ≡ out id)
  is_id o there =
      let r = ordered_has [] [] 0 find_last.shown find_last.order find_last.limit (overlay old.now.trees []) found answer o there in
      let e = (five h first).texts.sound r.0 (subst (λ l. Has l r.0) (with_nothing old.now.trees 0) r.1) in
      (e.0, subst IsSome (sym e.2) refl, r.3 ∙ (λ i. (e.3.0 i, e.3.0 i)))

  has_id : (id : ℕ) → IsSome (get contents.texts id) → Has answer.ordered (out id)
  has_id id some =
      let text = value_of (get contents.texts id) some in
      let r = (five h first).texts.complete id text.0 text.1 in
      subst (Has answer.ordered) (λ i. (r.2.0 i, r.2.0 i))
      (has_ordered [] [] 0 find_last.shown find_last.order find_last.limit (overlay old.now.trees []) found answer r.0 (subst (λ l. Has l r.0) (sym (with_nothing old.now.trees 0)) r.1) refl)

  -- in descending order, no later id is greater
  no_greater : (id other : ℕ) → is_gt (cmp (out id) (out other)) ≡ false → other ≤ id
  no_greater id other below = le_from_not_gt other id (alone (nat_cmp other id) (rw (value_cmp-Int (pos other) (pos id), int_order other id) at below))
    where
      alone : (o : Ordering) → is_gt (ordering_then o Equal) ≡ false → is_gt o ≡ false
      alone Less h = refl
      alone Equal h = refl
      alone Greater h = h

  abbrev IsFirst : Option Row → Type 0
  IsFirst o = MatchOption o ((id : ℕ) → get contents.texts id ≡ None) (λ row. (id : ℕ) × IsSome (get contents.texts id) × ((other : ℕ) → IsSome (get contents.texts other) → other ≤ id) × (row ≡ number_cells id))

  pub finds_last : (o : Option Row) → o ≡ slice_get found 0 → IsFirst o
  finds_last o first = go answer.ordered answer.sorted is_id has_id o (first ∙ ap (λ l. slice_get l 0) answer.shown)
    where
      total : IsTotalOrder cmp
      total = on_total (λ (y : Output). y.0) (key_cmp_total 0 (map (λ (k : Term × Key). k.1) find_last.order))

      go : (ordered : List Output) → IsSorted cmp ordered → ((x : Output) → Has ordered x → (id : ℕ) × IsSome (get contents.texts id) × (x ≡ out id)) → ((id : ℕ) → IsSome (get contents.texts id) → Has ordered (out id))
          → (o : Option Row) → o ≡ slice_get (take 1 (map (λ (x : Output). x.1) ordered)) 0 → IsFirst o
      go [] sorted from to None first = λ id. none_of (get contents.texts id) (λ text some. to id (subst IsSome (sym some) refl))
      go [] sorted from to (Some row) first = absurd (cc)
      go (x ∷ xs) sorted from to None first = absurd (cc)
      go (x ∷ xs) sorted from to (Some row) first =
          let it = from x (inl refl) in
          let its : row ≡ x.1 = cc in (
            it.0,
            it.1,
            (λ other some. elim (to other some) [
              | inl same ↦ (let e : other ≡ it.0 = (let cells = ap (λ (y : Output). column y.0 0) (same ∙ it.2) in cc) in omega (arith, e))
              | inr later ↦ no_greater it.0 other (ap (λ y. is_gt (cmp y (out other))) (sym it.2) ∙ all_has (λ y. is_gt (cmp x y) ≡ false) xs (out other) (at_most cmp total x xs sorted) later)
            ]),
            its ∙ ap (λ (y : Output). y.1) it.2,
          )
