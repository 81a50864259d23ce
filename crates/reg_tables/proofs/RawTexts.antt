-- What the queries of parts of `texts` return: the ids of all rows, or the rows in a range of ids.
use Rattle.std.proofs.Common.{◌≡◌, ◌&&◌, ℕ, pos, List, [], ◌∷◌, map, filter, All, Bool, true, false, not, Some, refl, sym, ap, subst, ◌∙◌, Ordering, Less, Equal, Greater}
use Rattle.reg_tables.proofs.Kit.{is_lt, is_gt, is_le, is_ge, nat_cmp, IsPermutation, IsPermutation-map, map-map, Value, Null, Int, Real, Text, Blob, Row, rowid, eval_all, IsAnswer, overlay, State, Shown, Has, is_true, from_truth, value_cmp-Int}
use Rattle.sqlite.specs.Order.{column, value_cmp}
use Rattle.sqlite_sql.specs.Ops.{binary}
use Rattle.reg_tables.specs.declared.raw_texts.RawText.{RawText}
use Rattle.reg_tables.specs.Layout.{HasFiveTables}
use Rattle.reg_tables.specs.Reads.{HoldsReadable}
use Rattle.reg_tables.specs.Contents.{text_form}
use Rattle.reg_tables.specs.Listings.{parts_of, entry_parts, text_entry, ListsTextIds, ListsTextsBetween, is_between}
use Rattle.reg_tables.specs.Inside.ReadableRows.{IsReadableId, IsReadableText}
use Rattle.reg_tables.specs.Inside.Statements.{plain_query}
use Rattle.reg_tables.proofs.Queries.{passes, answer_has, answer_all, answer_passing}
use Rattle.reg_tables.proofs.KeyedTables.{int_order, with_nothing, answered}
use Rattle.reg_tables.proofs.Statements.{laid_out, all_ids, asks_all_ids, by_range, texts_between, asks_between}
use Rattle.reg_tables.proofs.ReadableRows.{readable_text}
use Rattle.reg_tables.proofs.TableLines.{all_if_each}

-- whether a row with this id is in the range
pub between_tests : (low high id : ℕ) (row : Row) → rowid row ≡ Int (pos id) → is_between low high row ≡ (not (is_lt (nat_cmp id low)) && not (is_gt (nat_cmp id high)))
between_tests low high id row is = rw (is, value_cmp-Int (pos id) (pos low), value_cmp-Int (pos id) (pos high), int_order id low, int_order id high) refl

module _ (old new : State) (found : List Row) where
  -- ---- all ids

  module _ (h : Shown all_ids.sql [] old new found) where
    ids_answer : HasFiveTables old.now.schema → IsAnswer (plain_query 0 [] all_ids.shown) (overlay old.now.trees []) [] found
    ids_answer laid = answered all_ids [] old new (asks_all_ids.is old.now.schema laid) found h

    pub lists_ids : (ids : List ℕ) → map (λ (row : Row). column row 0) found ≡ map (λ id. Int (pos id)) ids → HasFiveTables old.now.schema → ListsTextIds old.now ids
    lists_ids ids read laid =
        let show = λ (row : Row). eval_all all_ids.shown ([] ∷ row ∷ []) in
        let rows = old.now.trees 0 in
        let first = λ (row : Row). column row 0 in
        let all : IsPermutation (map show rows) found = subst (λ l. IsPermutation (map show l) found) (with_nothing old.now.trees 0) (answer_all [] 0 all_ids.shown (overlay old.now.trees []) found (ids_answer laid)) in
        subst (IsPermutation (map rowid rows)) read (subst (λ l. IsPermutation l (map first found)) (map-map first show rows) (IsPermutation-map first (map show rows) found all))

    pub readable_ids : HoldsReadable old.now → All IsReadableId found
    readable_ids there = all_if_each IsReadableId found (λ x has.
        let r = answer_has [] [] 0 all_ids.shown (overlay old.now.trees []) found (ids_answer (laid_out there.holds there.known)) x has in
        let it = readable_text old.now there r.0 (subst (λ l. Has l r.0) (with_nothing old.now.trees 0) r.1) in
        subst IsReadableId (sym r.3) (record { id = it.id; is = ap (λ (row : Row). column row 0 ∷ []) it.is; low = it.low }))

  -- ---- a range of ids

  module _ (low high : ℕ) where
    abbrev range : Row
    range = Int (pos low) ∷ Int (pos high) ∷ []

    -- a row passes if its rowid is in the range
    in_range : (row : Row) → passes by_range range row ≡ is_between low high row
    unfolding binary value_cmp
    in_range row = by_value (rowid row)
      where
        at_least : (o : Ordering) → is_true (from_truth (Some (is_ge o))) ≡ not (is_lt o)
        at_least Less = refl
        at_least Equal = refl
        at_least Greater = refl

        at_most : (o : Ordering) → is_true (from_truth (Some (is_le o))) ≡ not (is_gt o)
        at_most Less = refl
        at_most Equal = refl
        at_most Greater = refl

        last : (b : Bool) → (b && true) ≡ b
        last true = refl
        last false = refl

        both_tests : (v : Value) → (is_true (from_truth (Some (is_ge (value_cmp v (Int (pos low)))))) && (is_true (from_truth (Some (is_le (value_cmp v (Int (pos high)))))) && true)) ≡ (not (is_lt (value_cmp v (Int (pos low)))) && not (is_gt (value_cmp v (Int (pos high)))))
        both_tests v = rw (at_least (value_cmp v (Int (pos low))), at_most (value_cmp v (Int (pos high)))) (ap (λ b. not (is_lt (value_cmp v (Int (pos low)))) && b) (last (not (is_gt (value_cmp v (Int (pos high)))))))

        by_value : (v : Value) → passes by_range range (v ∷ []) ≡ is_between low high (v ∷ [])
        by_value Null = refl
        by_value (Int i) = both_tests (Int i)
        by_value (Real x) = both_tests (Real x)
        by_value (Text t) = both_tests (Text t)
        by_value (Blob b) = both_tests (Blob b)

    module _ (h : Shown texts_between.sql range old new found) where
      between_answer : HasFiveTables old.now.schema → IsAnswer (plain_query 0 by_range texts_between.shown) (overlay old.now.trees []) range found
      between_answer laid = answered texts_between range old new ((asks_between low high).is old.now.schema laid) found h

      pub lists_between : (lines : List RawText) → map (parts_of text_form) found ≡ map (λ line. entry_parts text_form (text_entry line)) lines → HasFiveTables old.now.schema → ListsTextsBetween low high old.now lines
      lists_between lines read laid =
          let show = λ (row : Row). eval_all texts_between.shown (range ∷ row ∷ []) in
          let rows = old.now.trees 0 in
          let parts = parts_of text_form in
          let some : IsPermutation (map show (filter (passes by_range range) rows)) found =
          subst (λ l. IsPermutation (map show (filter (passes by_range range) l)) found) (with_nothing old.now.trees 0) (answer_passing by_range range 0 texts_between.shown (overlay old.now.trees []) found (between_answer laid)) in
          let between : IsPermutation (map show (filter (is_between low high) rows)) found = subst (λ (p : Row → Bool). IsPermutation (map show (filter p rows)) found) (λ i row. in_range row i) some in
          subst (IsPermutation (map parts (filter (is_between low high) rows))) (read ∙ sym (map-map (entry_parts text_form) text_entry lines))
          (subst (λ l. IsPermutation l (map parts found)) (map-map parts show (filter (is_between low high) rows)) (IsPermutation-map parts (map show (filter (is_between low high) rows)) found between))

      pub readable_between : HoldsReadable old.now → All IsReadableText found
      readable_between there = all_if_each IsReadableText found (λ x has.
          let r = answer_has by_range range 0 texts_between.shown (overlay old.now.trees []) found (between_answer (laid_out there.holds there.known)) x has in
          subst IsReadableText (sym r.3) (readable_text old.now there r.0 (subst (λ l. Has l r.0) (with_nothing old.now.trees 0) r.1)))
