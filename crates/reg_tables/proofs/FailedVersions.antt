-- Why the INSERT of a text fails, and lemmas for the keys and the flags of versions.
use Rattle.std.proofs.Common.{arith, ◌≡◌, ◌≤◌, ◌/◌, not, length, ◌<◌, ◌^◌, inl, inr, ℕ, pos, List, [], ◌∷◌, lit≤, true, false, Bool, ◌&&◌, None, Some, Err, Option, refl, sym, ap, subst, ◌∙◌}
use Rattle.reg_tables.proofs.Kit.{get, int_cmp-IsAntisymmetric, is_eq, int_cmp, both_ways, lt-ltb, int_cmp_total, Value, Null, Int, Text, Row, rowid, Edit, edit_of, Chosen, stamped, value_rows, Binary, Compare, Or, Eq, State, ExecutesInside, Error, Has, some_has, all_from, put_all_keeps, Schema, Index, agree, is_true, is_false, from_truth, value_cmp-Text, value_cmp-Int}
use Rattle.sqlite.specs.Order.{column, value_cmp}
use Rattle.sqlite.specs.Listing.{understood}
use Rattle.sqlite_sql.specs.Ops.{binary}
use Rattle.sqlite_value.specs.Keys.{first_key}
use Rattle.sqlite_tied.specs.Compute.{everything}
use Rattle.reg_tables.specs.Layout.{five_tables_then, added_tables, texts}
use Rattle.reg_tables.specs.Contents.{text_cmp, version_cmp, version_key_cells, flag_cell, Contents, HoldsContents, TableName}
use Rattle.reg_tables.specs.FailedCalls.{IsPutFault}
use Rattle.reg_tables.specs.Inside.KeyedLaws.{IsKeyOrder}
use Rattle.reg_tables.proofs.MapLemmas.{same_key}
use Rattle.reg_tables.proofs.KeyedTables.{text_order, version_order, by_version_test, cast-Null, cast-Int}
use Rattle.reg_tables.proofs.Statements.{text_terms, put_text, put_text_is}
use Rattle.reg_tables.proofs.ForeignKeys.{has_version, more_texts, kept_refers}
use Rattle.reg_tables.proofs.WellDeclared.{IsWellDeclared}
use Rattle.reg_tables.proofs.UniqueLemmas.{on_columns}
use Rattle.reg_tables.proofs.TableFaults.{IsFree, insert_fails}

-- rows that agree on their text have the same text
text_agrees : (place : ℕ) (row r : Row) (t k : List ℕ) → column row place ≡ Text k → column r place ≡ Text t → agree (record { digits = 0 }) (place ∷ []) r (place ∷ []) row ≡ true → t ≡ k
unfolding first_key binary
text_agrees place row r t k its is same = same_key text_cmp text_order t k (sym (truth (is_eq (text_cmp t k))) ∙ (rw (its, is, value_cmp-Text t k) at same))
  where
    truth : (b : Bool) → (is_true (from_truth (Some b)) && true) ≡ b
    truth true = refl
    truth false = refl

-- rows that agree on a version's key have the same key
pub version_keys : (first : Value) (rest r : Row) (q k : List ℕ × ℕ) → column r 1 ∷ column r 2 ∷ [] ≡ version_key_cells q
    → agree (record { digits = 0 }) (1 ∷ 2 ∷ []) r (1 ∷ 2 ∷ []) (first ∷ Text k.0 ∷ Int (pos k.1) ∷ rest) ≡ true → q ≡ k
unfolding first_key
version_keys first rest r q k is same = same_key version_cmp version_order q k (sym (by_version_test r k q is) ∙ same)

-- a flag is 0 or 1
pub flag_passes : (b : Bool) → (not (is_false (binary Or (binary (Compare Eq Binary) (flag_cell b) (Int (pos 0))) (binary (Compare Eq Binary) (flag_cell b) (Int (pos 1))))) && true) ≡ true
unfolding binary value_cmp lib.Ieee.is_nan lib.Ieee.lt
flag_passes true = refl
flag_passes false = refl

numbers_apart : IsKeyOrder int_cmp
numbers_apart = record { total = int_cmp_total; antisymmetric = int_cmp-IsAntisymmetric }

module _ (first : ℕ) (indexes : List Index) (high : 10 ≤ first) (s : IsWellDeclared (five_tables_then (added_tables first) indexes)) (old new : State) (contents : Contents) (h : HoldsContents (five_tables_then (added_tables first) indexes) old.now contents) (e : Error) where
  abbrev here : Schema
  here = five_tables_then (added_tables first) indexes

  -- the rowid is the id, which is free
  pub put_text_fails : (id : ℕ) (text : List ℕ) → id < 2 ^ 32 → get contents.texts id ≡ None → ((other : ℕ) → get contents.texts other ≡ Some text → ⊥)
      → ExecutesInside 0 put_text (Int (pos id) ∷ Text text ∷ []) old new (Err e) → IsPutFault old new e
  unfolding understood everything
  put_text_fails id text low none unheld ran =
      let params : Row = Int (pos id) ∷ Text text ∷ [] in
      let row : Row = Int (pos id) ∷ Null ∷ Text text ∷ [] in
      let put : Edit = edit_of old.now.trees texts [] Chosen 0 (value_rows (stamped texts params) 3 (length text_terms / 3) text_terms) in
      let news : put.news ≡ row ∷ [] = rw (cast-Null, cast-Int (pos id)) in
      elim (insert_fails here s.apart 0 texts (s.at TableName.Texts) old new h.declared h.sound text_terms 3 params row put_text refl (put_text_is (added_tables first) indexes) (lit≤ tt, refl) refl news (record {
        keyed = refl;
        typed = refl;
        present = refl;
        checked = refl;
        free = all_from (IsFree texts (old.now.trees 0) row) indexes (λ i known on r was same.
            let entry = (h.shows TableName.Texts).sound r was in
            let its : column r 2 ≡ Text entry.1 = (let v = entry.3.1 in cc) in
            unheld entry.0 (entry.2 ∙ ap Some (text_agrees 2 row r entry.1 text refl its (on_columns indexes texts (2 ∷ []) (s.on TableName.Texts) i known on r row same))));
      }) (λ next applies.
      let kept : (x : Row) → Has (old.now.trees 0) x → Has (next 0) x = λ x was. subst (λ l. Has l x) (sym applies.rows) (put_all_keeps put.news (old.now.trees 0) x applies.fresh was) in
      let versions_same : next 2 ≡ old.now.trees 2 = applies.tables.1.0 (λ e. omega (arith, e)) in
      kept_refers first indexes texts.tree high (lit≤ tt) old.now.trees next applies.tables (more_texts (old.now.trees 0) (next 0) kept) (λ r had. subst (λ l. has_version l r ≡ true) (sym versions_same) had)
      (λ had r there. more_texts (old.now.trees 0) (next 0) kept 3 r (had r (subst (λ l. Has l r) versions_same there)))) e ran) [
        | inl fault ↦ inl (inl fault)
        | inr (inl large) ↦ inr large.0
        | inr (inr why) ↦ absurd (elim why.1 [
          | inl high ↦ both_ways _ high.1 (lt-ltb id (2 ^ 63) (omega arith))
          | inr taken ↦
              let r = some_has (λ x. is_eq (value_cmp (rowid x) (Int (pos id)))) (old.now.trees 0) taken.1 in
              let entry = (h.shows TableName.Texts).sound r.0 r.1 in
              let its : rowid r.0 ≡ Int (pos entry.0) = (let k = entry.3.0 in cc) in
              let tie : is_eq (int_cmp (pos entry.0) (pos id)) ≡ true = rw (its, value_cmp-Int (pos entry.0) (pos id)) at r.2 in
              let one : pos entry.0 ≡ pos id = same_key int_cmp numbers_apart (pos entry.0) (pos id) tie in
              let same : entry.0 ≡ id = cc in
              let both : ◌≡◌ {A = Option (List ℕ)} None (Some entry.1) = sym none ∙ ap (get contents.texts) (sym same) ∙ entry.2 in
              cc
        ])
      ]
