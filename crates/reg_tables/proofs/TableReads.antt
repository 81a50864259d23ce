-- What the lookup of a text's id says about the contents.
use Rattle.std.proofs.Common.{inl, ◌≡◌, ◌≢◌, ℕ, List, [], ◌∷◌, Option, None, Some, MatchOption, slice_get, refl, sym, ap, ◌∙◌}
use Rattle.reg_tables.proofs.Kit.{get, Text, Row, State, Shown, Schema, Has}
use Rattle.reg_tables.specs.Layout.{HasFiveTables}
use Rattle.reg_tables.specs.Contents.{text_cmp, Contents, number_cells, HoldsContents}
use Rattle.reg_tables.specs.Inside.Statements.{IsQuery}
use Rattle.reg_tables.proofs.KeyedTables.{text_order, by_text_test, shown_has, has_shown}
use Rattle.reg_tables.proofs.MapLemmas.{same_key, tied_key}
use Rattle.reg_tables.proofs.Tables.{five}
use Rattle.reg_tables.proofs.Statements.{laid_out, find_id, asks_id}

-- what is true of every returned row is true of the first; if no row is returned, `Q` is true
pub first_shown : (found : List Row) (P : Row → Type 0) (Q : Type 0) → ((x : Row) → Has found x → P x) → (((x : Row) → Has found x → ⊥) → Q) → (o : Option Row) → o ≡ slice_get found 0 → MatchOption o Q P
first_shown [] P Q some none None is = none (λ x there. there)
first_shown (r ∷ found) P Q some none None is = absurd (cc)
first_shown [] P Q some none (Some row) is = absurd (cc)
first_shown (r ∷ found) P Q some none (Some row) is = let same : row ≡ r = cc in some row (inl same)

module _ (old new : State) (schema : Schema) (contents : Contents) (h : HoldsContents schema old.now contents) (first : HasFiveTables schema) where
  laid : HasFiveTables old.now.schema
  laid = laid_out h first

  pub finds_id : (text : List ℕ) (found : List Row) (o : Option Row) → o ≡ slice_get found 0 → Shown find_id.sql (Text text ∷ []) old new found
      → MatchOption o ((id : ℕ) → get contents.texts id ≢ Some text) (λ row. (id : ℕ) × (get contents.texts id ≡ Some text) × (row ≡ number_cells id))
  finds_id text found o got shown = first_shown found _ _
      (λ x there.
      let r = shown_has find_id (Text text ∷ []) old new it found shown refl x there in
      let entry = (five h first).texts.sound r.0 r.1 in
      let same = same_key text_cmp text_order entry.1 text (sym (by_text_test r.0 text entry.1 entry.3.1) ∙ r.2) in
      (entry.0, entry.2 ∙ ap Some same, r.3 ∙ entry.3.0))
      (λ none id there.
      let r = (five h first).texts.complete id text there in
      none _ (has_shown find_id (Text text ∷ []) old new it found shown refl r.0 r.1 (by_text_test r.0 text text r.2.1 ∙ tied_key text_cmp text_order text text refl)))
      o got
    where
      it : IsQuery find_id old.now.schema
      it = (asks_id text).is old.now.schema laid
