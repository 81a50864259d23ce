-- What the query of the rows of `against` for a version returns.
use Rattle.std.proofs.Common.{◌≡◌, ◌&&◌, ℕ, pos, List, [], ◌∷◌, map, filter, lit≤, codes, Bool, true, false, Some, refl, sym, ap, subst, ◌∙◌}
use Rattle.reg_tables.proofs.Kit.{is_eq, IsPermutation, IsPermutation-map, map-map, Value, Null, Int, Real, Text, Blob, Binary, Row, eval_all, overlay, State, Shown, Has, Schema, is_true, from_truth, Compare, Eq}
use Rattle.sqlite.specs.Order.{column, value_cmp}
use Rattle.sqlite.specs.Listing.{understood}
use Rattle.sqlite_tied.specs.Compute.{everything}
use Rattle.sqlite_sql.specs.Ops.{binary}
use Rattle.reg_tables.specs.Layout.{HasEightTables}
use Rattle.reg_tables.specs.Contents.{version_cmp, version_key_cells, against_form, Against}
use Rattle.reg_tables.specs.Reads.{HoldsReadableIn}
use Rattle.reg_tables.specs.Listings.{against_entry, is_of, ListsAgainstOf, parts_of, entry_parts}
use Rattle.reg_tables.specs.declared.evidence.RawAgainst.{RawAgainst}
use Rattle.reg_tables.specs.Inside.ReadableRows.{IsReadableAgainst}
use Rattle.reg_tables.specs.Inside.Statements.{by_version, no_limit, TableQuery, IsQuery, Takes}
use Rattle.reg_tables.proofs.KeyedTables.{by_version_test, with_nothing, answered}
use Rattle.reg_tables.proofs.Queries.{passes, answer_has, answer_passing}
use Rattle.reg_tables.proofs.Faults.{Asks, asks}
use Rattle.reg_tables.proofs.TableLines.{tree_of, of_eight, against_shown, against_names, readable_against, ReadsBy, all_if_each}
use Rattle.reg_tables.proofs.Tables.{at_both}

abbrev pub ids_sql : List ℕ
ids_sql = codes "SELECT rowid, subject, version, position, id FROM against WHERE subject = ?1 AND version = ?2"

abbrev ids_query : Schema → TableQuery
ids_query schema = record { sql = ids_sql; tree = tree_of Against schema; tests = by_version; shown = against_shown; names = against_names; order = []; limit = no_limit }

abbrev pub of_version : List ℕ × ℕ → Row
of_version version = Text version.0 ∷ Int (pos version.1) ∷ []

ids_is : (schema : Schema) → HasEightTables schema → IsQuery (ids_query schema) schema
unfolding understood everything
ids_is = at_both (λ s. IsQuery (ids_query s) s) (λ indexes. record { command = record { is = refl; plain = (refl, refl) }; unlisted = refl }) (λ indexes. record { command = record { is = refl; plain = (refl, refl) }; unlisted = refl })

ids_takes : (version : List ℕ × ℕ) → (schema : Schema) → HasEightTables schema → Takes (ids_query schema) (of_version version) schema
unfolding understood everything
ids_takes version = at_both (λ s. Takes (ids_query s) (of_version version) s) (λ indexes. record { whole = (lit≤ tt, refl); typed = refl }) (λ indexes. record { whole = (lit≤ tt, refl); typed = refl })

-- ---- a row passes if its columns equal the parameters

truth : (b : Bool) → is_true (from_truth (Some b)) ≡ b
truth true = refl
truth false = refl

same_text : (v : Value) (text : List ℕ) → is_true (binary (Compare Eq Binary) v (Text text)) ≡ is_eq (value_cmp v (Text text))
unfolding binary value_cmp
same_text Null text = refl
same_text (Int i) text = truth _
same_text (Real x) text = truth _
same_text (Text t) text = truth _
same_text (Blob b) text = truth _

same_number : (v : Value) (n : ℕ) → is_true (binary (Compare Eq Binary) v (Int (pos n))) ≡ is_eq (value_cmp v (Int (pos n)))
unfolding binary value_cmp
same_number Null n = refl
same_number (Int i) n = truth _
same_number (Real x) n = truth _
same_number (Text t) n = truth _
same_number (Blob b) n = truth _

last : (b : Bool) → (b && true) ≡ b
last true = refl
last false = refl

module _ (version : List ℕ × ℕ) where
  by_columns : (row : Row) → passes by_version (of_version version) row ≡ is_of version row
  by_columns row =
      (λ i. same_text (column row 1) version.0 i && (same_number (column row 2) version.1 i && true)) ∙ ap (λ b. is_eq (value_cmp (column row 1) (Text version.0)) && b) (last (is_eq (value_cmp (column row 2) (Int (pos version.1)))))

  -- a row belongs to the version if its subject and number are the version's
  pub is_of_told : (row : Row) (other : List ℕ × ℕ) → column row 1 ∷ column row 2 ∷ [] ≡ version_key_cells other → is_of version row ≡ is_eq (version_cmp other version)
  is_of_told row other is = sym (by_columns row) ∙ by_version_test row version other is

  pub asks_ids : (schema : Schema) → HasEightTables schema → Asks ids_sql (of_version version) schema
  asks_ids schema known = asks (ids_query schema) (of_version version) schema (ids_is schema known) (ids_takes version schema known)

  pub reads_ids : (old new : State) → HoldsReadableIn HasEightTables old.now → ReadsBy ids_sql (of_version version) IsReadableAgainst old new
  reads_ids old new there =
      let known = of_eight old.now there in
      let tree = tree_of Against old.now.schema in (
        asks_ids old.now.schema known,
        λ found h. all_if_each IsReadableAgainst found (λ x has.
            let r = answer_has by_version (of_version version) tree against_shown (overlay old.now.trees []) found (answered (ids_query old.now.schema) (of_version version) old new (ids_is old.now.schema known) found h) x has in
            subst IsReadableAgainst (sym r.3) (readable_against old.now there r.0 (subst (λ l. Has l r.0) (with_nothing old.now.trees tree) r.1))),
      )

  pub lists_ids : (old new : State) (lines : List RawAgainst) (found : List Row) → Shown ids_sql (of_version version) old new found → map (parts_of against_form) found ≡ map (λ line. entry_parts against_form (against_entry line)) lines
      → HasEightTables old.now.schema → ListsAgainstOf version old.now lines
  lists_ids old new lines found h read known =
      let tree = tree_of Against old.now.schema in
      let params = of_version version in
      let show = λ (row : Row). eval_all against_shown (params ∷ row ∷ []) in
      let parts = parts_of against_form in
      let rows = old.now.trees tree in
      let some : IsPermutation (map show (filter (passes by_version params) rows)) found =
      subst (λ l. IsPermutation (map show (filter (passes by_version params) l)) found) (with_nothing old.now.trees tree) (answer_passing by_version params tree against_shown (overlay old.now.trees []) found (answered (ids_query old.now.schema) params old new (ids_is old.now.schema known) found h)) in
      let its : IsPermutation (map show (filter (is_of version) rows)) found = subst (λ (p : Row → Bool). IsPermutation (map show (filter p rows)) found) (λ i row. by_columns row i) some in
      subst (IsPermutation (map parts (filter (is_of version) rows))) (read ∙ sym (map-map (entry_parts against_form) against_entry lines))
      (subst (λ l. IsPermutation l (map parts found)) (map-map parts show (filter (is_of version) rows)) (IsPermutation-map parts (map show (filter (is_of version) rows)) found its))
