-- What the foreign keys of layout 2 require of the rows.
use Rattle.std.proofs.Common.{◌≡◌, ◌≢◌, ◌≤◌, inl, inr, ℕ, ◌+◌, arith, List, [], ◌∷◌, Bool, true, refl, sym, subst, ◌||◌, ◌&&◌}
use Rattle.reg_tables.proofs.Kit.{AllByRecursion, list_any, and_from, and_parts, or_cases, or_left, or_right, Row, Trees, All, Index, agree, has_null, Refers, plain, Has, all_has, all_from, some_has, some_from}
use Rattle.sqlite_schema.specs.Names.{same_name}
use Rattle.sqlite_value.specs.Keys.{joined}
use Rattle.reg_tables.specs.Layout.{five_tables_then, added_tables}
use Rattle.reg_tables.specs.Inside.KeyedLaws.{KeepsOthers}

-- the value in this column is NULL or the id of a text
abbrev pub has_text_at : ℕ → List Row → Row → Bool
has_text_at place parents row = has_null (place ∷ []) row || list_any (λ parent. agree plain (0 ∷ []) parent (place ∷ []) row) parents

-- one of the first two columns is NULL, or they are the key of a version
abbrev pub has_version : List Row → Row → Bool
has_version parents row = has_null (1 ∷ 2 ∷ []) row || list_any (λ parent. agree plain (1 ∷ 2 ∷ []) parent (1 ∷ 2 ∷ []) row) parents

-- a reference to a version stays valid if each old parent has a replacement among the new ones
pub more_versions : (old new : List Row) (row : Row) → ((s : Row) → Has old s → agree plain (1 ∷ 2 ∷ []) s (1 ∷ 2 ∷ []) row ≡ true → (t : Row) × Has new t × (agree plain (1 ∷ 2 ∷ []) t (1 ∷ 2 ∷ []) row ≡ true))
    → has_version old row ≡ true → has_version new row ≡ true
more_versions old new row kept had = elim (or_cases _ _ had) [
  | inl null ↦ or_left _ _ null
  | inr some ↦
      let s = some_has (λ parent. agree plain (1 ∷ 2 ∷ []) parent (1 ∷ 2 ∷ []) row) old some in
      let t = kept s.0 s.1 s.2 in
      or_right _ _ (some_from (λ parent. agree plain (1 ∷ 2 ∷ []) parent (1 ∷ 2 ∷ []) row) new t.0 t.1 t.2)
]

-- a reference to a text stays valid if no text is removed
pub more_texts : (old new : List Row) → ((r : Row) → Has old r → Has new r) → (place : ℕ) (row : Row) → has_text_at place old row ≡ true → has_text_at place new row ≡ true
more_texts old new kept place row had = elim (or_cases _ _ had) [
  | inl null ↦ or_left _ _ null
  | inr some ↦ let r = some_has (λ parent. agree plain (0 ∷ []) parent (place ∷ []) row) old some in or_right _ _ (some_from (λ parent. agree plain (0 ∷ []) parent (place ∷ []) row) new r.0 (kept r.0 r.1) r.2)
]

pub record Refer (first : ℕ) (db : Trees) : Type 0 where
  pub versions : (r : Row) → Has (db 2) r → has_text_at 3 (db 0) r ≡ true
  pub evidence : (r : Row) → Has (db (first + 2)) r → has_version (db 2) r ≡ true
  pub places : (r : Row) → Has (db (first + 4)) r → has_version (db 2) r ≡ true
  pub seen : (r : Row) → Has (db (first + 4)) r → has_text_at 4 (db 0) r ≡ true

module _ (first : ℕ) (indexes : List Index) where
  pub refer_if : (db : Trees) → Refers All (five_tables_then (added_tables first) indexes) db → Refer first db
  unfolding same_name joined
  refer_if db h =
      let of_versions : AllByRecursion (λ row. (has_text_at 3 (db 0) row && true) ≡ true) (db 2) = h.1.0 in
      let of_evidence : AllByRecursion (λ row. (has_version (db 2) row && true) ≡ true) (db (first + 2)) = h.1.1.1.1.1.1.0 in
      let of_positions : AllByRecursion (λ row. (has_text_at 4 (db 0) row && (has_version (db 2) row && true)) ≡ true) (db (first + 4)) = h.1.1.1.1.1.1.1.0 in
      record {
        versions = λ r there. (and_parts _ _ (all_has (λ row. (has_text_at 3 (db 0) row && true) ≡ true) (db 2) r of_versions there)).0;
        evidence = λ r there. (and_parts _ _ (all_has (λ row. (has_version (db 2) row && true) ≡ true) (db (first + 2)) r of_evidence there)).0;
        places = λ r there. (and_parts _ _ (and_parts _ _ (all_has (λ row. (has_text_at 4 (db 0) row && (has_version (db 2) row && true)) ≡ true) (db (first + 4)) r of_positions there)).1).0;
        seen = λ r there. (and_parts _ _ (all_has (λ row. (has_text_at 4 (db 0) row && (has_version (db 2) row && true)) ≡ true) (db (first + 4)) r of_positions there)).0;
      }

  pub refers_if : (db : Trees) → Refer first db → Refers All (five_tables_then (added_tables first) indexes) db
  unfolding same_name joined
  refers_if db h =
      let of_versions : AllByRecursion (λ row. (has_text_at 3 (db 0) row && true) ≡ true) (db 2) = all_from _ (db 2) (λ r there. and_from _ _ (h.versions r there) refl) in
      let of_evidence : AllByRecursion (λ row. (has_version (db 2) row && true) ≡ true) (db (first + 2)) = all_from _ (db (first + 2)) (λ r there. and_from _ _ (h.evidence r there) refl) in
      let of_positions : AllByRecursion (λ row. (has_text_at 4 (db 0) row && (has_version (db 2) row && true)) ≡ true) (db (first + 4)) =
      all_from _ (db (first + 4)) (λ r there. and_from _ _ (h.seen r there) (and_from _ _ (h.places r there) refl)) in
      (each (db 0), (of_versions, (each (db 4), (each (db 6), (each (db 8), (each (db first), (of_evidence, (of_positions, tt))))))))
    where
      each : (rows : List Row) → AllByRecursion (λ (row : Row). true ≡ true) rows
      each [] = tt
      each (row ∷ rows) = (refl, each rows)

  -- a write to one of the five tables breaks no reference if each parent is still there or has a replacement
  pub kept_refers : (tree : ℕ) → 10 ≤ first → tree ≤ 9 → (old new : Trees) → KeepsOthers (five_tables_then (added_tables first) indexes) tree old new → ((place : ℕ) (row : Row) → has_text_at place (old 0) row ≡ true → has_text_at place (new 0) row ≡ true)
      → ((row : Row) → has_version (old 2) row ≡ true → has_version (new 2) row ≡ true)
      → (((row : Row) → Has (old 2) row → has_text_at 3 (old 0) row ≡ true) → (row : Row) → Has (new 2) row → has_text_at 3 (new 0) row ≡ true) → Refers All (five_tables_then (added_tables first) indexes) old → Refers All (five_tables_then (added_tables first) indexes) new
  kept_refers tree high low old new others of_texts of_versions rows h =
      let had = refer_if old h in
      let evidence : new (first + 2) ≡ old (first + 2) = others.1.1.1.1.1.1.0 (λ e. omega (arith, e, low, high)) in
      let against : new (first + 4) ≡ old (first + 4) = others.1.1.1.1.1.1.1.0 (λ e. omega (arith, e, low, high)) in
      refers_if new (record {
        versions = rows had.versions;
        evidence = λ r there. of_versions r (had.evidence r (subst (λ l. Has l r) evidence there));
        places = λ r there. of_versions r (had.places r (subst (λ l. Has l r) against there));
        seen = λ r there. of_texts 4 r (had.seen r (subst (λ l. Has l r) against there));
      })

  -- a write to a table without references in either direction breaks no reference
  pub beside_refers : (tree : ℕ) → 0 ≢ tree → 2 ≢ tree → first + 2 ≢ tree → first + 4 ≢ tree → (old new : Trees) → KeepsOthers (five_tables_then (added_tables first) indexes) tree old new → Refers All (five_tables_then (added_tables first) indexes) old → Refers All (five_tables_then (added_tables first) indexes) new
  beside_refers tree not_texts not_versions not_evidence not_against old new same h =
      let had = refer_if old h in
      let texts : new 0 ≡ old 0 = same.0 not_texts in
      let versions : new 2 ≡ old 2 = same.1.0 not_versions in
      let evidence : new (first + 2) ≡ old (first + 2) = same.1.1.1.1.1.1.0 not_evidence in
      let against : new (first + 4) ≡ old (first + 4) = same.1.1.1.1.1.1.1.0 not_against in
      refers_if new (record {
        versions = λ r there. subst (λ l. has_text_at 3 l r ≡ true) (sym texts) (had.versions r (subst (λ l. Has l r) versions there));
        evidence = λ r there. subst (λ l. has_version l r ≡ true) (sym versions) (had.evidence r (subst (λ l. Has l r) evidence there));
        places = λ r there. subst (λ l. has_version l r ≡ true) (sym versions) (had.places r (subst (λ l. Has l r) against there));
        seen = λ r there. subst (λ l. has_text_at 4 l r ≡ true) (sym texts) (had.seen r (subst (λ l. Has l r) against there));
      })
