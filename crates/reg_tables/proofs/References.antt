-- What UNIQUE and the foreign keys say about the contents: a text has one id, each version's id has a text, evidence belongs to a version, and ids in `against` have a text.
use Rattle.std.proofs.Common.{◌≡◌, ℕ, pos, List, [], ◌∷◌, ◌++◌, inl, inr, Some, true, codes, refl, sym, ap, subst, ◌∙◌}
use Rattle.reg_tables.proofs.Kit.{get, list_any, nat_cmp, or_cases, both_ways, Int, Text, Row, Trees, rowid, Schema, Database, ForeignKey, agree, has_null, has_parent, Refers, plain, value_cmp-Text, Has, test_has, some_has, keeps_at, IsSome, is_some, All, Index}
use Rattle.sqlite.specs.Order.{column}
use Rattle.sqlite_sql.specs.Ops.{binary}
use Rattle.sqlite_schema.specs.Names.{same_name}
use Rattle.sqlite_value.specs.Keys.{first_key, joined}
use Rattle.reg_tables.specs.Layout.{automatic_index, layout_one_unindexed, five_tables_then, texts, versions, to_texts, added_tables, HasEightTables}
use Rattle.reg_tables.specs.Contents.{text_cmp, text_cells, number_cells, VersionEntryView, Contents, HoldsContents, version_cmp, PositionKey, TableName}
use Rattle.reg_tables.specs.Inside.Statements.{by_id}
use Rattle.reg_tables.proofs.MapLemmas.{same_key, tied_key}
use Rattle.reg_tables.proofs.KeyedTables.{text_order, number_order, by_id_test, version_order}
use Rattle.reg_tables.proofs.Queries.{passes}
use Rattle.reg_tables.proofs.Tables.{ShowsFive, five}
use Rattle.reg_tables.proofs.UniqueKeys.{one_keys, same_number, one_rowid, HasFiveKeys, has_table, has_index}
use Rattle.reg_tables.proofs.Drops.{HasVersionKey, not_null}
use Rattle.reg_tables.proofs.Keys.{versions_tied}
use Rattle.reg_tables.proofs.ForeignKeys.{Refer, refer_if}

-- rows with the same text agree on it
texts_agree : (a b : Row) (text : List ℕ) → column a 2 ∷ [] ≡ text_cells text → column b 2 ∷ [] ≡ text_cells text → agree (record { digits = 0 }) (2 ∷ []) a (2 ∷ []) b ≡ true
unfolding binary first_key
texts_agree a b text here there =
    let of_a : column a 2 ≡ Text text = cc in
    let of_b : column b 2 ≡ Text text = cc in
    rw (of_a, of_b, value_cmp-Text text text, tied_key text_cmp text_order text text refl) refl

-- a version refers to the rowid of `texts`
parent_is : (db : Trees) (schema : Schema) → HasFiveKeys schema → (row : Row) (id : ℕ) → column row 3 ≡ Int (pos id) → has_parent schema.tables db row to_texts ≡ true
    → (parent : Row) × Has (db texts.tree) parent × (agree plain (0 ∷ []) parent (3 ∷ []) row ≡ true)
unfolding same_name joined
parent_is db schema known row id its held =
    let here : has_parent (five_tables_then known.tables (layout_one_unindexed.indexes ++ known.indexes)).tables db row to_texts ≡ true = subst (λ (s : Schema). has_parent s.tables db row to_texts ≡ true) known.is held in
    elim (or_cases (has_null (3 ∷ []) row) (list_any (λ parent. agree plain (0 ∷ []) parent (3 ∷ []) row) (db texts.tree)) here) [ inl null ↦ absurd (let none = rw its at null in cc) | inr some ↦ some_has (λ parent. agree plain (0 ∷ []) parent (3 ∷ []) row) (db texts.tree) some ]

-- the parent has the id that is in this column of the row
pub id_named : (place : ℕ) (parent row : Row) (id named : ℕ) → column parent 0 ∷ [] ≡ number_cells id → column row place ≡ Int (pos named) → agree plain (0 ∷ []) parent (place ∷ []) row ≡ true → id ≡ named
unfolding first_key
id_named place parent row id named is its same =
    let tie : passes by_id (Int (pos named) ∷ []) parent ≡ true = rw its at same in
    same_key nat_cmp number_order id named (sym (by_id_test parent named id is) ∙ tie)

module _ (schema : Schema) (db : Database) (contents : Contents) (known : HasFiveKeys schema) (holds : HoldsContents schema db contents) where
  shows : ShowsFive db contents
  shows = five holds (one_keys schema known)

  laid : HasFiveKeys db.schema
  laid = subst HasFiveKeys (sym holds.declared) known

  -- UNIQUE of texts.text
  pub one_id : (i j : ℕ) (text : List ℕ) → get contents.texts i ≡ Some text → get contents.texts j ≡ Some text → i ≡ j
  one_id i j text here there =
      let index = automatic_index (codes "sqlite_autoindex_texts_1") 0 (2 ∷ []) in
      let a = shows.texts.complete i text here in
      let b = shows.texts.complete j text there in
      let of_a : rowid a.0 ≡ Int (pos i) = (let e = a.2.0 in cc) in
      let of_b : rowid b.0 ≡ Int (pos j) = (let e = b.2.0 in cc) in
      let one = one_rowid db.schema db.trees holds.sound.obeys texts index (has_table db laid holds.sound texts (inl refl)) (has_index db laid holds.sound index (inl refl)) refl a.0 b.0 a.1 b.1 (texts_agree a.0 b.0 text a.2.1 b.2.1) in
      let same = same_number (pos i) (pos j) (rw (of_a, of_b) at one) in
      cc

  -- the foreign key of versions.id
  pub has_text : (key : List ℕ × ℕ) (version : VersionEntryView) → get contents.versions key ≡ Some version → (text : List ℕ) × (get contents.texts version.id ≡ Some text)
  has_text key version there =
      let row = shows.versions.complete key version there in
      let its : column row.0 3 ≡ Int (pos version.id) = (let e = row.2.1 in cc) in
      let passed = keeps_at ForeignKey db.schema db.trees versions row.0 (holds.sound.obeys.rules ForeignKey) (has_table db laid holds.sound versions (inr (inl refl))) row.1 in
      let parent = parent_is db.trees db.schema laid row.0 version.id its (test_has (has_parent db.schema.tables db.trees row.0) versions.references to_texts passed (inl refl)) in
      let entry = shows.texts.sound parent.0 parent.1 in
      (entry.1, ap (get contents.texts) (sym (id_named 3 parent.0 row.0 entry.0 version.id entry.3.0 its parent.2)) ∙ entry.2)

-- ---- evidence

module _ (first : ℕ) (indexes : List Index) (db : Database) (contents : Contents) (holds : HoldsContents (five_tables_then (added_tables first) indexes) db contents) where
  refer : Refer first db.trees
  refer = refer_if first indexes db.trees (subst (λ (s : Schema). Refers All s db.trees) holds.declared (holds.sound.obeys.rules ForeignKey))

  version_there : (key : List ℕ × ℕ) (level : List ℕ) → get contents.evidence key ≡ Some level → IsSome (get contents.versions key)
  version_there key level there =
      let row = (holds.shows TableName.Evidence).complete key level there in
      let its : HasVersionKey row.0 key = row.2.0 in
      elim (or_cases (has_null (1 ∷ 2 ∷ []) row.0) (list_any (λ parent. agree plain (1 ∷ 2 ∷ []) parent (1 ∷ 2 ∷ []) row.0) (db.trees 2)) (refer.evidence row.0 row.1)) [
        | inl null ↦ absurd (both_ways _ (not_null row.0 key its) null)
        | inr some ↦
            let parent = some_has (λ parent. agree plain (1 ∷ 2 ∷ []) parent (1 ∷ 2 ∷ []) row.0) (db.trees 2) some in
            let entry = (holds.shows TableName.Versions).sound parent.0 parent.1 in
            let same : entry.0 ≡ key = same_key version_cmp version_order entry.0 key (sym (versions_tied parent.0 row.0 entry.0 key entry.3.0 its) ∙ parent.2) in
            ap is_some (ap (get contents.versions) (sym same) ∙ entry.2)
      ]

  text_there : (place : PositionKey) (id : ℕ) → get contents.against place ≡ Some id → IsSome (get contents.texts id)
  text_there place id there =
      let row = (holds.shows TableName.Against).complete place id there in
      let its : column row.0 4 ≡ Int (pos id) = (let e = row.2.1 in cc) in
      elim (or_cases (has_null (4 ∷ []) row.0) (list_any (λ parent. agree plain (0 ∷ []) parent (4 ∷ []) row.0) (db.trees 0)) (refer.seen row.0 row.1)) [
        | inl null ↦ absurd (let none = rw its at null in cc)
        | inr some ↦
            let parent = some_has (λ parent. agree plain (0 ∷ []) parent (4 ∷ []) row.0) (db.trees 0) some in
            let entry = (holds.shows TableName.Texts).sound parent.0 parent.1 in
            ap is_some (ap (get contents.texts) (sym (id_named 4 parent.0 row.0 entry.0 id entry.3.0 its parent.2)) ∙ entry.2)
      ]

-- the foreign key of evidence
pub has_evidence_version : (schema : Schema) (db : Database) (contents : Contents) → HasEightTables schema → HoldsContents schema db contents → (key : List ℕ × ℕ) (level : List ℕ) → get contents.evidence key ≡ Some level
    → IsSome (get contents.versions key)
has_evidence_version schema db contents known = subst (λ s. HoldsContents s db contents → (key : List ℕ × ℕ) (level : List ℕ) → get contents.evidence key ≡ Some level → IsSome (get contents.versions key)) (sym known.is) (version_there known.first known.indexes db contents)

-- the foreign key of against.id
pub has_against_text : (schema : Schema) (db : Database) (contents : Contents) → HasEightTables schema → HoldsContents schema db contents → (place : PositionKey) (id : ℕ) → get contents.against place ≡ Some id → IsSome (get contents.texts id)
has_against_text schema db contents known = subst (λ s. HoldsContents s db contents → (place : PositionKey) (id : ℕ) → get contents.against place ≡ Some id → IsSome (get contents.texts id)) (sym known.is) (text_there known.first known.indexes db contents)
