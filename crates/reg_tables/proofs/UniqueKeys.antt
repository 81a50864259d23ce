-- SQLite keeps a table's keys distinct, so only the rowids remain to be compared.
use Rattle.std.proofs.Common.{◌≡◌, inl, inr, ℕ, ℤ, pos, List, [], ◌∷◌, ◌++◌, map, Some, true, false, codes, Ordering, Less, Equal, Greater, refl, sym, ap, subst, ◌∙◌}
use Rattle.reg_tables.proofs.Kit.{is_ne, int_cmp, nat_cmp, eq_by_cmp, IsDistinct, int_cmp-IsAntisymmetric, both_ways, and_from, not-true, false_from_ne_true, Int, Row, Trees, rowid, Table, Schema, Database, IsDatabase, is_true, from_truth, Index, Unique, agree, differ, guards, Obeys, value_cmp-Int, Has, test_has, some_from, keeps_at}
use Rattle.sqlite_sql.specs.Ops.{binary}
use Rattle.reg_tables.specs.Contents.{text_cmp, version_cmp, position_cmp, TableName, KeyOf, ValueOf, cmp_of, form_of, table_in}
use Rattle.reg_tables.specs.Layout.{HasFiveTables, automatic_index, versions_of_id, layout_one, layout_one_unindexed, five_tables_then, IsLayoutOne, versions, levels, kept, meta, added_tables, added_indexes, layout_two, layout_two_indexed_last, layout_two_unindexed, IsOpenable}
use Rattle.reg_tables.specs.Listings.{RowParts, Lists, HasNoDuplicates, text_entry, version_entry, level_entry, kept_entry, meta_entry, mode_entry, evidence_entry, against_entry, ListsVersions, ListsLevels, ListsKept, ListsMeta, ListsModes, ListsEvidence, ListsAgainst}
use Rattle.reg_tables.specs.declared.modes.RawMode.{RawMode}
use Rattle.reg_tables.specs.declared.evidence.RawEvidence.{RawEvidence}
use Rattle.reg_tables.specs.declared.evidence.RawAgainst.{RawAgainst}
use Rattle.reg_tables.specs.declared.raw_texts.RawText.{RawText}
use Rattle.reg_tables.specs.declared.versions.RawVersion.{RawVersion}
use Rattle.reg_tables.specs.declared.levels.RawLevel.{RawLevel}
use Rattle.reg_tables.specs.declared.kept.RawKept.{RawKept}
use Rattle.reg_tables.specs.declared.meta.RawMeta.{RawMeta}
use Rattle.reg_tables.proofs.KeyedTables.{number_order}
use Rattle.reg_tables.proofs.Keys.{key_columns, key_laws, keys_agree}
use Rattle.reg_tables.proofs.ListingLemmas.{stored, keys_distinct}
use Rattle.reg_tables.proofs.ListMembers.{has_mapped, has_front, has_at}

-- rowids that don't differ are equal
pub same_number : (i j : ℤ) → differ (Int i) (Int j) ≡ false → i ≡ j
unfolding binary
same_number i j h = go (int_cmp i j) refl (rw (value_cmp-Int i j) at h)
  where
    go : (o : Ordering) → int_cmp i j ≡ o → is_true (from_truth (Some (is_ne o))) ≡ false → i ≡ j
    go Less e apart = absurd (cc)
    go Equal e apart = int_cmp-IsAntisymmetric i j e
    go Greater e apart = absurd (cc)

-- two rows with the same key have the same rowid
pub one_rowid : (schema : Schema) (db : Trees) → Obeys schema db → (table : Table) (index : Index) → Has schema.tables table → Has schema.indexes index → guards index table ≡ true
    → (a b : Row) → Has (db table.tree) a → Has (db table.tree) b → agree index.order index.columns a index.columns b ≡ true → differ (rowid a) (rowid b) ≡ false
one_rowid schema db obeys table index listed indexed guarded a b here there same = false_from_ne_true _ (λ apart.
    both_ways _ (not-true _ (test_has _ schema.indexes index (keeps_at Unique schema db table b (obeys.rules Unique) listed there) indexed))
    (and_from _ _ guarded (some_from _ _ a here (and_from _ _ same apart))))

-- the rowids of the entries are those of the rows
pub rowids_of : {L K V : Type 0} (entry : L → ℤ × K × V) (rowid_of : L → ℤ) → ((l : L) → (entry l).0 ≡ rowid_of l) → (ls : List L) → map (λ (e : ℤ × K × V). e.0) (map entry ls) ≡ map rowid_of ls
rowids_of entry rowid_of same [] = refl
rowids_of entry rowid_of same (l ∷ ls) = λ i. same l i ∷ rowids_of entry rowid_of same ls i

-- so the keys are distinct if the rowids are
module _ (db : Database) (sound : IsDatabase db) (name : TableName) (table : Table) (index_name : List ℕ) (listed : Has db.schema.tables table) (indexed : Has db.schema.indexes (automatic_index index_name table.tree (key_columns name)))
    (guarded : guards (automatic_index index_name table.tree (key_columns name)) table ≡ true) {L : Type 0} (entry : L → ℤ × KeyOf name × ValueOf name) (rowid_of : L → ℤ) (same : (l : L) → (entry l).0 ≡ rowid_of l) (lines : List L) where
  abbrev es : List (ℤ × KeyOf name × ValueOf name)
  es = map entry lines

  pub apart_by_key : Lists (form_of name) (db.trees table.tree) es → IsDistinct (eq_by_cmp int_cmp) (map rowid_of lines) → HasNoDuplicates (cmp_of name) es
  apart_by_key lists distinct = record { rowids = ids; keys = keys_distinct (cmp_of name) (key_laws name).order es one_id ids }
    where
      ids : IsDistinct (eq_by_cmp int_cmp) (map (λ (e : ℤ × KeyOf name × ValueOf name). e.0) es)
      ids = subst (IsDistinct (eq_by_cmp int_cmp)) (sym (rowids_of entry rowid_of same lines)) distinct

      one_id : (e f : ℤ × KeyOf name × ValueOf name) → Has es e → Has es f → e.1 ≡ f.1 → e.0 ≡ f.0
      one_id e f here there same =
          let a = stored (form_of name) (cmp_of name) (key_laws name).order (key_laws name).distinct (db.trees table.tree) es lists e here in
          let b = stored (form_of name) (cmp_of name) (key_laws name).order (key_laws name).distinct (db.trees table.tree) es lists f there in
          let key_a = sym (ap (λ (p : RowParts). p.1) a.2) in
          let key_b = sym (ap (λ (p : RowParts). p.1) b.2) ∙ ap (form_of name).key_cells (sym same) in
          let one = one_rowid db.schema db.trees sound.obeys table (automatic_index index_name table.tree (key_columns name)) listed indexed guarded a.0 b.0 a.1 b.1 (keys_agree name a.0 b.0 e.1 key_a key_b) in
          same_number e.0 f.0 (ap (λ v. differ v (Int f.0)) (ap (λ (p : RowParts). p.0) a.2) ∙ ap (differ (rowid a.0)) (ap (λ (p : RowParts). p.0) b.2) ∙ one)

pub apart_by_id : (lines : List RawText) → IsDistinct (eq_by_cmp int_cmp) (map (λ (line : RawText). pos line.id) lines) → HasNoDuplicates nat_cmp (map text_entry lines)
apart_by_id lines ids = record { rowids = moved; keys = keys_distinct nat_cmp number_order (map text_entry lines) one_id moved }
  where
    ids_are : (ls : List RawText) → map (λ (e : ℤ × ℕ × List ℕ). e.0) (map text_entry ls) ≡ map (λ (line : RawText). pos line.id) ls
    ids_are [] = refl
    ids_are (l ∷ ls) = ap (λ r. pos l.id ∷ r) (ids_are ls)

    moved : IsDistinct (eq_by_cmp int_cmp) (map (λ (e : ℤ × ℕ × List ℕ). e.0) (map text_entry lines))
    moved = subst (IsDistinct (eq_by_cmp int_cmp)) (sym (ids_are lines)) ids

    one_id : (e f : ℤ × ℕ × List ℕ) → Has (map text_entry lines) e → Has (map text_entry lines) f → e.1 ≡ f.1 → e.0 ≡ f.0
    one_id e f here there same =
        let a = has_mapped text_entry lines e here in
        let b = has_mapped text_entry lines f there in
        ap (λ (x : ℤ × ℕ × List ℕ). x.0) a.2 ∙ ap pos (sym (ap (λ (x : ℤ × ℕ × List ℕ). x.1) a.2) ∙ same ∙ ap (λ (x : ℤ × ℕ × List ℕ). x.1) b.2) ∙ sym (ap (λ (x : ℤ × ℕ × List ℕ). x.0) b.2)

-- ---- the tables of the layouts

-- the schema begins with the five tables and the indexes of their keys
pub record HasFiveKeys (schema : Schema) : Type 0 where
  pub tables : List Table
  pub indexes : List Index
  pub is : schema ≡ five_tables_then tables (layout_one_unindexed.indexes ++ indexes)

pub one_keys : (schema : Schema) → HasFiveKeys schema → HasFiveTables schema
one_keys schema known = record { tables = known.tables; indexes = layout_one_unindexed.indexes ++ known.indexes; is = known.is }

pub layout_keys : (schema : Schema) → IsLayoutOne schema → HasFiveKeys schema
layout_keys schema (inl is) = record { tables = []; indexes = versions_of_id ∷ []; is = is }
layout_keys schema (inr is) = record { tables = []; indexes = []; is = is }

pub two_keys : (schema : Schema) → IsOpenable schema → HasFiveKeys schema
two_keys schema (inl (inl is)) = record { tables = added_tables 11; indexes = versions_of_id ∷ added_indexes 11; is = is }
two_keys schema (inl (inr is)) = record { tables = added_tables 10; indexes = added_indexes 10 ++ (record versions_of_id { tree = 16 }) ∷ []; is = is }
two_keys schema (inr is) = record { tables = added_tables 10; indexes = added_indexes 10; is = is }

module _ (db : Database) (known : HasFiveKeys db.schema) (sound : IsDatabase db) where
  -- one of the five tables, and its index
  pub has_table : (table : Table) → Has layout_one.tables table → Has db.schema.tables table
  has_table table here = subst (λ (s : Schema). Has s.tables table) (sym known.is) (has_front layout_one.tables known.tables table here)

  pub has_index : (index : Index) → Has layout_one_unindexed.indexes index → Has db.schema.indexes index
  has_index index here = subst (λ (s : Schema). Has s.indexes index) (sym known.is) (has_front layout_one_unindexed.indexes known.indexes index here)

  pub versions_apart : (lines : List RawVersion) → ListsVersions db lines → IsDistinct (eq_by_cmp int_cmp) (map (λ (l : RawVersion). l.rowid) lines) → HasNoDuplicates version_cmp (map version_entry lines)
  versions_apart = apart_by_key db sound TableName.Versions versions (codes "sqlite_autoindex_versions_1") (has_table versions (inr (inl refl))) (has_index _ (inr (inl refl))) refl version_entry (λ (l : RawVersion). l.rowid) (λ l. refl)

  pub levels_apart : (lines : List RawLevel) → ListsLevels db lines → IsDistinct (eq_by_cmp int_cmp) (map (λ (l : RawLevel). l.rowid) lines) → HasNoDuplicates text_cmp (map level_entry lines)
  levels_apart = apart_by_key db sound TableName.Levels levels (codes "sqlite_autoindex_levels_1") (has_table levels (inr (inr (inl refl)))) (has_index _ (inr (inr (inl refl)))) refl level_entry (λ (l : RawLevel). l.rowid) (λ l. refl)

  pub kept_apart : (lines : List RawKept) → ListsKept db lines → IsDistinct (eq_by_cmp int_cmp) (map (λ (l : RawKept). l.rowid) lines) → HasNoDuplicates text_cmp (map kept_entry lines)
  kept_apart = apart_by_key db sound TableName.Kept kept (codes "sqlite_autoindex_kept_1") (has_table kept (inr (inr (inr (inl refl))))) (has_index _ (inr (inr (inr (inl refl))))) refl kept_entry (λ (l : RawKept). l.rowid) (λ l. refl)

  pub meta_apart : (lines : List RawMeta) → ListsMeta db lines → IsDistinct (eq_by_cmp int_cmp) (map (λ (l : RawMeta). l.rowid) lines) → HasNoDuplicates text_cmp (map meta_entry lines)
  meta_apart = apart_by_key db sound TableName.Meta meta (codes "sqlite_autoindex_meta_1") (has_table meta (inr (inr (inr (inr (inl refl)))))) (has_index _ (inr (inr (inr (inr (inl refl)))))) refl meta_entry (λ (l : RawMeta). l.rowid) (λ l. refl)

-- ---- the tables that layout 2 adds

-- the schema has the table and the index of its key
record HasKeyAt (schema : Schema) (name : TableName) (index_name : List ℕ) : Type 0 where
  listed : Has schema.tables (table_in schema name)
  indexed : Has schema.indexes (automatic_index index_name (table_in schema name).tree (key_columns name))
  guarded : guards (automatic_index index_name (table_in schema name).tree (key_columns name)) (table_in schema name) ≡ true

at_layouts : (P : Schema → Type 0) → P layout_two → P layout_two_indexed_last → P layout_two_unindexed → (schema : Schema) → IsOpenable schema → P schema
at_layouts P behind before bare schema (inl (inl is)) = subst P (sym is) behind
at_layouts P behind before bare schema (inl (inr is)) = subst P (sym is) before
at_layouts P behind before bare schema (inr is) = subst P (sym is) bare

modes_at : (schema : Schema) → IsOpenable schema → HasKeyAt schema TableName.Modes (codes "sqlite_autoindex_modes_1")
modes_at = at_layouts (λ s. HasKeyAt s TableName.Modes (codes "sqlite_autoindex_modes_1")) (record { listed = has_at 5 layout_two.tables _ refl; indexed = has_at 6 layout_two.indexes _ refl; guarded = refl })
    (record { listed = has_at 5 layout_two_indexed_last.tables _ refl; indexed = has_at 5 layout_two_indexed_last.indexes _ refl; guarded = refl }) (record { listed = has_at 5 layout_two_unindexed.tables _ refl; indexed = has_at 5 layout_two_unindexed.indexes _ refl; guarded = refl })

evidence_at : (schema : Schema) → IsOpenable schema → HasKeyAt schema TableName.Evidence (codes "sqlite_autoindex_evidence_1")
evidence_at = at_layouts (λ s. HasKeyAt s TableName.Evidence (codes "sqlite_autoindex_evidence_1")) (record { listed = has_at 6 layout_two.tables _ refl; indexed = has_at 7 layout_two.indexes _ refl; guarded = refl })
    (record { listed = has_at 6 layout_two_indexed_last.tables _ refl; indexed = has_at 6 layout_two_indexed_last.indexes _ refl; guarded = refl }) (record { listed = has_at 6 layout_two_unindexed.tables _ refl; indexed = has_at 6 layout_two_unindexed.indexes _ refl; guarded = refl })

against_at : (schema : Schema) → IsOpenable schema → HasKeyAt schema TableName.Against (codes "sqlite_autoindex_against_1")
against_at = at_layouts (λ s. HasKeyAt s TableName.Against (codes "sqlite_autoindex_against_1")) (record { listed = has_at 7 layout_two.tables _ refl; indexed = has_at 8 layout_two.indexes _ refl; guarded = refl })
    (record { listed = has_at 7 layout_two_indexed_last.tables _ refl; indexed = has_at 7 layout_two_indexed_last.indexes _ refl; guarded = refl }) (record { listed = has_at 7 layout_two_unindexed.tables _ refl; indexed = has_at 7 layout_two_unindexed.indexes _ refl; guarded = refl })

module _ (db : Database) (known : IsOpenable db.schema) (sound : IsDatabase db) where
  pub modes_apart : (lines : List RawMode) → ListsModes db lines → IsDistinct (eq_by_cmp int_cmp) (map (λ (l : RawMode). l.rowid) lines) → HasNoDuplicates text_cmp (map mode_entry lines)
  modes_apart = let key = modes_at db.schema known in apart_by_key db sound TableName.Modes (table_in db.schema TableName.Modes) (codes "sqlite_autoindex_modes_1") key.listed key.indexed key.guarded mode_entry (λ (l : RawMode). l.rowid) (λ l. refl)

  pub evidence_apart : (lines : List RawEvidence) → ListsEvidence db lines → IsDistinct (eq_by_cmp int_cmp) (map (λ (l : RawEvidence). l.rowid) lines) → HasNoDuplicates version_cmp (map evidence_entry lines)
  evidence_apart = let key = evidence_at db.schema known in apart_by_key db sound TableName.Evidence (table_in db.schema TableName.Evidence) (codes "sqlite_autoindex_evidence_1") key.listed key.indexed key.guarded evidence_entry (λ (l : RawEvidence). l.rowid) (λ l. refl)

  pub against_apart : (lines : List RawAgainst) → ListsAgainst db lines → IsDistinct (eq_by_cmp int_cmp) (map (λ (l : RawAgainst). l.rowid) lines) → HasNoDuplicates position_cmp (map against_entry lines)
  against_apart = let key = against_at db.schema known in apart_by_key db sound TableName.Against (table_in db.schema TableName.Against) (codes "sqlite_autoindex_against_1") key.listed key.indexed key.guarded against_entry (λ (l : RawAgainst). l.rowid) (λ l. refl)
