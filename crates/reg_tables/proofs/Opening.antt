-- The lists of the tables determine the contents.
use Rattle.std.proofs.Common.{◌≡◌, inl, inr, ℕ, ℤ, List, [], map, Option, None, Some, slice_get, refl, sym, ap, subst, ◌∙◌}
use Rattle.reg_tables.proofs.Kit.{from_entries, empty, IsSome, unwrap_or, Schema, Table, Trees, Database, IsDatabase}
use Rattle.reg_tables.specs.Layout.{five_tables_then, texts, versions, levels, kept, meta, IsLayoutOne, HasFiveTables}
use Rattle.reg_tables.specs.Contents.{text_form, version_form, pair_form, kept_form, evidence_form, against_form, TableName, Texts, Versions, Levels, Kept, Meta, Modes, Evidence, Against, ordinal_of, KeyOf, ValueOf, cmp_of, form_of, MapOf, map_of, Contents, ShowsIn, ShowsAll, HoldsContents}
use Rattle.reg_tables.specs.TableMaps.{RowForm}
use Rattle.reg_tables.specs.Listings.{HasNoDuplicates, Lists, without_rowid, text_entry, version_entry, level_entry, kept_entry, meta_entry, mode_entry, evidence_entry, against_entry}
use Rattle.reg_tables.specs.Inside.AllRawRows.{entry_of, RawRows, ListsIn, ListsAll, HaveNoDuplicates, map_in, contents_of}
use Rattle.reg_tables.proofs.Keys.{key_laws}
use Rattle.reg_tables.proofs.ListingLemmas.{shows_if_listed}

map_of_lines : (name : TableName) (lines : RawRows) → map_of name (contents_of lines) ≡ map_in name lines
map_of_lines Texts lines = refl
map_of_lines Versions lines = refl
map_of_lines Levels lines = refl
map_of_lines Kept lines = refl
map_of_lines Meta lines = refl
map_of_lines Modes lines = refl
map_of_lines Evidence lines = refl
map_of_lines Against lines = refl

module _ (name : TableName) (trees : Trees) (entries : List (ℤ × KeyOf name × ValueOf name)) where
  -- entries without duplicate rowids or keys are those of the map that they make up
  shows_listed : HasNoDuplicates (cmp_of name) entries → (table : Option Table) → ListsIn (form_of name) trees table entries → ShowsIn (form_of name) trees table (from_entries {R = cmp_of name} (map without_rowid entries))
  shows_listed apart None none = ap (λ (es : List (ℤ × KeyOf name × ValueOf name)). from_entries {R = cmp_of name} (map without_rowid es)) none
  shows_listed apart (Some table) lists = shows_if_listed (form_of name) (cmp_of name) (key_laws name).order (key_laws name).distinct (trees table.tree) entries lists apart

module _ (schema : Schema) (db : Database) (lines : RawRows) (lists : ListsAll schema db.trees lines) where
  -- lists without duplicate rowids or keys are those of the contents that they make up
  pub holds_if_listed : db.schema ≡ schema → IsDatabase db → HaveNoDuplicates lines → HoldsContents schema db (contents_of lines)
  holds_if_listed declared sound apart = record {
    declared = declared;
    sound = sound;
    shows = λ name. subst (λ m. ShowsIn (form_of name) db.trees (slice_get schema.tables (ordinal_of name)) m) (sym (map_of_lines name lines))
        (shows_listed name db.trees (map (entry_of name) (lines name)) (apart name) (slice_get schema.tables (ordinal_of name)) (lists name));
  }

-- ---- the lists of each table by name

-- if the schema has the table, its list is of the table's rows
pub listed_in : {K V : Type 0} (form : RowForm K V) (trees : Trees) (other : Table) (table : Option Table) (entries : List (ℤ × K × V)) → IsSome table → Lists form (trees (unwrap_or table other).tree) entries → ListsIn form trees table entries
listed_in form trees other None entries there lists = absurd (cc)
listed_in form trees other (Some table) entries there lists = lists

-- in layout 1 the lists of the tables that layout 2 adds are empty
abbrev pub ListsNoMore : Trees → Schema → Type 0
ListsNoMore trees schema = ListsIn pair_form trees (slice_get schema.tables 5) [] × ListsIn evidence_form trees (slice_get schema.tables 6) [] × ListsIn against_form trees (slice_get schema.tables 7) []

pub nothing_listed : (schema : Schema) → IsLayoutOne schema → (trees : Trees) → ListsNoMore trees schema
nothing_listed schema (inl is) trees = subst (ListsNoMore trees) (sym is) (refl, refl, refl)
nothing_listed schema (inr is) trees = subst (ListsNoMore trees) (sym is) (refl, refl, refl)

-- in layout 1 the maps of those tables are empty
pub nothing_held : (schema : Schema) → IsLayoutOne schema → (trees : Trees) (contents : Contents) → ShowsAll schema trees contents → (contents.modes ≡ empty) × (contents.evidence ≡ empty) × (contents.against ≡ empty)
nothing_held schema (inl is) trees contents shows = let it = subst (λ s. ShowsAll s trees contents) is shows in (it Modes, it Evidence, it Against)
nothing_held schema (inr is) trees contents shows = let it = subst (λ s. ShowsAll s trees contents) is shows in (it Modes, it Evidence, it Against)

module _ (schema : Schema) (first : HasFiveTables schema) (trees : Trees) (lines : RawRows) where
  pub lists_by_name : Lists text_form (trees texts.tree) (map text_entry (lines Texts)) → Lists version_form (trees versions.tree) (map version_entry (lines Versions)) → Lists pair_form (trees levels.tree) (map level_entry (lines Levels))
      → Lists kept_form (trees kept.tree) (map kept_entry (lines Kept)) → Lists pair_form (trees meta.tree) (map meta_entry (lines Meta)) → ListsIn pair_form trees (slice_get schema.tables 5) (map mode_entry (lines Modes))
      → ListsIn evidence_form trees (slice_get schema.tables 6) (map evidence_entry (lines Evidence)) → ListsIn against_form trees (slice_get schema.tables 7) (map against_entry (lines Against)) → ListsAll schema trees lines
  lists_by_name of_texts of_versions of_levels of_kept of_meta of_modes of_evidence of_against = each
    where
      at_first : (P : Option Table → Type 0) (at : ℕ) → P (slice_get (five_tables_then first.tables first.indexes).tables at) → P (slice_get schema.tables at)
      at_first P at = subst (λ (s : Schema). P (slice_get s.tables at)) (sym first.is)

      each : (name : TableName) → ListsIn (form_of name) trees (slice_get schema.tables (ordinal_of name)) (map (entry_of name) (lines name))
      each Texts = at_first (λ o. ListsIn text_form trees o (map text_entry (lines Texts))) 0 of_texts
      each Versions = at_first (λ o. ListsIn version_form trees o (map version_entry (lines Versions))) 1 of_versions
      each Levels = at_first (λ o. ListsIn pair_form trees o (map level_entry (lines Levels))) 2 of_levels
      each Kept = at_first (λ o. ListsIn kept_form trees o (map kept_entry (lines Kept))) 3 of_kept
      each Meta = at_first (λ o. ListsIn pair_form trees o (map meta_entry (lines Meta))) 4 of_meta
      each Modes = of_modes
      each Evidence = of_evidence
      each Against = of_against
