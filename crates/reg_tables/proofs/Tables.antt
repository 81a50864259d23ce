-- Facts about each table, by its name, if the tables hold some contents.
use Rattle.std.proofs.Common.{◌≡◌, ◌≢◌, ◌==◌, ℕ, zero, suc, inl, inr, List, [], ◌∷◌, ◌++◌, Option, None, Some, slice_get, refl, sym, ap, subst, ◌∙◌}
use Rattle.reg_tables.proofs.Kit.{IsSome, unwrap_or, Ordering, unsigned_Decides, FinMap, get, cases_Bool, both_ways, KeepsRows, Database, Schema, Table, Trees, IsAscending, Index, all_has, has_got}
use Rattle.reg_tables.specs.Layout.{layout_one, layout_two, layout_two_indexed_last, IsIndexedLayoutTwo, TakesMeta, HasFiveTables, HasEightTables, five_tables_then, added_tables, texts, versions, levels, kept, meta, layout_two_unindexed, IsOpenable}
use Rattle.reg_tables.specs.TableMaps.{RowForm, ShowsMap}
use Rattle.reg_tables.specs.Contents.{text_form, version_form, pair_form, kept_form, TableName, Texts, Versions, Levels, Kept, Meta, Modes, Evidence, Against, ordinal_of, table_in, HasTable, form_of, MapOf, map_of, with_map, Contents, ShowsIn, ShowsAll, HoldsContents}
use Rattle.reg_tables.specs.Inside.KeyedLaws.{HaveOwnTrees, ReplacesMap}
use Rattle.reg_tables.proofs.RowLemmas.{same_rows, shows_empty}

-- ---- the maps

pub its_map : (name : TableName) (map : MapOf name) (contents : Contents) → map_of name (with_map name map contents) ≡ map
its_map Texts map contents = refl
its_map Versions map contents = refl
its_map Levels map contents = refl
its_map Kept map contents = refl
its_map Meta map contents = refl
its_map Modes map contents = refl
its_map Evidence map contents = refl
its_map Against map contents = refl

pub last_map : (name : TableName) (first last : MapOf name) (contents : Contents) → with_map name last (with_map name first contents) ≡ with_map name last contents
last_map Texts first last contents = refl
last_map Versions first last contents = refl
last_map Levels first last contents = refl
last_map Kept first last contents = refl
last_map Meta first last contents = refl
last_map Modes first last contents = refl
last_map Evidence first last contents = refl
last_map Against first last contents = refl

other_map : (name other : TableName) → ordinal_of other ≢ ordinal_of name → (map : MapOf name) (contents : Contents) → map_of other (with_map name map contents) ≡ map_of other contents
other_map Texts Texts apart map contents = absurd (apart refl)
other_map Texts other apart map contents = refl
other_map Versions Versions apart map contents = absurd (apart refl)
other_map Versions other apart map contents = refl
other_map Levels Levels apart map contents = absurd (apart refl)
other_map Levels other apart map contents = refl
other_map Kept Kept apart map contents = absurd (apart refl)
other_map Kept other apart map contents = refl
other_map Meta Meta apart map contents = absurd (apart refl)
other_map Meta other apart map contents = refl
other_map Modes Modes apart map contents = absurd (apart refl)
other_map Modes other apart map contents = refl
other_map Evidence Evidence apart map contents = absurd (apart refl)
other_map Evidence other apart map contents = refl
other_map Against Against apart map contents = absurd (apart refl)
other_map Against other apart map contents = refl

abbrev name_at : ℕ → TableName
name_at zero = Texts
name_at (suc zero) = Versions
name_at (suc (suc zero)) = Levels
name_at (suc (suc (suc zero))) = Kept
name_at (suc (suc (suc (suc zero)))) = Meta
name_at (suc (suc (suc (suc (suc zero))))) = Modes
name_at (suc (suc (suc (suc (suc (suc zero)))))) = Evidence
name_at (suc (suc (suc (suc (suc (suc (suc n))))))) = Against

named : (name : TableName) → name_at (ordinal_of name) ≡ name
named Texts = refl
named Versions = refl
named Levels = refl
named Kept = refl
named Meta = refl
named Modes = refl
named Evidence = refl
named Against = refl

-- ---- the tables of a schema

apart_at : (tables : List Table) → IsAscending (λ (a : Table) (b : Table). a.tree ≡ b.tree → ⊥) tables → (i j : ℕ) (a b : Table) → slice_get tables i ≡ Some a → slice_get tables j ≡ Some b → i ≢ j → a.tree ≢ b.tree
apart_at [] up i j a b here there other = absurd (cc)
apart_at (t ∷ tables) up zero zero a b here there other = absurd (other refl)
apart_at (t ∷ tables) up zero (suc j) a b here there other =
    let same : t ≡ a = cc in
    λ e. all_has (λ (x : Table). t.tree ≡ x.tree → ⊥) tables b up.0 (has_got tables j b there) (ap (λ (x : Table). x.tree) same ∙ e)
apart_at (t ∷ tables) up (suc i) zero a b here there other =
    let same : t ≡ b = cc in
    λ e. all_has (λ (x : Table). t.tree ≡ x.tree → ⊥) tables a up.0 (has_got tables i a here) (ap (λ (x : Table). x.tree) same ∙ sym e)
apart_at (t ∷ tables) up (suc i) (suc j) a b here there other = apart_at tables up.1 i j a b here there (λ e. other (ap suc e))

module _ {K V : Type 0} {R : K → K → Ordering} (form : RowForm K V) (map : FinMap R V) where
  -- a table that keeps its rows shows the same map
  pub shows_still : (old new : Trees) (table : Option Table) → ((t : Table) → table ≡ Some t → new t.tree ≡ old t.tree) → ShowsIn form old table map → ShowsIn form new table map
  shows_still old new None same h = h
  shows_still old new (Some t) same h = same_rows {form = form} (same t refl) h

  -- a new table shows the empty map
  pub shows_made : (tables : List Table) (made : Table) (old new : Trees) → KeepsRows tables old new → new made.tree ≡ [] → (at : ℕ) → ShowsIn form old (slice_get tables at) map → ShowsIn form new (slice_get (tables ++ made ∷ []) at) map
  shows_made [] made old new same none zero h = subst (λ rows. ShowsMap form rows (get map)) (sym none) (subst (λ m. ShowsMap form [] (get m)) (sym h) (shows_empty R form))
  shows_made [] made old new same none (suc at) h = h
  shows_made (t ∷ tables) made old new same none zero h = same_rows {form = form} same.0 h
  shows_made (t ∷ tables) made old new same none (suc at) h = shows_made tables made old new same.1 none at h

  -- if the schema has the table, the table shows the map
  module _ (trees : Trees) (other : Table) where
    pub shown_in : (table : Option Table) → IsSome table → ShowsIn form trees table map → ShowsMap form (trees (unwrap_or table other).tree) (get map)
    shown_in None there shows = absurd (cc)
    shown_in (Some table) there shows = shows

pub all_still : (tables : List Table) (old new : Trees) (contents : Contents) → KeepsRows tables old new → ((name : TableName) → ShowsIn (form_of name) old (slice_get tables (ordinal_of name)) (map_of name contents))
    → (name : TableName) → ShowsIn (form_of name) new (slice_get tables (ordinal_of name)) (map_of name contents)
all_still tables old new contents kept h name =
    shows_still (form_of name) (map_of name contents) old new (slice_get tables (ordinal_of name)) (λ t is. all_has (λ (x : Table). new x.tree ≡ old x.tree) tables t kept (has_got tables (ordinal_of name) t is)) (h name)

-- ---- a write to one table

module _ (schema : Schema) (apart : HaveOwnTrees schema) (name : TableName) (table : Table) (there : slice_get schema.tables (ordinal_of name) ≡ Some table) (old new : Database) (contents : Contents) (h : HoldsContents schema old contents)
    (map : MapOf name) (t : ReplacesMap schema (form_of name) table.tree old new (get map)) where
  own : ShowsIn (form_of name) new.trees (slice_get schema.tables (ordinal_of name)) (map_of name (with_map name map contents))
  own = subst (λ (o : Option Table). ShowsIn (form_of name) new.trees o (map_of name (with_map name map contents))) (sym there)
      (subst (λ m. ShowsIn (form_of name) new.trees (Some table) m) (sym (its_map name map contents)) t.rows)

  turned_shows : (other : TableName) → ShowsIn (form_of other) new.trees (slice_get schema.tables (ordinal_of other)) (map_of other (with_map name map contents))
  turned_shows other = elim (cases_Bool (ordinal_of other == ordinal_of name)) [
    | inl same ↦
        let place : ordinal_of other ≡ ordinal_of name = (unsigned_Decides (ordinal_of other) (ordinal_of name)).0 same in
        let is : name ≡ other = sym (named name) ∙ ap name_at (sym place) ∙ named other in
        subst (λ (n : TableName). ShowsIn (form_of n) new.trees (slice_get schema.tables (ordinal_of n)) (map_of n (with_map name map contents))) is own
    | inr differs ↦
        let places : ordinal_of other ≢ ordinal_of name = λ e. both_ways _ differs ((unsigned_Decides (ordinal_of other) (ordinal_of name)).1 e) in
        subst (λ m. ShowsIn (form_of other) new.trees (slice_get schema.tables (ordinal_of other)) m) (sym (other_map name other places map contents))
        (shows_still (form_of other) (map_of other contents) old.trees new.trees (slice_get schema.tables (ordinal_of other))
        (λ x is. all_has (λ (x : Table). x.tree ≢ table.tree → new.trees x.tree ≡ old.trees x.tree) schema.tables x t.others (has_got schema.tables (ordinal_of other) x is) (apart_at schema.tables apart (ordinal_of other) (ordinal_of name) x table is there places))
        (h.shows other))
  ]

  pub turned : HoldsContents schema new (with_map name map contents)
  turned = record { declared = t.declared; sound = t.sound; shows = turned_shows }

-- ---- the tables of the layouts

-- the maps that the first five tables show
pub record ShowsFive (db : Database) (contents : Contents) : Type 0 where
  pub texts : ShowsMap text_form (db.trees texts.tree) (get contents.texts)
  pub versions : ShowsMap version_form (db.trees versions.tree) (get contents.versions)
  pub levels : ShowsMap pair_form (db.trees levels.tree) (get contents.levels)
  pub kept : ShowsMap kept_form (db.trees kept.tree) (get contents.kept)
  pub meta : ShowsMap pair_form (db.trees meta.tree) (get contents.meta)

pub five : {schema : Schema} {db : Database} {contents : Contents} → HoldsContents schema db contents → HasFiveTables schema → ShowsFive db contents
five {schema} {db} {contents} h first =
    let shows : ShowsAll (five_tables_then first.tables first.indexes) db.trees contents = subst (λ s. ShowsAll s db.trees contents) first.is h.shows in
    record { texts = shows Texts; versions = shows Versions; levels = shows Levels; kept = shows Kept; meta = shows Meta }

pub eight_has_five : (schema : Schema) → HasEightTables schema → HasFiveTables schema
eight_has_five schema known = record { tables = added_tables known.first; indexes = known.indexes; is = known.is }

abbrev HasPlace : ℕ → Schema → Type 0
HasPlace place schema = IsSome (slice_get schema.tables place)

pub has_table : (schema : Schema) (name : TableName) → HasTable name schema → IsSome (slice_get schema.tables (ordinal_of name))
has_table schema Texts known = subst (HasPlace 0) (sym known.is) refl
has_table schema Versions known = subst (HasPlace 1) (sym known.is) refl
has_table schema Levels known = subst (HasPlace 2) (sym known.is) refl
has_table schema Kept known = subst (HasPlace 3) (sym known.is) refl
has_table schema Meta known = subst (HasPlace 4) (sym known.is) refl
has_table schema Modes known = subst (HasPlace 5) (sym known.is) refl
has_table schema Evidence known = subst (HasPlace 6) (sym known.is) refl
has_table schema Against known = subst (HasPlace 7) (sym known.is) refl

pub shown_by : {schema : Schema} {db : Database} {contents : Contents} → HoldsContents schema db contents → (name : TableName) → HasTable name schema → ShowsMap (form_of name) (db.trees (table_in schema name).tree) (get (map_of name contents))
shown_by {schema} {db} {contents} h name known = shown_in (form_of name) (map_of name contents) db.trees _ (slice_get schema.tables (ordinal_of name)) (has_table schema name known) (h.shows name)

pub two_has_eight : (schema : Schema) → IsIndexedLayoutTwo schema → HasEightTables schema
two_has_eight schema (inl is) = record { first = 11; place = inr refl; indexes = layout_two.indexes; is = is }
two_has_eight schema (inr is) = record { first = 10; place = inl refl; indexes = layout_two_indexed_last.indexes; is = is }

pub meta_has_five : (schema : Schema) → TakesMeta schema → HasFiveTables schema
meta_has_five schema (inl is) = record { tables = []; indexes = layout_one.indexes; is = is }
meta_has_five schema (inr is) = eight_has_five schema (two_has_eight schema is)

pub openable_has_eight : (schema : Schema) → IsOpenable schema → HasEightTables schema
openable_has_eight schema (inl (inl is)) = record { first = 11; place = inr refl; indexes = layout_two.indexes; is = is }
openable_has_eight schema (inl (inr is)) = record { first = 10; place = inl refl; indexes = layout_two_indexed_last.indexes; is = is }
openable_has_eight schema (inr is) = record { first = 10; place = inl refl; indexes = layout_two_unindexed.indexes; is = is }

-- what is true of the five tables followed by any tables and indexes, and so of each of these schemas
pub begins_in_two : (P : Schema → Type 0) → ((tables : List Table) (indexes : List Index) → P (five_tables_then tables indexes)) → (schema : Schema) → IsIndexedLayoutTwo schema → P schema
begins_in_two P each schema is = let known = two_has_eight schema is in subst P (sym known.is) (each (added_tables known.first) known.indexes)

pub begins_written : (P : Schema → Type 0) → ((tables : List Table) (indexes : List Index) → P (five_tables_then tables indexes)) → (schema : Schema) → TakesMeta schema → P schema
begins_written P each schema written = let it = meta_has_five schema written in subst P (sym it.is) (each it.tables it.indexes)

-- what is true if the new tables were made before the index, and if after it
pub at_both : (P : Schema → Type 0) → ((indexes : List Index) → P (five_tables_then (added_tables 10) indexes)) → ((indexes : List Index) → P (five_tables_then (added_tables 11) indexes)) → (schema : Schema) → HasEightTables schema → P schema
at_both P before behind schema known = subst P (sym known.is) (elim known.place [
  | inl is ↦ subst (λ n. P (five_tables_then (added_tables n) known.indexes)) (sym is) (before known.indexes)
  | inr is ↦ subst (λ n. P (five_tables_then (added_tables n) known.indexes)) (sym is) (behind known.indexes)
])
