-- How inserting and deleting by key change a table, and why they fail.
use Rattle.std.proofs.Common.{subst, sym, ◌≡◌, ◌⊎◌, inl, inr, ◌+◌, ℕ, true, List, [], ◌∷◌, Option, Ok, Err, refl, ap, ◌∙◌}
use Rattle.reg_tables.proofs.Kit.{IsTrue, get, remove, Row, Schema, next_rowid, Table, State, Executes, ExecutesInside, Error, agree, guards, Has, Index, IsOversized, all_from, put_all_has, put_all_keeps}
use Rattle.std.specs.FinMap.{insert}
use Rattle.reg_tables.specs.FailedCalls.{IsFault, IsInsertFault}
use Rattle.reg_tables.specs.Rooms.{HasRoom}
use Rattle.reg_tables.specs.Contents.{TableName, ordinal_of, table_in, KeyOf, ValueOf, cmp_of, form_of, MapOf, map_of, with_map, Contents, ShowsIn, HoldsContents}
use Rattle.reg_tables.specs.TableMaps.{ShowsMap}
use Rattle.reg_tables.specs.Inside.Keyed.{tests_of, refers_to, cells_of, with_entry, without_entry, IsFreeKey}
use Rattle.reg_tables.specs.Inside.KeyedLaws.{ReplacesMap, IsKeyed, PutsRow, DropsRow, new_row}
use Rattle.reg_tables.proofs.KeyedTables.{inserts, inserts_room, removes}
use Rattle.reg_tables.proofs.Keys.{key_laws}
use Rattle.reg_tables.proofs.Tables.{its_map, last_map, turned}
use Rattle.reg_tables.proofs.TableFaults.{IsFree, IsRowTrouble, new_key, delete_fails, insert_fails, as_insert_fault, fault_alone}
use Rattle.reg_tables.proofs.UniqueLemmas.{on_columns}
use Rattle.reg_tables.proofs.MapLemmas.{get-remove-same, insert-remove}

the_one : (rows : List Row) (r row : Row) → rows ≡ row ∷ [] → Has rows r → r ≡ row
the_one rows r row is there = elim (subst (λ l. Has l r) is there) [ inl same ↦ same | inr none ↦ absurd none ]

-- after a delete the key is free, so that an insert sets its value
pub free_once_dropped : (name : TableName) (contents : Contents) (key : KeyOf name) → IsFreeKey name key (without_entry name key contents)
free_once_dropped name contents key = ap (λ m. get m key) (its_map name (remove (map_of name contents) key) contents) ∙ get-remove-same (cmp_of name) (key_laws name).order (map_of name contents) key

pub set_by_both : (name : TableName) (contents : Contents) (key : KeyOf name) (value : ValueOf name) → with_entry name key value (without_entry name key contents) ≡ with_entry name key value contents
set_by_both name contents key value =
    let cut = remove (map_of name contents) key in
    ap (λ m. with_map name (insert m key value) (with_map name cut contents)) (its_map name cut contents) ∙ last_map name cut (insert cut key value) contents
    ∙ ap (λ m. with_map name m contents) (insert-remove (cmp_of name) (key_laws name).order (map_of name contents) key value)

module _ (schema : Schema) (name : TableName) (its : IsKeyed schema name) where
  abbrev table : Table
  table = table_in schema name

  -- rows that agree on a unique index have the same key
  same_entry : (i : Index) → Has schema.indexes i → guards i table ≡ true → (a b : Row) (q k : KeyOf name) → (form_of name).key_of a ≡ (form_of name).key_cells q → (form_of name).key_of b ≡ (form_of name).key_cells k → agree i.order i.columns a i.columns b ≡ true → q ≡ k
  same_entry i known on a b q k of_a of_b same = its.agrees a b q k of_a of_b (on_columns schema.indexes table table.primary its.guarded i known on a b same)

  module _ (old new : State) (contents : Contents) (h : HoldsContents schema old.now contents) (key : KeyOf name) where
    shows : ShowsMap (form_of name) (old.now.trees table.tree) (get (map_of name contents))
    shows = subst (λ (o : Option Table). ShowsIn (form_of name) old.now.trees o (map_of name contents)) its.is_at.there (h.shows name)

    turns : (map : MapOf name) → ReplacesMap schema (form_of name) table.tree old.now new.now (get map) → HoldsContents schema new.now (with_map name map contents)
    turns map t = turned schema its.apart name table its.is_at.there old.now new.now contents h map t

    module _ (sql : List ℕ) (p : PutsRow schema name sql) where
      pub puts : (value : ValueOf name) (count : ℕ) → IsFreeKey name key contents → Executes sql (cells_of name key value) old new (Ok count) → HoldsContents schema new.now (with_entry name key value contents)
      puts value count free ran =
          let is = p.entry (next_rowid (old.now.trees table.tree)) key value in
          turns (insert (map_of name contents) key value)
          (inserts schema (form_of name) (cmp_of name) (key_laws name).order (key_laws name).distinct (ordinal_of name) table its.is_at.there old new h.declared (map_of name contents) shows key sql (cells_of name key value) count
          p.terms p.width (new_row name (old.now.trees table.tree) key value) value its.uncounted p.is (p.row old.now.trees key value) (record { has_id = refl; has_key = is.0; has_value = is.1 }) free ran)

      pub puts_room : (value : ValueOf name) (count : ℕ) → Executes sql (cells_of name key value) old new (Ok count) → (n : ℕ) → HasRoom (old.now.trees table.tree) (n + 1) → HasRoom (new.now.trees table.tree) n
      puts_room value count ran n room =
          inserts_room schema (form_of name) (cmp_of name) (key_laws name).order (key_laws name).distinct (ordinal_of name) table its.is_at.there old new h.declared (map_of name contents) shows key sql (cells_of name key value) count
          p.terms p.width (new_row name (old.now.trees table.tree) key value) its.uncounted p.is (p.row old.now.trees key value) refl ran n room

      module _ (e : Error) where
        abbrev row_of : ValueOf name → Row
        row_of value = new_row name (old.now.trees table.tree) key value

        put_stops : (value : ValueOf name) → IsFreeKey name key contents → IsTrue (refers_to name contents key value) → ExecutesInside 0 sql (cells_of name key value) old new (Err e) → IsFault old new e ⊎ IsRowTrouble schema table (old.now.trees table.tree) (row_of value) e
        put_stops value free refers ran =
            let rows = old.now.trees table.tree in
            let row = row_of value in
            let stands = p.stands (next_rowid rows) key value in
            insert_fails schema its.apart (ordinal_of name) table its.is_at old new h.declared h.sound p.terms p.width (cells_of name key value) row sql its.uncounted p.is (p.whole key value)
            (p.typed key value) (p.row old.now.trees key value) (record {
              keyed = refl;
              typed = stands.typed;
              present = stands.present;
              checked = stands.checked;
              free = all_from (IsFree table rows row) schema.indexes (λ i known on. new_key (form_of name) (cmp_of name) (map_of name contents) rows shows key free (λ r. agree i.order i.columns r i.columns row ≡ true)
                  (λ r q of_r same. same_entry i known on r row q key of_r (p.entry (next_rowid rows) key value).0 same));
            }) (λ next applies. its.put_refers old.now contents h key value refers row (p.entry (next_rowid rows) key value) next applies.tables (λ r there.
            elim (put_all_has _ rows r (subst (λ l. Has l r) applies.rows there)) [ inl fresh ↦ inl (the_one _ r row (p.row old.now.trees key value) fresh) | inr was ↦ inr was ])
            (λ r was. subst (λ l. Has l r) (sym applies.rows) (put_all_keeps _ rows r applies.fresh was))) e ran

        pub put_fails : (value : ValueOf name) → IsFreeKey name key contents → IsTrue (refers_to name contents key value) → ExecutesInside 0 sql (cells_of name key value) old new (Err e) → IsInsertFault old new e
        put_fails value free refers ran = as_insert_fault schema old new table (old.now.trees table.tree) (row_of value) e (put_stops value free refers ran)

        pub put_faults : (value : ValueOf name) → IsFreeKey name key contents → IsTrue (refers_to name contents key value) → ExecutesInside 0 sql (cells_of name key value) old new (Err e) → (n : ℕ) → HasRoom (old.now.trees table.tree) (n + 1) → ¬ IsOversized schema table (row_of value) → IsFault old new e
        put_faults value free refers ran n room fits = fault_alone schema old new table (old.now.trees table.tree) (row_of value) e n room refl fits (put_stops value free refers ran)

    module _ (sql : List ℕ) (d : DropsRow schema name sql) where
      pub drops : (count : ℕ) → Executes sql ((form_of name).key_cells key) old new (Ok count) → HoldsContents schema new.now (without_entry name key contents)
      drops count ran =
          turns (remove (map_of name contents) key)
          (removes schema (form_of name) (cmp_of name) (key_laws name).order (key_laws name).distinct (ordinal_of name) table its.is_at.there old new h.declared (map_of name contents) shows key sql ((form_of name).key_cells key) count
          d.no_action (tests_of name) d.is (λ row q is. (key_laws name).test row key q is) ran)

      pub drop_fails : (e : Error) → ExecutesInside 0 sql ((form_of name).key_cells key) old new (Err e) → IsFault old new e
      drop_fails e =
          delete_fails schema its.apart (ordinal_of name) table its.is_at old new h.declared h.sound sql ((form_of name).key_cells key) (tests_of name) d.no_action d.is (d.whole key) (d.typed key)
          (λ found next applies. d.refers old.now.trees next applies.tables) e
