-- Over readable contents, a query of all rows returns readable rows.
use Rattle.std.proofs.Common.{◌≡◌, ℕ, pos, List, [], ◌∷◌, Option, Some, ap, ◌∙◌}
use Rattle.reg_tables.proofs.Kit.{get, Int, Text, Row, id_in, Database, rowid, Has, all_has, int_is}
use Rattle.sqlite.specs.Order.{column}
use Rattle.reg_tables.specs.Layout.{texts, versions, levels, kept, meta}
use Rattle.reg_tables.specs.Reads.{HoldsReadable, HasReadableMeta}
use Rattle.reg_tables.specs.TableMaps.{RowForm, IsEntry, ShowsMap}
use Rattle.reg_tables.specs.Contents.{version_cells, text_form, version_form, pair_form, kept_form}
use Rattle.reg_tables.proofs.Tables.{five}
use Rattle.reg_tables.specs.Inside.ReadableRows.{IsReadableText, IsReadableVersion, IsReadablePair, IsReadableKept}

-- what follows from a row's entry
pub by_entry : {K V : Type 0} (form : RowForm K V) (rows : List Row) (value_at : K → Option V) → ShowsMap form rows value_at → (row : Row) → Has rows row → (P : Type 0)
    → ((key : K) (value : V) → rowid row ≡ Int (id_in (rowid row)) → value_at key ≡ Some value → IsEntry form row key value → P) → P
by_entry form rows value_at shows row has P each =
    let entry = shows.sound row has in
    each entry.0 entry.1 (int_is (rowid row) (all_has _ rows row shows.rowids.1 has)) entry.2 entry.3

pub pair_is : (row : Row) (key value : List ℕ) → rowid row ≡ Int (id_in (rowid row)) → IsEntry pair_form row key value → rowid row ∷ column row 1 ∷ column row 2 ∷ [] ≡ Int (id_in (rowid row)) ∷ Text key ∷ Text value ∷ []
pair_is row key value rowid_is is =
    ap (λ (r : Row). rowid row ∷ column row 1 ∷ r) is.1 ∙ ap (λ (r : Row). rowid row ∷ column r 0 ∷ Text value ∷ []) is.0 ∙ ap (λ v. v ∷ Text key ∷ Text value ∷ []) rowid_is

pub readable_meta : (db : Database) (there : HasReadableMeta db) (row : Row) → Has (db.trees meta.tree) row → IsReadablePair (column row 0 ∷ column row 1 ∷ column row 2 ∷ [])
readable_meta db there row has = by_entry pair_form (db.trees meta.tree) (get there.values) there.shows row has (IsReadablePair (column row 0 ∷ column row 1 ∷ column row 2 ∷ []))
    (λ key value rowid_is held is.
    let can = there.readable key value held in
    record { rowid = id_in (rowid row); key = key; value = value; is = pair_is row key value rowid_is is; key_utf8 = can.0; value_utf8 = can.1 })

module _ (db : Database) (there : HoldsReadable db) (row : Row) where
  open there use {known, contents, holds, readable}

  pub readable_text : Has (db.trees texts.tree) row → IsReadableText (column row 0 ∷ column row 0 ∷ column row 2 ∷ [])
  readable_text has = by_entry text_form (db.trees texts.tree) (get contents.texts) (five holds known).texts row has (IsReadableText (column row 0 ∷ column row 0 ∷ column row 2 ∷ []))
      (λ id text rowid_is there is.
      let key : column row 0 ≡ Int (pos id) = cc in
      let value : column row 2 ≡ Text text = cc in
      let can = readable.texts id text there in
      record { id = id; text = text; is = rw (key, value); low = can.0; utf8 = can.1 })

  pub readable_version : Has (db.trees versions.tree) row → IsReadableVersion (column row 0 ∷ column row 1 ∷ column row 2 ∷ column row 3 ∷ column row 4 ∷ [])
  readable_version has = by_entry version_form (db.trees versions.tree) (get contents.versions) (five holds known).versions row has (IsReadableVersion (column row 0 ∷ column row 1 ∷ column row 2 ∷ column row 3 ∷ column row 4 ∷ []))
      (λ key version rowid_is there is.
      let can = readable.versions key version there in
      record {
        rowid = id_in (rowid row);
        subject = key.0;
        number = key.1;
        version = version;
        is = ap (λ (r : Row). rowid row ∷ column row 1 ∷ column row 2 ∷ r) is.1 ∙ ap (λ (r : Row). rowid row ∷ column r 0 ∷ column r 1 ∷ version_cells version) is.0 ∙ ap (λ v. v ∷ Text key.0 ∷ Int (pos key.1) ∷ version_cells version) rowid_is;
        utf8 = can.0;
        low = can.1;
        low_id = can.2;
      })

  pub readable_level : Has (db.trees levels.tree) row → IsReadablePair (column row 0 ∷ column row 1 ∷ column row 2 ∷ [])
  readable_level has = by_entry pair_form (db.trees levels.tree) (get contents.levels) (five holds known).levels row has (IsReadablePair (column row 0 ∷ column row 1 ∷ column row 2 ∷ []))
      (λ key value rowid_is there is.
      let can = readable.levels key value there in
      record { rowid = id_in (rowid row); key = key; value = value; is = pair_is row key value rowid_is is; key_utf8 = can.0; value_utf8 = can.1 })

  pub readable_kept : Has (db.trees kept.tree) row → IsReadableKept (column row 0 ∷ column row 1 ∷ column row 2 ∷ column row 3 ∷ column row 4 ∷ [])
  readable_kept has = by_entry kept_form (db.trees kept.tree) (get contents.kept) (five holds known).kept row has (IsReadableKept (column row 0 ∷ column row 1 ∷ column row 2 ∷ column row 3 ∷ column row 4 ∷ []))
      (λ key reply rowid_is there is.
      let can = readable.kept key reply there in
      record {
        rowid = id_in (rowid row);
        key = key;
        reply = reply;
        is = ap (λ (r : Row). rowid row ∷ column row 1 ∷ r) is.1 ∙ ap (λ (r : Row). rowid row ∷ column r 0 ∷ kept_form.value_cells reply) is.0 ∙ ap (λ v. v ∷ Text key ∷ kept_form.value_cells reply) rowid_is;
        utf8 = can.0;
        readable = can.1;
      })
