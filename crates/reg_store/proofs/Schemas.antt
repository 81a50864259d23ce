-- Valid rows of `texts` and `versions` are those of tables that spell schemas and versions, and the converse.
use Rattle.std.proofs.Common.{◌≡◌, ℕ, ℤ, zero, suc, ◌+◌, ◌<◌, ◌≤◌, List, [], ◌∷◌, map, length, Option, Some, None, Bool, true, false, cond, refl, sym, ap, subst, ◌∙◌, arith, Ordering}
use Rattle.std.specs.Prelude.{IsTrue, IsUtf8, All, slice_get, option_map, string_bytes}
use Rattle.std.specs.List.{AllByRecursion}
use Rattle.std.specs.Ordering.{is_eq, nat_cmp, eq_by_cmp}
use Rattle.std.specs.List.{IsDistinct}
use Rattle.std.specs.FinMap.{FinMap, get, entries, find, from_entries, get-from_entries, get-entries}
use Rattle.std.proofs.lemmas.Str.{IsUtf8-string_bytes}
use Rattle.std.proofs.lemmas.List.Elements.{All-nil, All-cons}
use Rattle.avro_nodes.specs.Nodes.{NodeView}
use Rattle.avro_nodes.specs.Identity.{identity}
use Rattle.avro_schema.specs.Texts.{IsSchema}
use Rattle.sqlite_rules.specs.Lists.{Has}
use Rattle.sqlite_rules.proofs.ListLemmas.{all_has, all_from}
use Rattle.reg_core.specs.Registry.{Schemas, RowKey, Version, Rows, IsRow, schema_at, max_number}
use Rattle.reg_core.specs.Subjects.{is_subject}
use Rattle.reg_tables.specs.declared.raw_texts.RawText.{RawText}
use Rattle.reg_tables.specs.declared.versions.RawVersion.{RawVersion}
use Rattle.reg_tables.specs.Contents.{version_cmp, VersionEntryView}
use Rattle.reg_tables.specs.Listings.{HasNoDuplicates, without_rowid, text_entry, version_entry}
use Rattle.reg_tables.proofs.ListMembers.{has_mapped, maps_had}
use Rattle.reg_tables.proofs.MapLemmas.{tied_key, other_key}
use Rattle.reg_tables.proofs.KeyedTables.{number_order, version_order}
use Rattle.reg_tables.proofs.ListingLemmas.{found_first, find_had}
use Rattle.reg_rows.specs.Spelling.{Text, AreConsecutive, IsTextRow, AreTexts, FitsVersions, IsVersionRow}
use Rattle.reg_store.specs.Spells.{stored_version}
use Rattle.reg_store.specs.Opening.{text_columns}
use Rattle.reg_store.specs.Opening.{version_columns}
use Rattle.reg_store.proofs.Numbering.{Rises, numbered, few_numbered}
use Rattle.reg_store.proofs.Ids.{schema_within, schema_there, is_schema_at}
use Rattle.reg_store.proofs.Texts.{was_written}

-- ---- texts

abbrev pub schemas_in : (lines : List RawText) → AllByRecursion IsTextRow (map text_columns lines) → Schemas
schemas_in [] fit = []
schemas_in (line ∷ lines) fit = fit.0.nodes ∷ schemas_in lines fit.1

pub all_schemas : (lines : List RawText) (fit : AllByRecursion IsTextRow (map text_columns lines)) → All IsSchema (schemas_in lines fit)
all_schemas [] fit = All-nil IsSchema
all_schemas (line ∷ lines) fit = All-cons IsSchema fit.0.nodes (schemas_in lines fit.1) fit.0.schema (all_schemas lines fit.1)

pub length_schemas : (lines : List RawText) (fit : AllByRecursion IsTextRow (map text_columns lines)) → length (schemas_in lines fit) ≡ length (map text_columns lines)
length_schemas [] fit = refl
length_schemas (line ∷ lines) fit = ap suc (length_schemas lines fit.1)

pub utf8_schemas : (lines : List RawText) (fit : AllByRecursion IsTextRow (map text_columns lines)) (id : ℕ) (nodes : List NodeView) → schema_at (schemas_in lines fit) id ≡ Some nodes → IsUtf8 (identity nodes)
utf8_schemas lines fit zero nodes h = absurd (cc)
utf8_schemas lines fit (suc n) nodes h = at lines fit n h
  where
    at : (ls : List RawText) (fit : AllByRecursion IsTextRow (map text_columns ls)) (n : ℕ) → slice_get (schemas_in ls fit) n ≡ Some nodes → IsUtf8 (identity nodes)
    at [] fit n h = absurd (cc)
    at (l ∷ ls) fit zero h = let same : fit.0.nodes ≡ nodes = cc in subst IsUtf8 (fit.0.is ∙ ap identity same) (IsUtf8-string_bytes l.text)
    at (l ∷ ls) fit (suc n) h = at ls fit.1 n h

abbrev ids_of : List RawText → List ℕ
ids_of lines = map (λ (row : ℕ × Text). row.0) (map text_columns lines)

abbrev pairs_of : List RawText → List (ℕ × List ℕ)
pairs_of lines = map without_rowid (map text_entry lines)

below_none : (first : ℕ) (lines : List RawText) → AreConsecutive first (ids_of lines) → (id : ℕ) → id < first → find nat_cmp id (pairs_of lines) ≡ None
below_none first [] n id l = refl
below_none first (line ∷ lines) n id l =
    ap (λ b. cond b (Some (string_bytes line.text)) (find nat_cmp id (pairs_of lines))) (other_key nat_cmp number_order id line.id (λ e. let a = n.0 in omega (arith, l, a, e)))
    ∙ below_none (first + 1) lines n.1 id (omega (arith, l))

-- the text of an id is at the id's position
found_at : (first : ℕ) (lines : List RawText) → AreConsecutive first (ids_of lines) → (fit : AllByRecursion IsTextRow (map text_columns lines)) → (n id : ℕ) → id ≡ first + n
    → find nat_cmp id (pairs_of lines) ≡ option_map identity (slice_get (schemas_in lines fit) n)
found_at first [] h fit n id e = refl
found_at first (line ∷ lines) h fit zero id e =
    ap (λ b. cond b (Some (string_bytes line.text)) (find nat_cmp id (pairs_of lines))) (tied_key nat_cmp number_order id line.id (let a = h.0 in omega (arith, a, e))) ∙ ap Some fit.0.is
found_at first (line ∷ lines) h fit (suc n) id e =
    ap (λ b. cond b (Some (string_bytes line.text)) (find nat_cmp id (pairs_of lines))) (other_key nat_cmp number_order id line.id (λ same. let a = h.0 in omega (arith, a, e, same)))
    ∙ found_at (first + 1) lines h.1 fit.1 n id (omega (arith, e))

module _ (lines : List RawText) where
  abbrev pub texts_in : FinMap nat_cmp (List ℕ)
  texts_in = from_entries (pairs_of lines)

  pub texts_spelled : (fit : AreTexts (map text_columns lines)) → (id : ℕ) → get texts_in id ≡ option_map identity (schema_at (schemas_in lines fit.identities) id)
  texts_spelled fit zero = get-from_entries number_order.total (pairs_of lines) 0 ∙ below_none 1 lines fit.numbered 0 (omega arith)
  texts_spelled fit (suc n) = get-from_entries number_order.total (pairs_of lines) (suc n) ∙ found_at 1 lines fit.numbered fit.identities n (suc n) (omega arith)

  module _ (apart : HasNoDuplicates nat_cmp (map text_entry lines)) (schemas : Schemas) (all : All IsSchema schemas) (few : length schemas ≤ max_number) (spelled : (id : ℕ) → get texts_in id ≡ option_map identity (schema_at schemas id)) where
    line_found : (line : RawText) → Has lines line → get texts_in line.id ≡ Some (string_bytes line.text)
    line_found line there =
        get-from_entries number_order.total (pairs_of lines) line.id ∙ found_first nat_cmp number_order (map text_entry lines) (text_entry line) apart.keys (maps_had text_entry lines line there)

    schema_of : (line : RawText) → Has lines line → (nodes : List NodeView) × (schema_at schemas line.id ≡ Some nodes) × (string_bytes line.text ≡ identity nodes)
    schema_of line there = was_written identity (schema_at schemas line.id) (string_bytes line.text) (sym (spelled line.id) ∙ line_found line there)

    line_there : (id : ℕ) → 0 < id → id ≤ length schemas → Has (ids_of lines) id
    line_there id l h =
        let it = schema_there schemas id l h in
        let e = find_had nat_cmp number_order (map text_entry lines) id (identity it.0) (sym (get-from_entries number_order.total (pairs_of lines) id) ∙ spelled id ∙ ap (option_map identity) it.1) in
        let line = has_mapped text_entry lines e.0 e.1 in
        let its : line.0.id ≡ id = ap (λ (x : ℤ × ℕ × List ℕ). x.1) (sym line.2) ∙ e.2 in
        subst (Has (ids_of lines)) its (maps_had (λ (row : ℕ × Text). row.0) (map text_columns lines) (text_columns line.0) (maps_had text_columns lines line.0 line.1))

    id_within : (id : ℕ) → Has (ids_of lines) id → (0 < id) × (id ≤ length schemas)
    id_within id there =
        let row = has_mapped (λ (r : ℕ × Text). r.0) (map text_columns lines) id there in
        let line = has_mapped text_columns lines row.0 row.1 in
        let its : id ≡ line.0.id = row.2 ∙ ap (λ (r : ℕ × Text). r.0) line.2 in
        let it = schema_of line.0 line.1 in
        let within = schema_within schemas line.0.id it.0 it.1 in
        (let a = within.0 in omega (arith, a, its), let a = within.1 in omega (arith, a, its))

    ids_apart : IsDistinct (eq_by_cmp nat_cmp) (ids_of lines)
    ids_apart = subst (IsDistinct (eq_by_cmp nat_cmp)) (same lines) apart.keys
      where
        same : (ls : List RawText) → map (λ (e : ℤ × ℕ × List ℕ). e.1) (map text_entry ls) ≡ ids_of ls
        same [] = refl
        same (l ∷ ls) = ap (λ r. l.id ∷ r) (same ls)

    pub texts_fit : Rises (ids_of lines) → AreTexts (map text_columns lines)
    texts_fit rising =
        let in_order = numbered 1 (ids_of lines) rising ids_apart (λ id there. (id_within id there).0) (λ id other there a b. line_there other a (let l = (id_within id there).1 in omega (arith, b, l))) in
        record {
          numbered = in_order;
          few =
              let most = few_numbered 1 (length schemas) (ids_of lines) in_order (λ id there. (id_within id there).1) (omega arith) in
              let same = length-map (map text_columns lines) in
              omega (arith, most, few, same);
          identities = all_from IsTextRow (map text_columns lines) (λ row there.
              let line = has_mapped text_columns lines row there in
              let it = schema_of line.0 line.1 in
              subst IsTextRow (sym line.2) (record { nodes = it.0; schema = is_schema_at schemas line.0.id it.0 all it.1; is = it.2 }));
        }
      where
        length-map : (rows : List (ℕ × Text)) → length (map (λ (r : ℕ × Text). r.0) rows) ≡ length rows
        length-map [] = refl
        length-map (r ∷ rows) = ap suc (length-map rows)

-- ---- versions

abbrev version_in : VersionEntryView → Version
version_in row = record { id = row.id; deleted = row.deleted }

version_back : (o : Option VersionEntryView) → o ≡ option_map stored_version (option_map version_in o)
version_back None = refl
version_back (Some row) = refl

-- a map whose values are encoded
pub find-mapped : {K V W : Type 0} (R : K → K → Ordering) (write : V → W) (q : K) (es : List (K × V)) → find R q (map (λ (e : K × V). (e.0, write e.1)) es) ≡ option_map write (find R q es)
find-mapped R write q [] = refl
find-mapped R write q (e ∷ es) = rw (find-mapped R write q es) (by (is_eq (R q e.0)))
  where
    by : (b : Bool) → cond b (Some (write e.1)) (option_map write (find R q es)) ≡ option_map write (cond b (Some e.1) (find R q es))
    by true = refl
    by false = refl

pub rows_in : FinMap version_cmp VersionEntryView → Rows
rows_in versions = from_entries (map (λ (e : RowKey × VersionEntryView). (e.0, version_in e.1)) (entries versions))

module _ (versions : FinMap version_cmp VersionEntryView) where
  row_found : (key : RowKey) → get (rows_in versions) key ≡ option_map version_in (get versions key)
  unfolding rows_in
  row_found key = get-from_entries version_order.total _ key ∙ find-mapped version_cmp version_in key (entries versions) ∙ ap (option_map version_in) (sym (get-entries versions key))

  pub versions_spelled : (key : RowKey) → get versions key ≡ option_map stored_version (get (rows_in versions) key)
  versions_spelled key = version_back (get versions key) ∙ ap (option_map stored_version) (sym (row_found key))

  pub row_there : (key : RowKey) (version : Version) → get (rows_in versions) key ≡ Some version → (row : VersionEntryView) × (get versions key ≡ Some row) × (version ≡ version_in row)
  row_there key version there = was_written version_in (get versions key) version (sym (row_found key) ∙ there)

module _ (lines : List RawVersion) where
  abbrev pub versions_in : FinMap version_cmp VersionEntryView
  versions_in = from_entries (map without_rowid (map version_entry lines))

  pub version_fits : AllByRecursion IsVersionRow (map version_columns lines) → (key : RowKey) (row : VersionEntryView) → get versions_in key ≡ Some row → FitsVersions key.0 key.1
  version_fits all key row there =
      let es = map version_entry lines in
      let e = find_had version_cmp version_order es key row (sym (get-from_entries version_order.total (map without_rowid es) key) ∙ there) in
      let line = has_mapped version_entry lines e.0 e.1 in
      let fits = all_has IsVersionRow (map version_columns lines) (version_columns line.0) all (maps_had version_columns lines line.0 line.1) in
      subst (λ (k : RowKey). FitsVersions k.0 k.1) (ap (λ (x : ℤ × RowKey × VersionEntryView). x.1) (sym line.2) ∙ e.2) fits

  pub versions_fit : HasNoDuplicates version_cmp (map version_entry lines) → (schemas : Schemas) (rows : Rows) → ((key : RowKey) → get versions_in key ≡ option_map stored_version (get rows key))
      → ((key : RowKey) (version : Version) → get rows key ≡ Some version → IsRow schemas key version) → ((key : RowKey) (version : Version) → get rows key ≡ Some version → IsTrue (is_subject key.0)) → AllByRecursion IsVersionRow (map version_columns lines)
  versions_fit apart schemas rows spelled are subjects = all_from IsVersionRow (map version_columns lines) (λ row there.
      let line = has_mapped version_columns lines row there in
      let es = map version_entry lines in
      let e = version_entry line.0 in
      let found = get-from_entries version_order.total (map without_rowid es) e.1 ∙ found_first version_cmp version_order es e apart.keys (maps_had version_entry lines line.0 line.1) in
      let it = was_written stored_version (get rows e.1) e.2 (sym (spelled e.1) ∙ found) in
      let fits : IsVersionRow (version_columns line.0) = record { subject = subjects e.1 it.0 it.1; within = (are e.1 it.0 it.1).within } in
      subst IsVersionRow (sym line.2) fits)
