-- Valid rows are those of tables that spell a registry, and the converse.
use Rattle.std.proofs.Common.{◌≡◌, ℕ, ℤ, List, [], ◌∷◌, map, Option, Some, None, Bool, true, refl, sym, ap, subst, ◌∙◌, inl, inr, arith}
use Rattle.std.specs.Prelude.{IsTrue, bytes_eq, is_some, option_map, option_and_then, string_bytes}
use Rattle.std.specs.Prelude as list
use Rattle.std.specs.List.{AllByRecursion}
use Rattle.std.specs.FinMap.{get, from_entries, get-from_entries}
use Rattle.std.proofs.lemmas.Bool.{cases_Bool}
use Rattle.std.proofs.lemmas.Slice.Eq.{bytes_eq-Decides}
use Rattle.std.proofs.lemmas.Str.{IsUtf8-string_bytes}
use Rattle.sqlite_rules.proofs.ListLemmas.{all_has, all_from}
use Rattle.reg_core.specs.declared.level.Level.{Level}
use Rattle.reg_core.specs.declared.level.Level.TheVariants.{Backward}
use Rattle.reg_core.specs.declared.mode.Mode.TheVariants.{Readwrite}
use Rattle.reg_core.specs.Levels.{level_text, level_of, levels}
use Rattle.reg_core.specs.Replies.{IsKeptStatus}
use Rattle.reg_core.specs.Subjects.{is_subject}
use Rattle.avro_nodes.specs.Identity.{identity}
use Rattle.reg_core.specs.Registry.{RowKey, Registry, OwnLevels, no_own, schema_at}
use Rattle.reg_tables.specs.declared.levels.RawLevel.{RawLevel}
use Rattle.reg_tables.specs.declared.kept.RawKept.{RawKept}
use Rattle.reg_tables.specs.Contents.{text_cmp, TextMap, VersionEntryView, KeptReplyView, TableName, Contents}
use Rattle.reg_tables.specs.Listings.{HasNoDuplicates, without_rowid, level_entry, kept_entry}
use Rattle.reg_tables.specs.Inside.AllRawRows.{RawRows, HaveNoDuplicates, contents_of}
use Rattle.reg_tables.proofs.ListMembers.{has_mapped, maps_had}
use Rattle.reg_tables.proofs.KeyedTables.{text_order}
use Rattle.reg_tables.proofs.ListingLemmas.{found_first, find_had}
use Rattle.reg_rows.specs.Spelling.{FitsLevels, AreTexts, IsVersionRow, IsLevelRow, IsKeptRow}
use Rattle.reg_core.specs.KeptReplies.{KeptEntry, Kept}
use Rattle.reg_store.specs.Spells.{CanBeKept, IsSpelled, stored_reply}
use Rattle.reg_store.specs.Opening.{text_columns, version_columns, level_columns, kept_columns}
use Rattle.reg_store.proofs.ReadBack.{level_of-level_text}
use Rattle.reg_store.proofs.Texts.{was_written}
use Rattle.reg_store.proofs.Ids.{schema_within}
use Rattle.reg_store.proofs.Schemas.{schemas_in, all_schemas, length_schemas, utf8_schemas, texts_spelled, rows_in, versions_spelled, row_there, version_fits}

-- ---- levels and their texts

pub find_passes : {X : Type 0} (p : X → Bool) (xs : List X) (x : X) → list.find p xs ≡ Some x → p x ≡ true
find_passes p [] x h = absurd (cc)
find_passes p (y ∷ ys) x h = elim (cases_Bool (p y)) [ inl is ↦ let same : y ≡ x = (let e = rw is at h in cc) in ap p (sym same) ∙ is | inr other ↦ find_passes p ys x (rw other at h) ]

-- each level has one text
pub spelt : (text : List ℕ) (level : Level) → level_of text ≡ Some level → text ≡ level_text level
spelt text level h = (bytes_eq-Decides text (level_text level)).0 (find_passes (λ l. bytes_eq text (level_text l)) levels level h)

spelt_back : (o : Option (List ℕ)) → ((v : List ℕ) → o ≡ Some v → IsTrue (is_some (level_of v))) → o ≡ option_map level_text (option_and_then level_of o)
spelt_back None f = refl
spelt_back (Some v) f = go (level_of v) refl (f v refl)
  where
    go : (r : Option Level) → level_of v ≡ r → is_some r ≡ true → Some v ≡ option_map level_text r
    go None e h = absurd (cc)
    go (Some level) e h = ap Some (spelt v level e)

-- ---- table by table

abbrev entry_in : KeptReplyView → KeptEntry
entry_in row = record { command = row.command; reply = record { status = row.status; body = row.body } }

row_back : (o : Option KeptReplyView) → o ≡ option_map stored_reply (option_map entry_in o)
row_back None = refl
row_back (Some row) = refl

module _ (lines : List RawLevel) where
  abbrev pub levels_in : TextMap (List ℕ)
  levels_in = from_entries (map without_rowid (map level_entry lines))

  level_fits : AllByRecursion IsLevelRow (map level_columns lines) → (subject level : List ℕ) → get levels_in subject ≡ Some level → FitsLevels subject level
  level_fits all subject level there =
      let es = map level_entry lines in
      let e = find_had text_cmp text_order es subject level (sym (get-from_entries text_order.total (map without_rowid es) subject) ∙ there) in
      let l = has_mapped level_entry lines e.0 e.1 in
      let row = all_has IsLevelRow (map level_columns lines) (level_columns l.0) all (maps_had level_columns lines l.0 l.1) in
      subst (λ q. FitsLevels q level) (ap (λ (y : ℤ × List ℕ × List ℕ). y.1) (sym l.2) ∙ e.2)
      (subst (FitsLevels (string_bytes l.0.subject)) (ap (λ (y : ℤ × List ℕ × List ℕ). y.2) (sym l.2) ∙ e.3) row)

  pub levels_fit : HasNoDuplicates text_cmp (map level_entry lines) → (own : OwnLevels) → ((subject : List ℕ) → get levels_in subject ≡ option_map level_text (own subject))
      → ((subject : List ℕ) (level : Level) → own subject ≡ Some level → IsTrue (is_subject subject)) → AllByRecursion IsLevelRow (map level_columns lines)
  levels_fit apart own levels subjects = all_from IsLevelRow (map level_columns lines) (λ row there.
      let l = has_mapped level_columns lines row there in
      let es = map level_entry lines in
      let e = level_entry l.0 in
      let found = get-from_entries text_order.total (map without_rowid es) e.1 ∙ found_first text_cmp text_order es e apart.keys (maps_had level_entry lines l.0 l.1) in
      let it = was_written level_text (own e.1) e.2 (sym (levels e.1) ∙ found) in
      let fits : IsLevelRow (level_columns l.0) = record { subject = subjects e.1 it.0 it.1; level = ap (λ v. is_some (level_of v)) it.2 ∙ ap is_some (level_of-level_text it.0) } in
      subst IsLevelRow (sym l.2) fits)

module _ (lines : List RawKept) where
  abbrev pub kept_in : TextMap KeptReplyView
  kept_in = from_entries (map without_rowid (map kept_entry lines))

  kept_fits : AllByRecursion IsKeptRow (map kept_columns lines) → (key : List ℕ) (row : KeptReplyView) → get kept_in key ≡ Some row → CanBeKept key (entry_in row)
  kept_fits all key kept there =
      let es = map kept_entry lines in
      let e = find_had text_cmp text_order es key kept (sym (get-from_entries text_order.total (map without_rowid es) key) ∙ there) in
      let l = has_mapped kept_entry lines e.0 e.1 in
      let row = all_has IsKeptRow (map kept_columns lines) (kept_columns l.0) all (maps_had kept_columns lines l.0 l.1) in
      let fits : CanBeKept (string_bytes l.0.key) (entry_in (kept_entry l.0).2) = record { is_key = row.key; status = row.status; text = IsUtf8-string_bytes l.0.reply.command; body = IsUtf8-string_bytes l.0.reply.body } in
      subst (λ (q : List ℕ). CanBeKept q (entry_in kept)) (ap (λ (y : ℤ × List ℕ × KeptReplyView). y.1) (sym l.2) ∙ e.2)
      (subst (λ (r : KeptReplyView). CanBeKept (string_bytes l.0.key) (entry_in r)) (ap (λ (y : ℤ × List ℕ × KeptReplyView). y.2) (sym l.2) ∙ e.3) fits)

  pub kept_fit : HasNoDuplicates text_cmp (map kept_entry lines) → (k : Kept) → ((key : List ℕ) → get kept_in key ≡ option_map stored_reply (k key)) → ((key : List ℕ) (entry : KeptEntry) → k key ≡ Some entry → CanBeKept key entry)
      → AllByRecursion IsKeptRow (map kept_columns lines)
  kept_fit apart k kept keys = all_from IsKeptRow (map kept_columns lines) (λ row there.
      let l = has_mapped kept_columns lines row there in
      let es = map kept_entry lines in
      let e = kept_entry l.0 in
      let found = get-from_entries text_order.total (map without_rowid es) e.1 ∙ found_first text_cmp text_order es e apart.keys (maps_had kept_entry lines l.0 l.1) in
      let it = was_written stored_reply (k e.1) e.2 (sym (kept e.1) ∙ found) in
      let can = keys e.1 it.0 it.1 in
      let fits : IsKeptRow (kept_columns l.0) = record { key = can.is_key; status = subst IsKeptStatus (sym (ap (λ (r : KeptReplyView). r.status) it.2)) can.status } in
      subst IsKeptRow (sym l.2) fits)

-- ---- the tables that each layout has

module _ (lines : RawRows) (apart : HaveNoDuplicates lines) where
  abbrev held : Contents
  held = contents_of lines

  -- valid rows spell a registry if the texts differ and the id of each version has a text
  pub spelled_if_rows : ((i j : ℕ) (text : List ℕ) → get held.texts i ≡ Some text → get held.texts j ≡ Some text → i ≡ j)
      → ((key : RowKey) (row : VersionEntryView) → get held.versions key ≡ Some row → (text : List ℕ) × (get held.texts row.id ≡ Some text))
      → AreTexts (map text_columns (lines TableName.Texts)) → AllByRecursion IsVersionRow (map version_columns (lines TableName.Versions)) → AllByRecursion IsLevelRow (map level_columns (lines TableName.Levels)) → AllByRecursion IsKeptRow (map kept_columns (lines TableName.Kept))
      → (g : Registry) × (k : Kept) × IsSpelled held g k
  spelled_if_rows unique refers texts versions levels kept =
      let schemas = schemas_in (lines TableName.Texts) texts.identities in
      let own = λ (subject : List ℕ). option_and_then level_of (get held.levels subject) in
      let replies = λ (key : List ℕ). option_map entry_in (get held.kept key) in
      let spelled = texts_spelled (lines TableName.Texts) texts in (
        record { schemas = schemas; rows = rows_in held.versions; global = Backward; own = own; global_mode = Readwrite; own_modes = no_own },
        replies,
        record {
          registry = record {
            schemas = all_schemas (lines TableName.Texts) texts.identities;
            few = (let few = texts.few in let same = length_schemas (lines TableName.Texts) texts.identities in omega (arith, few, same));
            apart = λ i j one other here there same. unique i j (identity one) (spelled i ∙ ap (option_map identity) here) (spelled j ∙ ap (option_map identity) there ∙ ap Some (sym same));
            rows = λ key version there.
                let row = row_there held.versions key version there in
                let text = refers key row.0 row.1 in
                let it = was_written identity (schema_at schemas row.0.id) text.0 (sym (spelled row.0.id) ∙ text.1) in
                record { within = (version_fits (lines TableName.Versions) versions key row.0 row.1).within; has_schema = rw row.2 (schema_within schemas row.0.id it.0 it.1) };
          };
          texts = spelled;
          utf8 = utf8_schemas (lines TableName.Texts) texts.identities;
          versions = versions_spelled held.versions;
          registered = λ key version there. let row = row_there held.versions key version there in (version_fits (lines TableName.Versions) versions key row.0 row.1).subject;
          levels = λ subject. spelt_back (get held.levels subject) (λ v there. (level_fits (lines TableName.Levels) levels subject v there).level);
          subjects = λ subject level there. subject_fits subject level (get held.levels subject) refl there;
          kept = λ key. row_back (get held.kept key);
          keys = λ key entry there. let it = was_written entry_in (get held.kept key) entry there in subst (CanBeKept key) (sym it.2) (kept_fits (lines TableName.Kept) kept key it.0 it.1);
        },
      )
    where
      subject_fits : (subject : List ℕ) (level : Level) (o : Option (List ℕ)) → get held.levels subject ≡ o → option_and_then level_of o ≡ Some level → IsTrue (is_subject subject)
      subject_fits subject level None e h = absurd (cc)
      subject_fits subject level (Some v) e h = (level_fits (lines TableName.Levels) levels subject v e).subject
