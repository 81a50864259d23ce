-- What the checks of the eight tables prove: valid tables spell a registry, and the converse.
use Rattle.std.proofs.Common.{◌≡◌, inl, ℕ, ℤ, List, map, Option, Some, None, IsTrue, refl, sym, ap, subst, ◌∙◌, []}
use Rattle.std.specs.Prelude.{is_some, option_map, option_and_then, slice_get, string_bytes}
use Rattle.std.specs.List.{AllByRecursion, IsDistinct}
use Rattle.std.specs.FinMap.{get, empty, from_entries, get-from_entries}
use Rattle.sqlite.specs.Effect.{Database, IsDatabase}
use Rattle.sqlite.specs.State.{State}
use Rattle.sqlite_rules.proofs.ListLemmas.{all_has, all_from}
use Rattle.reg_core.specs.declared.mode.Mode.{Mode}
use Rattle.reg_core.specs.declared.mode.Mode.TheVariants.{Readwrite}
use Rattle.reg_core.specs.Modes.{mode_of, mode_text}
use Rattle.reg_core.specs.Registry.{OwnModes, no_own}
use Rattle.reg_core.specs.Stored.{Stored}
use Rattle.reg_core.specs.Subjects.{is_subject}
use Rattle.reg_tables.specs.declared.modes.RawMode.{RawMode}
use Rattle.reg_tables.specs.declared.evidence.RawEvidence.{RawEvidence}
use Rattle.reg_tables.specs.declared.evidence.RawAgainst.{RawAgainst}
use Rattle.reg_tables.specs.Layout.{IsLayoutOne, IsOpenable, HasEightTables, table_at}
use Rattle.reg_tables.specs.Contents.{text_cmp, version_cmp, TextMap, pair_form, position_cmp, evidence_form, against_form, TableName, Against, Contents, HoldsContents}
use Rattle.reg_tables.specs.Reads.{CanBeReadIn}
use Rattle.reg_tables.specs.Listings.{HasNoDuplicates, without_rowid, mode_entry, evidence_entry, against_entry, ListsModes, ListsEvidence, ListsAgainst}
use Rattle.reg_tables.specs.Inside.AllRawRows.{contents_of}
use Rattle.reg_tables.proofs.KeyedTables.{text_order, distinct_texts, version_order, distinct_versions, distinct_numbers}
use Rattle.reg_tables.proofs.ListMembers.{has_mapped, maps_had}
use Rattle.reg_tables.proofs.ListingLemmas.{found_first, find_had, listed_if_shown}
use Rattle.reg_tables.proofs.Tables.{openable_has_eight, shown_by, has_table}
use Rattle.reg_tables.proofs.Keys.{distinct_positions, position_order}
use Rattle.reg_tables.proofs.UniqueKeys.{modes_apart, evidence_apart, against_apart, layout_keys, two_keys, rowids_of}
use Rattle.reg_tables.proofs.Opening.{listed_in, nothing_listed}
use Rattle.reg_rows.specs.Spelling.{FitsModes}
use Rattle.reg_store.specs.declared.layout.Layout.TheVariants.{One}
use Rattle.reg_store.specs.Spells.{SpellsLayoutOne, SpellsUnopened, SpellsWhileOpen}
use Rattle.reg_store.specs.Inside.TableChecks.{AreDistinct, mode_fits, EvidenceFits, BaseTablesPass, SpellsSome, AllTablesPass}
use Rattle.reg_store.proofs.EvidenceMaps.{spelled_if_evidence, evidence_if_spelled}
use Rattle.reg_store.proofs.EvidenceRows.{evidence_if_fits, level_fits, positions_fit, in_sequence}
use Rattle.reg_store.proofs.MetaRows.{mode_spelt, meta_is, layout_two_meta_is}
use Rattle.reg_store.proofs.ReadBack.{mode_of-mode_text}
use Rattle.reg_store.proofs.Spelling.{spelled_beside}
use Rattle.reg_store.proofs.CheckLemmas.{lines_in, apart_if_passed, lists_if_passed, holds_if_passed, spelled_if_passed}
use Rattle.reg_store.proofs.Readable.{all_readable}
use Rattle.reg_store.proofs.Texts.{was_written}

-- ---- modes

mode_spelt_back : (o : Option (List ℕ)) → ((v : List ℕ) → o ≡ Some v → IsTrue (is_some (mode_of v))) → o ≡ option_map mode_text (option_and_then mode_of o)
mode_spelt_back None f = refl
mode_spelt_back (Some v) f = go (mode_of v) refl (f v refl)
  where
    go : (r : Option Mode) → mode_of v ≡ r → IsTrue (is_some r) → Some v ≡ option_map mode_text r
    go None e h = absurd (cc)
    go (Some mode) e h = ap Some (mode_spelt v mode e)

module _ (lines : List RawMode) where
  abbrev modes_in : TextMap (List ℕ)
  modes_in = from_entries (map without_rowid (map mode_entry lines))

  mode_fits_at : AllByRecursion mode_fits lines → (subject mode : List ℕ) → get modes_in subject ≡ Some mode → FitsModes subject mode
  mode_fits_at all subject mode there =
      let es = map mode_entry lines in
      let e = find_had text_cmp text_order es subject mode (sym (get-from_entries text_order.total (map without_rowid es) subject) ∙ there) in
      let l = has_mapped mode_entry lines e.0 e.1 in
      let row = all_has mode_fits lines l.0 all l.1 in
      subst (λ q. FitsModes q mode) (ap (λ (y : ℤ × List ℕ × List ℕ). y.1) (sym l.2) ∙ e.2)
      (subst (FitsModes (string_bytes l.0.subject)) (ap (λ (y : ℤ × List ℕ × List ℕ). y.2) (sym l.2) ∙ e.3) row)

  modes_fit : HasNoDuplicates text_cmp (map mode_entry lines) → (own : OwnModes) → ((subject : List ℕ) → get modes_in subject ≡ option_map mode_text (own subject))
      → ((subject : List ℕ) (mode : Mode) → own subject ≡ Some mode → IsTrue (is_subject subject)) → AllByRecursion mode_fits lines
  modes_fit apart own modes subjects = all_from mode_fits lines (λ line there.
      let es = map mode_entry lines in
      let e = mode_entry line in
      let found = get-from_entries text_order.total (map without_rowid es) e.1 ∙ found_first text_cmp text_order es e apart.keys (maps_had mode_entry lines line there) in
      let it = was_written mode_text (own e.1) e.2 (sym (modes e.1) ∙ found) in
      record { subject = subjects e.1 it.0 it.1; mode = ap (λ v. is_some (mode_of v)) it.2 ∙ ap is_some (mode_of-mode_text it.0) })

  subject_owns : AllByRecursion mode_fits lines → (subject : List ℕ) (mode : Mode) → option_and_then mode_of (get modes_in subject) ≡ Some mode → IsTrue (is_subject subject)
  subject_owns all subject mode h = go (get modes_in subject) refl h
    where
      go : (o : Option (List ℕ)) → get modes_in subject ≡ o → option_and_then mode_of o ≡ Some mode → IsTrue (is_subject subject)
      go None e h = absurd (cc)
      go (Some v) e h = (mode_fits_at all subject v e).subject

-- ---- tables that spell a registry are valid

module _ (db : Database) (s : SpellsSome SpellsUnopened db) where
  abbrev held : Contents
  held = s.spells.contents

  there : IsOpenable db.schema
  there = subst IsOpenable (sym s.spells.holds.declared) s.spells.known

  known : HasEightTables db.schema
  known = openable_has_eight db.schema there

  holds : HoldsContents db.schema db held
  holds = subst (λ x. HoldsContents x db held) (sym s.spells.holds.declared) s.spells.holds

  modes_shown : (lines : List RawMode) → ListsModes db lines → HasNoDuplicates text_cmp (map mode_entry lines) × (held.modes ≡ modes_in lines)
  modes_shown lines lists = let shown = listed_if_shown pair_form text_cmp text_order distinct_texts (db.trees (table_at db.schema 5).tree) (map mode_entry lines) lists held.modes distinct_texts (shown_by holds TableName.Modes known) in (shown.apart, shown.is)

  pub modes_pass : (lines : List RawMode) → ListsModes db lines → AreDistinct (map (λ (line : RawMode). line.rowid) lines) × AllByRecursion mode_fits lines
  modes_pass lines lists =
      let shown = modes_shown lines lists in (
        subst AreDistinct (rowids_of mode_entry (λ (line : RawMode). line.rowid) (λ line. refl) lines) shown.0.rowids,
        modes_fit lines shown.0 s.stored.registry.own_modes (λ subject. ap (λ m. get m subject) (sym shown.1) ∙ s.spells.spelled.modes subject) s.spells.spelled.owners,
      )

  pub evidence_passes : (evidence : List RawEvidence) (against : List RawAgainst) → ListsEvidence db evidence → ListsAgainst db against → EvidenceFits evidence against
  evidence_passes evidence against lists positions =
      let levels = listed_if_shown evidence_form version_cmp version_order distinct_versions (db.trees (table_at db.schema 6).tree) (map evidence_entry evidence) lists held.evidence distinct_texts (shown_by holds TableName.Evidence known) in
      let ids = listed_if_shown against_form position_cmp position_order distinct_positions (db.trees (table_at db.schema 7).tree) (map against_entry against) positions held.against distinct_numbers (shown_by holds Against known) in
      let rows = evidence_if_spelled held s.stored.evidence s.spells.spelled.evidence in
      record {
        apart = subst AreDistinct (rowids_of evidence_entry (λ (line : RawEvidence). line.rowid) (λ line. refl) evidence) levels.apart.rowids;
        fit = level_fits evidence against levels.apart ids.apart held levels.is ids.is rows;
        against_rowids_apart = subst AreDistinct (rowids_of against_entry (λ (line : RawAgainst). line.rowid) (λ line. refl) against) ids.apart.rowids;
        positions_fit = positions_fit evidence against levels.apart ids.apart held levels.is ids.is rows;
        placed = in_sequence evidence against levels.apart ids.apart held levels.is ids.is rows;
      }

pub all_tables_known : (db : Database) → SpellsSome SpellsUnopened db → HasEightTables db.schema
all_tables_known db s = known db s

pub can_read_all_tables : (s : State) (was : Stored) → SpellsWhileOpen s was → CanBeReadIn HasEightTables s
can_read_all_tables s was over is_open =
    let it = (over is_open).spells in
    let tables = openable_has_eight it.schema (inl it.known) in
    record { schema = it.schema; known = tables; contents = it.contents; holds = it.holds; readable = all_readable s.now was it tables }

pub some_can_read_all : (s : State) → (IsTrue s.is_open → SpellsSome SpellsUnopened s.now) → CanBeReadIn HasEightTables s
some_can_read_all s over is_open =
    let it = over is_open in
    let tables = openable_has_eight it.spells.schema it.spells.known in
    record { schema = it.spells.schema; known = tables; contents = it.spells.contents; holds = it.spells.holds; readable = all_readable s.now it.stored it.spells tables }

-- ---- valid tables spell a registry

pub spelled_if_base_passed : (db : Database) → IsLayoutOne db.schema → IsDatabase db → BaseTablesPass One db → SpellsSome SpellsLayoutOne db
unfolding IsDistinct
spelled_if_base_passed db known sound p =
    let keys = layout_keys db.schema known in
    let lines = lines_in p.meta.lines p.rest [] [] [] in
    let none = nothing_listed db.schema known db.trees in
    let apart = apart_if_passed db keys sound p.meta.lines p.meta.lists p.meta.apart p.rest [] [] [] (record { rowids = tt; keys = tt }) (record { rowids = tt; keys = tt }) (record { rowids = tt; keys = tt }) in
    let all = lists_if_passed db keys sound p.meta.lines p.meta.lists p.meta.apart p.rest [] [] [] none.0 none.1 none.2 in
    let it = spelled_if_passed db keys sound p.meta.lines p.meta.lists p.meta.apart p.rest [] [] [] apart all in
    let meta = meta_is p.meta.lines p.meta.fit in
    record {
      stored = record { registry = record it.0 { global = meta.0; global_mode = Readwrite; own_modes = no_own }; replies = it.1; evidence = empty };
      spells = record {
        schema = db.schema;
        known = known;
        contents = contents_of lines;
        holds = holds_if_passed db keys sound p.meta.lines p.meta.lists p.meta.apart p.rest [] [] [] apart all;
        spelled = record {
          base = spelled_beside (contents_of lines) it.0 it.1 it.2 (contents_of lines) (refl, refl, refl, refl) meta.0 Readwrite no_own;
          meta = meta.1;
          modes = record { global = refl; own = λ subject. refl };
          evidence = refl;
        };
      };
    }

pub spelled_if_all_passed : (db : Database) → IsOpenable db.schema → IsDatabase db → AllTablesPass db → SpellsSome SpellsUnopened db
spelled_if_all_passed db known sound p =
    let keys = two_keys db.schema known in
    let tables = openable_has_eight db.schema known in
    let rest = p.base.rest in
    let metas = p.base.meta in
    let modes = p.added.modes in
    let evidence = p.added.evidence in
    let versions_apart = evidence_apart db known sound evidence.evidence evidence.lists.0 evidence.fits.apart in
    let positions_apart = against_apart db known sound evidence.against evidence.lists.1 evidence.fits.against_rowids_apart in
    let lines = lines_in metas.lines rest modes.lines evidence.evidence evidence.against in
    let apart = apart_if_passed db keys sound metas.lines metas.lists metas.apart rest modes.lines evidence.evidence evidence.against (modes_apart db known sound modes.lines modes.lists modes.apart) versions_apart positions_apart in
    let all = lists_if_passed db keys sound metas.lines metas.lists metas.apart rest modes.lines evidence.evidence evidence.against
    (listed_in pair_form db.trees _ (slice_get db.schema.tables 5) (map mode_entry modes.lines) (has_table db.schema TableName.Modes tables) modes.lists) (listed_in evidence_form db.trees _ (slice_get db.schema.tables 6) (map evidence_entry evidence.evidence) (has_table db.schema TableName.Evidence tables) evidence.lists.0)
    (listed_in against_form db.trees _ (slice_get db.schema.tables 7) (map against_entry evidence.against) (has_table db.schema Against tables) evidence.lists.1) in
    let it = spelled_if_passed db keys sound metas.lines metas.lists metas.apart rest modes.lines evidence.evidence evidence.against apart all in
    let meta = layout_two_meta_is metas.lines metas.fit in
    let held = contents_of lines in
    let own = λ (subject : List ℕ). option_and_then mode_of (get (modes_in modes.lines) subject) in
    let admitted = spelled_if_evidence held (evidence_if_fits evidence.evidence evidence.against versions_apart positions_apart held refl refl evidence.fits.fit evidence.fits.positions_fit evidence.fits.placed) in
    record {
      stored = record { registry = record it.0 { global = meta.0; global_mode = meta.1; own_modes = own }; replies = it.1; evidence = admitted.0 };
      spells = record {
        schema = db.schema;
        known = known;
        contents = held;
        holds = holds_if_passed db keys sound metas.lines metas.lists metas.apart rest modes.lines evidence.evidence evidence.against apart all;
        spelled = record {
          base = spelled_beside held it.0 it.1 it.2 held (refl, refl, refl, refl) meta.0 meta.1 own;
          meta = meta.2;
          modes = λ subject. mode_spelt_back (get (modes_in modes.lines) subject) (λ v there. (mode_fits_at modes.lines modes.fit subject v there).mode);
          owners = subject_owns modes.lines modes.fit;
          evidence = admitted.1;
        };
      };
    }
