-- What the checks of the tables prove: valid tables spell a registry, and the converse.
use Rattle.std.proofs.Common.{◌⊎◌, ◌≡◌, ℕ, List, [], ◌∷◌, map, length, Bool, false, None, Ok, Err, Result, IsTrue, refl, sym, ap, subst, ◌∙◌, arith, slice_get}
use Rattle.std.specs.Prelude.{IfOk, IfErr, OnOk, IsErrAnd, ◌↔◌, ℤ, Vec}
use Rattle.std.specs.declared.alloc.Global.{Global}
use Rattle.std.proofs.lemmas.Bool.{both_ways}
use Rattle.std.specs.List.{AllByRecursion}
use Rattle.std.specs.List.Sorted.{IsPermutation}
use Rattle.std.proofs.lemmas.List.{length-map}
use Rattle.std.proofs.lemmas.List.Sorted.{IsPermutation-map, IsPermutation-trans, length_permutation}
use Rattle.std.specs.FinMap.{get}
use Rattle.sqlite.specs.Schema.{Schema}
use Rattle.sqlite.specs.Effect.{Database, IsDatabase}
use Rattle.sqlite.specs.Held.{Held, state}
use Rattle.sqlite.specs.State.{State, HasCleanDisk}
use Rattle.sqlite.specs.declared.error.Error.{Error}
use Rattle.sqlite_trees.specs.declared.store.Store.{Ghosts}
use Rattle.reg_core.specs.Registry.{Registry}
use Rattle.reg_tables.specs.declared.raw_texts.RawText.{RawText}
use Rattle.reg_tables.specs.declared.versions.RawVersion.{RawVersion}
use Rattle.reg_tables.specs.declared.levels.RawLevel.{RawLevel}
use Rattle.reg_tables.specs.declared.kept.RawKept.{RawKept}
use Rattle.reg_tables.specs.declared.meta.RawMeta.{RawMeta}
use Rattle.reg_tables.specs.declared.modes.RawMode.{RawMode}
use Rattle.reg_tables.specs.declared.evidence.RawEvidence.{RawEvidence}
use Rattle.reg_tables.specs.declared.evidence.RawAgainst.{RawAgainst}
use Rattle.reg_tables.specs.Layout.{HasFiveTables, texts, versions, levels, kept}
use Rattle.reg_tables.specs.Contents.{text_form, version_form, pair_form, kept_form, evidence_form, against_form, text_cmp, version_cmp, position_cmp, TableName, HoldsContents}
use Rattle.reg_tables.specs.Frames.{ReadsInAutocommit}
use Rattle.reg_tables.specs.Listings.{HasNoDuplicates, parts_of, entry_parts, text_entry, version_entry, level_entry, kept_entry, mode_entry, evidence_entry, against_entry, ListsTexts, ListsVersions, ListsLevels, ListsKept, ListsMeta}
use Rattle.reg_tables.specs.Inside.AllRawRows.{ListsIn, ListsAll, HaveNoDuplicates, RawRows, contents_of}
use Rattle.reg_tables.specs.Reads.{CanBeRead}
use Rattle.reg_tables.specs.FailedCalls.{IsFault, IsUnreadable}
use Rattle.reg_tables.proofs.KeyedTables.{text_order, distinct_texts, number_order, distinct_numbers, version_order, distinct_versions}
use Rattle.reg_tables.proofs.ListingLemmas.{listed_if_shown}
use Rattle.reg_tables.proofs.Opening.{holds_if_listed, lists_by_name}
use Rattle.reg_tables.proofs.Keys.{distinct_version_rows, distinct_kept_rows}
use Rattle.reg_tables.proofs.Statements.{laid_out}
use Rattle.reg_tables.proofs.Tables.{five}
use Rattle.reg_tables.proofs.UniqueKeys.{HasFiveKeys, one_keys, apart_by_id, versions_apart, levels_apart, kept_apart, meta_apart, rowids_of}
use Rattle.reg_rows.specs.Spelling.{Text, AreTexts, IsVersionRow, IsLevelRow, IsKeptRow}
use Rattle.reg_store.specs.declared.error.StoreError.{StoreError}
use Rattle.reg_store.specs.declared.error.StoreError.TheVariants.{Memory, NotARegistry}
use Rattle.reg_store.specs.Failures.{failure_of, IsFaultBy, HasDiskCause}
use Rattle.reg_store.specs.Opening.{text_columns, version_columns, level_columns, kept_columns, HasVersionRows}
use Rattle.reg_core.specs.KeptReplies.{Kept}
use Rattle.reg_core.specs.Stored.{Stored}
use Rattle.reg_store.specs.Spells.{IsSpelled}
use Rattle.reg_store.specs.Inside.Reads.{SpellsBase}
use Rattle.reg_store.specs.Inside.TableChecks.{AreDistinct, Passes, version_fits, level_fits, kept_fits, SpellsSome, Checks, RestPasses}
use Rattle.reg_store.proofs.Bridge.{levels_fit, kept_fit, spelled_if_rows}
use Rattle.reg_store.proofs.Numbering.{Rises, ids_apart}
use Rattle.reg_store.proofs.Schemas.{texts_fit, versions_fit}
use Rattle.reg_tables.proofs.References.{one_id, has_text}
use Rattle.reg_tables.proofs.Transactions.{survives_both, if_ok, if_err}
use Rattle.reg_store.proofs.Failing.{fault_by, by_since, disk_cause_by, disk_cause_since}
use Rattle.reg_store.proofs.Rereading.{reads_then, same_now}

-- ---- lines and rows

pub each_row : {A B : Type 0} (f : A → B) (P : B → Type 0) (xs : List A) → AllByRecursion (λ x. P (f x)) xs → AllByRecursion P (map f xs)
each_row f P [] h = tt
each_row f P (x ∷ xs) h = (h.0, each_row f P xs h.1)

each_line : {A B : Type 0} (f : A → B) (P : B → Type 0) (xs : List A) → AllByRecursion P (map f xs) → AllByRecursion (λ x. P (f x)) xs
each_line f P [] h = tt
each_line f P (x ∷ xs) h = (h.0, each_line f P xs h.1)

pub lists_sorted : (db : Database) (old new : List RawText) → IsPermutation old new → ListsTexts db old → ListsTexts db new
lists_sorted db old new same lists = IsPermutation-trans _ _ _ lists (IsPermutation-map (entry_parts text_form) _ _ (IsPermutation-map text_entry old new same))

pub versions_counted : (db : Database) (lines : List RawVersion) → ListsVersions db lines → HasVersionRows db (length lines)
versions_counted db lines lists =
    sym (length-map (map version_entry lines) (entry_parts version_form) ∙ length-map lines version_entry) ∙ length_permutation _ _ lists ∙ length-map (db.trees versions.tree) (parts_of version_form)

-- ---- tables that spell a registry pass

pub is_known : (db : Database) (was : Stored) → SpellsBase db was → HasFiveTables db.schema
is_known db was s = laid_out s.holds s.first

module _ (db : Database) (was : Stored) (s : SpellsBase db was) where
  pub texts_pass : (lines : List RawText) → ListsTexts db lines → Rises (map (λ (row : ℕ × Text). row.0) (map text_columns lines)) → AreTexts (map text_columns lines)
  texts_pass lines lists rising =
      let shown = listed_if_shown text_form _ number_order distinct_numbers (db.trees texts.tree) (map text_entry lines) lists s.contents.texts distinct_texts (five s.holds s.first).texts in
      texts_fit lines shown.apart was.registry.schemas s.spelled.registry.schemas s.spelled.registry.few (λ id. sym (ap (λ m. get m id) shown.is) ∙ s.spelled.texts id) rising

  pub versions_pass : (lines : List RawVersion) → ListsVersions db lines → AreDistinct (map (λ (line : RawVersion). line.rowid) lines) × AllByRecursion version_fits lines
  versions_pass lines lists =
      let shown = listed_if_shown version_form version_cmp version_order distinct_versions (db.trees versions.tree) (map version_entry lines) lists s.contents.versions distinct_version_rows (five s.holds s.first).versions in (
        subst AreDistinct (rowids_of version_entry (λ (line : RawVersion). line.rowid) (λ line. refl) lines) shown.apart.rowids,
        each_line version_columns IsVersionRow lines (versions_fit lines shown.apart was.registry.schemas was.registry.rows (λ key. sym (ap (λ m. get m key) shown.is) ∙ s.spelled.versions key) s.spelled.registry.rows s.spelled.registered),
      )

  pub levels_pass : (lines : List RawLevel) → ListsLevels db lines → AreDistinct (map (λ (line : RawLevel). line.rowid) lines) × AllByRecursion level_fits lines
  levels_pass lines lists =
      let shown = listed_if_shown pair_form text_cmp text_order distinct_texts (db.trees levels.tree) (map level_entry lines) lists s.contents.levels distinct_texts (five s.holds s.first).levels in (
        subst AreDistinct (rowids_of level_entry (λ (line : RawLevel). line.rowid) (λ line. refl) lines) shown.apart.rowids,
        each_line level_columns IsLevelRow lines (levels_fit lines shown.apart was.registry.own (λ q. sym (ap (λ m. get m q) shown.is) ∙ s.spelled.levels q) s.spelled.subjects),
      )

  pub kept_pass : (lines : List RawKept) → ListsKept db lines → AreDistinct (map (λ (line : RawKept). line.rowid) lines) × AllByRecursion kept_fits lines
  kept_pass lines lists =
      let shown = listed_if_shown kept_form text_cmp text_order distinct_texts (db.trees kept.tree) (map kept_entry lines) lists s.contents.kept distinct_kept_rows (five s.holds s.first).kept in (
        subst AreDistinct (rowids_of kept_entry (λ (line : RawKept). line.rowid) (λ line. refl) lines) shown.apart.rowids,
        each_line kept_columns IsKeptRow lines (kept_fit lines shown.apart was.replies (λ q. sym (ap (λ m. get m q) shown.is) ∙ s.spelled.kept q) s.spelled.keys),
      )

-- ---- tables that pass spell a registry

-- the lines of the tables; layout 1 has none of modes and of evidence
abbrev pub lines_in : {db : Database} → List RawMeta → RestPasses db → List RawMode → List RawEvidence → List RawAgainst → RawRows
lines_in meta rest modes evidence against TableName.Texts = rest.texts.lines
lines_in meta rest modes evidence against TableName.Versions = rest.versions.lines
lines_in meta rest modes evidence against TableName.Levels = rest.levels.lines
lines_in meta rest modes evidence against TableName.Kept = rest.kept.lines
lines_in meta rest modes evidence against TableName.Meta = meta
lines_in meta rest modes evidence against TableName.Modes = modes
lines_in meta rest modes evidence against TableName.Evidence = evidence
lines_in meta rest modes evidence against TableName.Against = against

module _ (db : Database) (known : HasFiveKeys db.schema) (sound : IsDatabase db) (meta : List RawMeta) (lists : ListsMeta db meta) (ids : AreDistinct (map (λ (line : RawMeta). line.rowid) meta)) (rest : RestPasses db)
    (modes : List RawMode) (evidence : List RawEvidence) (against : List RawAgainst) where
  abbrev lines : RawRows
  lines = lines_in meta rest modes evidence against

  pub apart_if_passed : HasNoDuplicates text_cmp (map mode_entry modes) → HasNoDuplicates version_cmp (map evidence_entry evidence) → HasNoDuplicates position_cmp (map against_entry against) → HaveNoDuplicates lines
  apart_if_passed m e a TableName.Texts = apart_by_id rest.texts.lines (ids_apart rest.texts.lines rest.texts.fit.numbered)
  apart_if_passed m e a TableName.Versions = versions_apart db known sound rest.versions.lines rest.versions.lists rest.versions.apart
  apart_if_passed m e a TableName.Levels = levels_apart db known sound rest.levels.lines rest.levels.lists rest.levels.apart
  apart_if_passed m e a TableName.Kept = kept_apart db known sound rest.kept.lines rest.kept.lists rest.kept.apart
  apart_if_passed m e a TableName.Meta = meta_apart db known sound meta lists ids
  apart_if_passed m e a TableName.Modes = m
  apart_if_passed m e a TableName.Evidence = e
  apart_if_passed m e a TableName.Against = a

  pub lists_if_passed : ListsIn pair_form db.trees (slice_get db.schema.tables 5) (map mode_entry modes) → ListsIn evidence_form db.trees (slice_get db.schema.tables 6) (map evidence_entry evidence) → ListsIn against_form db.trees (slice_get db.schema.tables 7) (map against_entry against)
      → ListsAll db.schema db.trees lines
  lists_if_passed = lists_by_name db.schema (one_keys db.schema known) db.trees lines rest.texts.lists rest.versions.lists rest.levels.lists rest.kept.lists lists

  module _ (apart : HaveNoDuplicates lines) (all : ListsAll db.schema db.trees lines) where
    pub holds_if_passed : HoldsContents db.schema db (contents_of lines)
    holds_if_passed = holds_if_listed db.schema db lines all refl sound apart

    pub spelled_if_passed : (g : Registry) × (k : Kept) × IsSpelled (contents_of lines) g k
    spelled_if_passed =
        spelled_if_rows lines apart (one_id db.schema db (contents_of lines) known holds_if_passed) (has_text db.schema db (contents_of lines) known holds_if_passed)
        rest.texts.fit (each_row version_columns IsVersionRow rest.versions.lines rest.versions.fit) (each_row level_columns IsLevelRow rest.levels.lines rest.levels.fit) (each_row kept_columns IsKeptRow rest.kept.lines rest.kept.fit)

-- ---- the result of a check

pub some_known : (db : Database) → SpellsSome SpellsBase db → HasFiveTables db.schema
some_known db s = is_known db s.stored s.spells

pub some_can_be_read : (s : State) → (IsTrue s.is_open → SpellsSome SpellsBase s.now) → CanBeRead s
some_can_be_read s over = λ is_open.
    let it = (over is_open).spells in
    record { schema = it.schema; known = it.first; contents = it.contents; holds = it.holds; readable = it.readable }

module _ {S X : Type 0} (g : Ghosts S) (old new : Held S) where
  pub framed : {Y E F : Type 0} (a : Result X E) (b : Result Y F) → ReadsInAutocommit g old new a → (HasCleanDisk (state g new) → OnOk b (IsTrue (state g old).is_open)) → ReadsInAutocommit g old new b
  framed a b f was_open = record { was_open = was_open; only_reads = f.only_reads; survives = f.survives }

module _ {S X Y : Type 0} {Declared : Schema → Type 0} {Spelled : Database → Type 0} {P : Y → Database → Type 0} (g : Ghosts S) (old new : Held S) where
  -- reading the table failed
  pub test_unread : {Readable : Type 0} (r : Result Y StoreError) (e : Error) → ((IsTrue (state g old).is_open → Spelled (state g old).now) → Readable) → old.step_limit ≡ None → ReadsInAutocommit {X = X} {E = Error} g old new (Err e)
      → (HasCleanDisk (state g new) → Readable → IsFault (state g old) (state g new) e)
      → (HasCleanDisk (state g new) → (IsTrue (state g old).is_open → Declared (state g old).now.schema) → IsFault (state g old) (state g new) e ⊎ IsUnreadable e) → IsErrAnd r (λ failure. failure ≡ failure_of e) → Checks Declared Spelled g old new r P
  test_unread (Ok x) e can unlimited f fault told is = absurd is
  test_unread (Err failure) e can unlimited f fault told is = record {
    frame = framed g old new (Err e) (Err failure) f (λ clean. tt);
    tells = λ clean. tt;
    fault = λ clean over. subst (IsFaultBy (state g old) (state g new)) (sym is) (fault_by (state g old) (state g new) e unlimited (fault clean (can over)));
    disk_cause = λ clean known. subst (HasDiskCause (state g old) (state g new)) (sym is) (disk_cause_by (state g old) (state g new) e unlimited (told clean known));
  }

module _ {S X : Type 0} {Declared : Schema → Type 0} {Spelled : Database → Type 0} (g : Ghosts S) (old new : Held S) where
  -- reading the table succeeded
  pub test_read : {P : X → Database → Type 0} (x : X) → ReadsInAutocommit {X = X} {E = Error} g old new (Ok x) → (HasCleanDisk (state g new) → Declared (state g old).now.schema → P x (state g old).now) → Checks Declared Spelled g old new (Ok x) P
  test_read x f tells = record { frame = framed g old new (Ok x) (Ok x) f f.was_open; tells = tells; fault = λ clean. tt; disk_cause = λ clean. tt }

  module _ {P : X → Database → Type 0} {x : X} (t : Checks Declared Spelled g old new (Ok x) P) where
    -- then allocation failed
    pub test_out_of_memory : {Y : Type 0} {Q : Y → Database → Type 0} (r : Result Y StoreError) → IsErrAnd r (λ failure. failure ≡ Memory) → Checks Declared Spelled g old new r Q
    test_out_of_memory (Ok y) is = absurd is
    test_out_of_memory (Err failure) is = record {
      frame = framed g old new (Ok x) (Err failure) t.frame (λ clean. tt);
      tells = λ clean. tt;
      fault = λ clean over. subst (IsFaultBy (state g old) (state g new)) (sym is) tt;
      disk_cause = λ clean known. subst (HasDiskCause (state g old) (state g new)) (sym is) tt;
    }

    -- the rows are valid, or not
    pub test_judged : {Q : Unit {0} → Database → Type 0} (r : Result (Unit {0}) StoreError) (b : Bool) → OnOk r (IsTrue b) → IfErr r (λ e. (e ≡ NotARegistry) × (b ≡ false)) → ((db : Database) → Spelled db → Declared db.schema)
        → ((db : Database) → P x db → IsTrue b → Q tt db) → ((db : Database) → P x db → b ≡ false → Spelled db → ⊥) → Checks Declared Spelled g old new r Q
    test_judged (Ok y) b ok err declared passes fails = record { frame = framed g old new (Ok x) (Ok y) t.frame t.frame.was_open; tells = λ clean known. passes (state g old).now (t.tells clean known) ok; fault = λ clean. tt; disk_cause = λ clean. tt }
    test_judged (Err e) b ok err declared passes fails = record {
      frame = framed g old new (Ok x) (Err e) t.frame (λ clean. tt);
      tells = λ clean. tt;
      fault = λ clean over.
          (let spelled = over (t.frame.was_open clean) in
          absurd (fails (state g old).now (t.tells clean (declared (state g old).now spelled)) err.1 spelled));
      disk_cause = λ clean known. subst (HasDiskCause (state g old) (state g new)) (sym err.0) tt;
    }

    -- the call returns another value
    pub test_tells : {Y : Type 0} {Q : Y → Database → Type 0} (y : Y) → ((db : Database) → P x db → Q y db) → Checks Declared Spelled g old new (Ok y) Q
    test_tells y f = record { frame = framed g old new (Ok x) (Ok y) t.frame t.frame.was_open; tells = λ clean known. f (state g old).now (t.tells clean known); fault = λ clean. tt; disk_cause = λ clean. tt }

  pub test_fails : {Y : Type 0} {P : X → Database → Type 0} {Q : Y → Database → Type 0} (r : Result Y StoreError) (e : StoreError) → Checks {X = X} Declared Spelled g old new (Err e) P → IsErrAnd r (λ failure. failure ≡ e) → Checks Declared Spelled g old new r Q
  test_fails (Ok y) e t is = absurd is
  test_fails (Err failure) e t is = record {
    frame = framed g old new (Err e) (Err failure) t.frame (λ clean. tt);
    tells = λ clean. tt;
    fault = λ clean over. subst (IsFaultBy (state g old) (state g new)) (sym is) (t.fault clean over);
    disk_cause = λ clean known. subst (HasDiskCause (state g old) (state g new)) (sym is) (t.disk_cause clean known);
  }

  pub test_says : {P Q : X → Database → Type 0} (r : Result X StoreError) → Checks Declared Spelled g old new r P → ((x : X) (db : Database) → P x db → Q x db) → Checks Declared Spelled g old new r Q
  test_says r t f = record { frame = t.frame; tells = λ clean. if_ok r (λ x p known. f x (state g old).now (p known)) (t.tells clean); fault = t.fault; disk_cause = t.disk_cause }

  -- the same if more is known of the tables
  pub test_of : {P : X → Database → Type 0} {IsAllowed : Schema → Type 0} {Spells : Database → Type 0} (r : Result X StoreError) → ((schema : Schema) → IsAllowed schema → Declared schema) → ((db : Database) → Spells db → Spelled db)
      → Checks Declared Spelled g old new r P → Checks IsAllowed Spells g old new r P
  test_of r declared spelled t = record {
    frame = t.frame;
    tells = λ clean. if_ok r (λ x p known. p (declared (state g old).now.schema known)) (t.tells clean);
    fault = λ clean. if_err r (λ e h over. h (λ is_open. spelled (state g old).now (over is_open))) (t.fault clean);
    disk_cause = λ clean. if_err r (λ e h known. h (λ is_open. declared (state g old).now.schema (known is_open))) (t.disk_cause clean);
  }

-- the rows of a table were read, and are checked one by one
module _ {S L : Type 0} {Declared : Schema → Type 0} {Spelled : Database → Type 0} {Lists : Database → List L → Type 0} {rowid_of : L → ℤ} {fits : L → Type 0} (g : Ghosts S) (old new : Held S) (lines : Vec L Global) (frame : ReadsInAutocommit {E = Error} g old new (Ok lines))
    (listed : HasCleanDisk (state g new) → Declared (state g old).now.schema → Lists (state g old).now lines.items) (slice : List L) (is : slice ≡ lines.items) (b : Bool) (judged : IsTrue b ↔ (AreDistinct (map rowid_of slice) × AllByRecursion fits slice)) where
  pub test_lines : (r : Result (Unit {0}) StoreError) → OnOk r (IsTrue b) → IfErr r (λ e. (e ≡ NotARegistry) × (b ≡ false)) → ((db : Database) → Spelled db → Declared db.schema)
      → ((db : Database) → Spelled db → Lists db lines.items → AreDistinct (map rowid_of lines.items) × AllByRecursion fits lines.items) → Checks Declared Spelled g old new r (λ _. Passes Lists rowid_of fits)
  test_lines r ok err declared passes =
      let Pass : List L → Type 0 = λ l. AreDistinct (map rowid_of l) × AllByRecursion fits l in
      test_judged g old new {P = λ l d. Lists d l.items} (test_read g old new lines frame listed) r b ok err declared
      (λ db lists yes. let both = subst Pass is (judged.0 yes) in record { lines = lines.items; lists = lists; apart = both.0; fit = both.1 })
      (λ db lists no spelled. both_ways _ no (judged.1 (subst Pass (sym is) (passes db spelled lists))))

-- ---- several checks in sequence

on_any : {X E P : Type 0} (r : Result X E) → P → OnOk r P
on_any (Ok x) p = p
on_any (Err e) p = tt

module _ {S : Type 0} {Declared : Schema → Type 0} {Spelled : Database → Type 0} (g : Ghosts S) (a b c : Held S) (settled : IsTrue (state g a).is_open → (state g a).now ≡ (state g a).committed) where
  -- the second check sees what the first saw
  pub tests_then : {X Y : Type 0} {P : X → Database → Type 0} {Q : Y → Database → Type 0} {x : X} (r : Result Y StoreError) → Checks Declared Spelled g a b (Ok x) P → Checks Declared Spelled g b c r Q
      → Checks Declared Spelled g a c r (λ y db. P x db × Q y db)
  tests_then {Y = Y} {P = P} {Q = Q} {x = x} r one two = record {
    frame = record {
      was_open = λ clean. on_any r (one.frame.was_open (before clean));
      only_reads = λ clean. reads_then (state g a) (state g b) (state g c) (one.frame.only_reads (before clean)) (two.frame.only_reads clean);
      survives = survives_both (state g a) (state g b) (state g c) one.frame.survives two.frame.survives;
    };
    tells = λ clean. both r (two.frame.was_open clean) (two.tells clean) clean;
    fault = λ clean. failed r (two.fault clean) clean;
    disk_cause = λ clean. told r (two.disk_cause clean) clean;
  }
    where
      before : HasCleanDisk (state g c) → HasCleanDisk (state g b)
      before clean = omega (arith, two.frame.survives.clean)

      same : HasCleanDisk (state g c) → IsTrue (state g b).is_open → (state g b).now ≡ (state g a).now
      same clean = same_now (state g a) (state g b) (one.frame.only_reads (before clean)) settled

      was_open : HasCleanDisk (state g c) → IsTrue (state g b).is_open → IsTrue (state g a).is_open
      was_open clean = (one.frame.only_reads (before clean)).commit_stays.was_open

      both : (r : Result Y StoreError) → OnOk r (IsTrue (state g b).is_open) → IfOk r (λ y. Declared (state g b).now.schema → Q y (state g b).now) → HasCleanDisk (state g c) → IfOk r (λ y. Declared (state g a).now.schema → P x (state g a).now × Q y (state g a).now)
      both (Ok y) is_open q clean = λ known.
          let now = same clean is_open in
          (one.tells (before clean) known, subst (Q y) now (q (subst (λ (d : Database). Declared d.schema) (sym now) known)))
      both (Err e) is_open q clean = tt

      failed : (r : Result Y StoreError) → IfErr r (λ e. (IsTrue (state g b).is_open → Spelled (state g b).now) → IsFaultBy (state g b) (state g c) e) → HasCleanDisk (state g c) → IfErr r (λ e. (IsTrue (state g a).is_open → Spelled (state g a).now) → IsFaultBy (state g a) (state g c) e)
      failed (Ok y) h clean = tt
      failed (Err e) h clean = λ over. by_since (state g a) (state g b) (state g c) (one.frame.survives.closes (before clean)) one.frame.survives.counts two.frame.survives.counts e (h (λ is_open. subst Spelled (sym (same clean is_open)) (over (was_open clean is_open))))

      told : (r : Result Y StoreError) → IfErr r (λ e. (IsTrue (state g b).is_open → Declared (state g b).now.schema) → HasDiskCause (state g b) (state g c) e) → HasCleanDisk (state g c)
          → IfErr r (λ e. (IsTrue (state g a).is_open → Declared (state g a).now.schema) → HasDiskCause (state g a) (state g c) e)
      told (Ok y) h clean = tt
      told (Err e) h clean = λ known. disk_cause_since (state g a) (state g b) (state g c) (one.frame.survives.closes (before clean)) one.frame.survives.counts two.frame.survives.counts e (h (λ is_open. subst (λ (d : Database). Declared d.schema) (sym (same clean is_open)) (known (was_open clean is_open))))
