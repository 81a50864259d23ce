-- What a query of all rows of a table returns, and why it fails.
use Rattle.std.proofs.Common.{◌≡◌, ◌⊎◌, inl, inr, ℕ, ℤ, zero, suc, List, [], ◌∷◌, map, All, IsTrue, refl, sym, subst, ◌∙◌, arith, pos, lit≤, codes, ap}
use Rattle.reg_tables.proofs.Kit.{Result, IfOk, IfErr, IsPermutation, IsPermutation-map, map-map, Error, Held, Ghosts, Row, Term, eval_all, col, Schema, Database, IsAnswer, overlay, State, Shown, HasCleanDisk, Has, get, Int, Text, id_in, rowid}
use Rattle.sqlite.specs.Held.{state}
use Rattle.sqlite.specs.Order.{column}
use Rattle.reg_tables.specs.declared.autocommit.AutocommitConnection.{AutocommitConnection}
use Rattle.reg_tables.specs.Frames.{after_begin, ReadsInAutocommit}
use Rattle.reg_tables.specs.Lookups.{ReadsTable}
use Rattle.reg_tables.specs.Layout.{HasFiveTables, empty_schema, HasEightTables}
use Rattle.reg_tables.specs.Reads.{HoldsReadable, CanBeRead, HasReadableMeta, BeginsWithFiveTables, HoldsReadableIn}
use Rattle.reg_tables.specs.FailedCalls.{IsFault, IsUnreadable}
use Rattle.reg_tables.specs.TableMaps.{RowForm, IsEntry, ShowsMap}
use Rattle.reg_tables.specs.Contents.{version_form, pair_form, kept_form, PositionKey, evidence_form, against_form, TableName, Versions, Modes, Evidence, Against, Contents, AreReadable, HoldsContents, table_in, HasTable, form_of, map_of}
use Rattle.reg_tables.specs.Listings.{parts_of, entry_parts, Lists}
use Rattle.reg_tables.specs.Inside.ReadableRows.{IsReadableVersion, IsReadablePair, IsReadableKept, IsReadableEvidence, IsReadableAgainst}
use Rattle.reg_tables.specs.Inside.FailedLists.{FailsToList}
use Rattle.reg_tables.specs.Inside.Statements.{no_limit, plain_query, TableQuery, IsQuery, Takes}
use Rattle.reg_tables.proofs.Queries.{answer_has, answer_all}
use Rattle.reg_tables.proofs.KeyedTables.{with_nothing, answered}
use Rattle.reg_tables.proofs.Statements.{IsAsked, laid_out, all_versions, asks_all_versions, all_levels, asks_all_levels, all_kept, asks_all_kept, all_meta, asks_all_meta}
use Rattle.reg_tables.proofs.Faults.{Asks, asks, asks_five, query_faults, read_fault_until, memory_is_fault}
use Rattle.reg_tables.proofs.Transactions.{shown_open, if_ok, if_err}
use Rattle.reg_tables.proofs.ReadableRows.{readable_version, readable_level, readable_kept, readable_meta, by_entry, pair_is}
use Rattle.sqlite.specs.Listing.{understood}
use Rattle.sqlite_tied.specs.Compute.{everything}
use Rattle.reg_tables.proofs.Tables.{at_both, shown_by}

-- the query of these terms over all rows of a table
abbrev pub all_of : List ℕ → ℕ → List Term → List (List ℕ) → TableQuery
all_of sql tree shown names = record { sql = sql; tree = tree; tests = []; shown = shown; names = names; order = []; limit = no_limit }

-- ---- why a query of rows fails

-- in this state the query returns readable rows
abbrev pub ReadsBy : List ℕ → Row → (Row → Type 0) → State → State → Type 0
ReadsBy sql params is_readable old new = Asks sql params old.now.schema × ((found : List Row) → Shown sql params old new found → All is_readable found)

module _ (sql : List ℕ) (old new end : State) (is_readable : Row → Type 0) (e : Error) (params : Row) (why : FailsToList is_readable sql params old new end e) where
  -- if the returned rows are readable, only a fault can make it fail
  pub asked_fault : (IsTrue old.is_open → ReadsBy sql params is_readable old new) → IsFault old end e
  asked_fault can = elim why [
    | inl failed ↦ read_fault_until old new end failed.0 e (query_faults sql params old new (λ is_open. (can is_open).0) e failed.1)
    | inr read ↦ memory_is_fault old end e (read.2 ((can (shown_open sql params old new read.0 read.1)).1 read.0 read.1))
  ]

  -- otherwise a row may also be unreadable
  pub asked_told : (IsTrue old.is_open → Asks sql params old.now.schema) → IsFault old end e ⊎ IsUnreadable e
  asked_told known = elim why [
    | inl failed ↦ inl (read_fault_until old new end failed.0 e (query_faults sql params old new known e failed.1))
    | inr read ↦ elim read.3 [ inl memory ↦ inl (memory_is_fault old end e memory) | inr unreadable ↦ inr unreadable ]
  ]

pub of_layout : (db : Database) → HoldsReadable db → HasFiveTables db.schema
of_layout db there = laid_out there.holds there.known

-- the same for queries of one of the five tables
module _ {q : TableQuery} {params : Row} (it : IsAsked q params) (is_readable : Row → Type 0) (old new end : State) where
  pub list_fault : ((found : List Row) → Shown q.sql params old new found → HoldsReadable old.now → All is_readable found) → (e : Error) → FailsToList is_readable q.sql params old new end e → CanBeRead old → IsFault old end e
  list_fault readable e why can = asked_fault q.sql old new end is_readable e params why (λ is_open. let there = can is_open in (asks_five it old.now.schema (of_layout old.now there), λ found shown. readable found shown there))

  pub list_told : (e : Error) → FailsToList is_readable q.sql params old new end e → BeginsWithFiveTables old → IsFault old end e ⊎ IsUnreadable e
  list_told e why known = asked_told q.sql old new end is_readable e params why (λ is_open. asks_five it old.now.schema (known is_open))

-- a lookup of versions by such a query
module _ {S X : Type 0} {g : Ghosts S} {q : TableQuery} {params : Row} (asked : IsAsked q params) {IsRightFor : Contents → X → Type 0} (is_readable : Row → Type 0) (Reads : X → List Row → Type 0) (old new : AutocommitConnection S g) (r : Result X Error) (frame : ReadsInAutocommit g old.conn new.conn r)
    (read : HasCleanDisk (state g new.conn) → IfOk r (λ x. (last : Held S) × (found : List Row) × Shown q.sql params (after_begin g old.conn) (state g last) found × Reads x found))
    (failed : HasCleanDisk (state g new.conn) → IfErr r (λ e. (last : Held S) × FailsToList is_readable q.sql params (after_begin g old.conn) (state g last) (state g new.conn) e)) where
  pub finds_versions : ((last : State) (schema : Schema) (contents : Contents) → HoldsContents schema (after_begin g old.conn).now contents → HasFiveTables schema → (found : List Row) → Shown q.sql params (after_begin g old.conn) last found
      → ((x : X) → Reads x found → IsRightFor contents x) × (AreReadable contents → All is_readable found)) → ReadsTable Versions old new r IsRightFor
  finds_versions each = record {
    frame = frame;
    found = λ clean. if_ok r (λ x its schema known contents holds. (each (state g its.0) schema contents holds known its.1 its.2).0 x its.3) (read clean);
    fault = λ clean. if_err r
        (λ e why. list_fault asked is_readable (after_begin g old.conn) (state g why.0) (state g new.conn) (λ found shows there. (each (state g why.0) there.schema there.contents there.holds there.known found shows).1 there.readable) e why.1)
        (failed clean);
  }

-- ---- all rows of a table

-- in each of these schemas the SQL text returns all rows of its table, each with the columns of its rowid, key and value
pub record ShowsTable {K V : Type 0} (Known : Schema → Type 0) (IsReadable : Database → Type 0) (form : RowForm K V) (is_readable : Row → Type 0) (sql : List ℕ) (tree : Schema → ℕ) : Type 0 where
  pub shown : List Term
  pub names : List (List ℕ)
  pub is : (schema : Schema) → Known schema → IsQuery (all_of sql (tree schema) shown names) schema
  pub takes : (schema : Schema) → Known schema → Takes (all_of sql (tree schema) shown names) [] schema
  pub whole : (row : Row) → parts_of form (eval_all shown ([] ∷ row ∷ [])) ≡ parts_of form row
  pub known : (db : Database) → IsReadable db → Known db.schema
  pub readable : (db : Database) → IsReadable db → (row : Row) → Has (db.trees (tree db.schema)) row → is_readable (eval_all shown ([] ∷ row ∷ []))

abbrev ShowsInFive : {K V : Type 0} → (Database → Type 0) → RowForm K V → (Row → Type 0) → TableQuery → Type 0
ShowsInFive IsReadable form is_readable q = ShowsTable HasFiveTables IsReadable form is_readable q.sql (λ schema. q.tree)

pub shows_versions : ShowsInFive HoldsReadable version_form IsReadableVersion all_versions
shows_versions = record { shown = all_versions.shown; names = all_versions.names; is = asks_all_versions.is; takes = asks_all_versions.takes; whole = λ row. refl; known = of_layout; readable = readable_version }

pub shows_levels : ShowsInFive HoldsReadable pair_form IsReadablePair all_levels
shows_levels = record { shown = all_levels.shown; names = all_levels.names; is = asks_all_levels.is; takes = asks_all_levels.takes; whole = λ row. refl; known = of_layout; readable = readable_level }

pub shows_kept : ShowsInFive HoldsReadable kept_form IsReadableKept all_kept
shows_kept = record { shown = all_kept.shown; names = all_kept.names; is = asks_all_kept.is; takes = asks_all_kept.takes; whole = λ row. refl; known = of_layout; readable = readable_kept }

pub shows_meta : ShowsInFive HasReadableMeta pair_form IsReadablePair all_meta
shows_meta = record { shown = all_meta.shown; names = all_meta.names; is = asks_all_meta.is; takes = asks_all_meta.takes; whole = λ row. refl; known = λ db there. there.first; readable = readable_meta }

pub all_if_each : {X : Type 0} (P : X → Type 0) (xs : List X) → ((x : X) → Has xs x → P x) → All P xs
all_if_each P [] each k d low = absurd (omega arith)
all_if_each P (x ∷ xs) each zero d low = each x (inl refl)
all_if_each P (x ∷ xs) each (suc k) d low = all_if_each P xs (λ y h. each y (inr h)) k d (omega (arith, low))

module _ {K V : Type 0} {Known : Schema → Type 0} {IsReadable : Database → Type 0} {form : RowForm K V} {is_readable : Row → Type 0} {sql : List ℕ} {tree : Schema → ℕ} (table : ShowsTable Known IsReadable form is_readable sql tree) (old new : State) where
  abbrev place : ℕ
  place = tree old.now.schema

  abbrev its : TableQuery
  its = all_of sql place table.shown table.names

  its_asks : Known old.now.schema → Asks sql [] old.now.schema
  its_asks laid = asks its [] old.now.schema (table.is old.now.schema laid) (table.takes old.now.schema laid)

  module _ (laid : Known old.now.schema) (found : List Row) (h : Shown sql [] old new found) where
    answer : IsAnswer (plain_query place [] table.shown) (overlay old.now.trees []) [] found
    answer = answered its [] old new (table.is old.now.schema laid) found h

    shown_parts : IsPermutation (map (parts_of form) (old.now.trees place)) (map (parts_of form) found)
    shown_parts =
        let show = λ (row : Row). eval_all table.shown ([] ∷ row ∷ []) in
        let rows = old.now.trees place in
        let all : IsPermutation (map show rows) found = subst (λ l. IsPermutation (map show l) found) (with_nothing old.now.trees place) (answer_all [] place table.shown (overlay old.now.trees []) found answer) in
        let same : map (parts_of form) (map show rows) ≡ map (parts_of form) rows = map-map (parts_of form) show rows ∙ (λ i. map (λ (row : Row). table.whole row i) rows) in
        subst (λ l. IsPermutation l (map (parts_of form) found)) same (IsPermutation-map (parts_of form) (map show rows) found all)

    shown_readable : IsReadable old.now → All is_readable found
    shown_readable there = all_if_each is_readable found (λ x has.
        let r = answer_has [] [] place table.shown (overlay old.now.trees []) found answer x has in
        subst is_readable (sym r.3) (table.readable old.now there r.0 (subst (λ l. Has l r.0) (with_nothing old.now.trees place) r.1)))

  -- the values read from the returned rows list the table
  pub lists_lines : {L : Type 0} (entry : L → ℤ × K × V) (lines : List L) (found : List Row) → Shown sql [] old new found → map (parts_of form) found ≡ map (λ line. entry_parts form (entry line)) lines → Known old.now.schema → Lists form (old.now.trees place) (map entry lines)
  lists_lines entry lines found h read laid = subst (IsPermutation (map (parts_of form) (old.now.trees place))) (read ∙ sym (map-map (entry_parts form) entry lines)) (shown_parts laid found h)

  -- over readable contents only a fault can make it fail
  pub lines_fault : (end : State) (e : Error) → FailsToList is_readable sql [] old new end e → (IsTrue old.is_open → IsReadable old.now) → IsFault old end e
  lines_fault end e why can = asked_fault sql old new end is_readable e [] why (λ is_open. let there = can is_open in let laid = table.known old.now there in (its_asks laid, λ found h. shown_readable laid found h there))

  -- over any contents it fails with a fault or an unreadable row
  pub lines_told : (end : State) (e : Error) → FailsToList is_readable sql [] old new end e → (IsTrue old.is_open → Known old.now.schema) → IsFault old end e ⊎ IsUnreadable e
  lines_told end e why known = asked_told sql old new end is_readable e [] why (λ is_open. its_asks (known is_open))

-- ---- the tables that layout 2 adds

-- the database has the eight tables with readable contents
abbrev HoldsEight : Database → Type 0
HoldsEight = HoldsReadableIn HasEightTables

pub of_eight : (db : Database) → HoldsEight db → HasEightTables db.schema
of_eight db there = subst HasEightTables (sym there.holds.declared) there.known

abbrev pub tree_of : TableName → Schema → ℕ
tree_of name schema = (table_in schema name).tree

shows_here : (db : Database) (name : TableName) (there : HoldsReadableIn (HasTable name) db) → ShowsMap (form_of name) (db.trees (tree_of name db.schema)) (get (map_of name there.contents))
shows_here db name there = subst (λ s. ShowsMap (form_of name) (db.trees (tree_of name s)) (get (map_of name there.contents))) (sym there.holds.declared) (shown_by there.holds name there.known)

-- ---- modes

abbrev modes_sql : List ℕ
modes_sql = codes "SELECT rowid, subject, mode FROM modes"

abbrev modes_query : Schema → TableQuery
modes_query schema = all_of modes_sql (tree_of Modes schema) (col 1 0 ∷ col 1 1 ∷ col 1 2 ∷ []) (codes "rowid" ∷ codes "subject" ∷ codes "mode" ∷ [])

modes_is : (schema : Schema) → HasEightTables schema → IsQuery (modes_query schema) schema
unfolding understood everything
modes_is = at_both (λ s. IsQuery (modes_query s) s) (λ indexes. record { command = record { is = refl; plain = (refl, refl) }; unlisted = refl }) (λ indexes. record { command = record { is = refl; plain = (refl, refl) }; unlisted = refl })

modes_takes : (schema : Schema) → HasEightTables schema → Takes (modes_query schema) [] schema
unfolding understood everything
modes_takes = at_both (λ s. Takes (modes_query s) [] s) (λ indexes. record { whole = (lit≤ tt, refl); typed = refl }) (λ indexes. record { whole = (lit≤ tt, refl); typed = refl })

readable_mode : (db : Database) → HoldsEight db → (row : Row) → Has (db.trees (tree_of Modes db.schema)) row → IsReadablePair (column row 0 ∷ column row 1 ∷ column row 2 ∷ [])
readable_mode db there row has = by_entry pair_form (db.trees (tree_of Modes db.schema)) (get there.contents.modes) (shows_here db Modes there) row has (IsReadablePair (column row 0 ∷ column row 1 ∷ column row 2 ∷ []))
    (λ key value rowid_is held is.
    let can = there.readable.modes key value held in
    record { rowid = id_in (rowid row); key = key; value = value; is = pair_is row key value rowid_is is; key_utf8 = can.0; value_utf8 = can.1 })

pub shows_modes : ShowsTable HasEightTables HoldsEight pair_form IsReadablePair modes_sql (tree_of Modes)
shows_modes = record { shown = (modes_query empty_schema).shown; names = (modes_query empty_schema).names; is = modes_is; takes = modes_takes; whole = λ row. refl; known = of_eight; readable = readable_mode }

-- ---- evidence

abbrev evidence_sql : List ℕ
evidence_sql = codes "SELECT rowid, subject, version, level FROM evidence"

abbrev evidence_query : Schema → TableQuery
evidence_query schema = all_of evidence_sql (tree_of Evidence schema) (col 1 0 ∷ col 1 1 ∷ col 1 2 ∷ col 1 3 ∷ []) (codes "rowid" ∷ codes "subject" ∷ codes "version" ∷ codes "level" ∷ [])

evidence_is : (schema : Schema) → HasEightTables schema → IsQuery (evidence_query schema) schema
unfolding understood everything
evidence_is = at_both (λ s. IsQuery (evidence_query s) s) (λ indexes. record { command = record { is = refl; plain = (refl, refl) }; unlisted = refl }) (λ indexes. record { command = record { is = refl; plain = (refl, refl) }; unlisted = refl })

evidence_takes : (schema : Schema) → HasEightTables schema → Takes (evidence_query schema) [] schema
unfolding understood everything
evidence_takes = at_both (λ s. Takes (evidence_query s) [] s) (λ indexes. record { whole = (lit≤ tt, refl); typed = refl }) (λ indexes. record { whole = (lit≤ tt, refl); typed = refl })

evidence_row : (row : Row) (key : List ℕ × ℕ) (level : List ℕ) → rowid row ≡ Int (id_in (rowid row)) → IsEntry evidence_form row key level
    → rowid row ∷ column row 1 ∷ column row 2 ∷ column row 3 ∷ [] ≡ Int (id_in (rowid row)) ∷ Text key.0 ∷ Int (pos key.1) ∷ Text level ∷ []
evidence_row row key level rowid_is is =
    ap (λ (r : Row). rowid row ∷ column row 1 ∷ column row 2 ∷ r) is.1 ∙ ap (λ (r : Row). rowid row ∷ column r 0 ∷ column r 1 ∷ Text level ∷ []) is.0 ∙ ap (λ v. v ∷ Text key.0 ∷ Int (pos key.1) ∷ Text level ∷ []) rowid_is

readable_evidence : (db : Database) → HoldsEight db → (row : Row) → Has (db.trees (tree_of Evidence db.schema)) row → IsReadableEvidence (column row 0 ∷ column row 1 ∷ column row 2 ∷ column row 3 ∷ [])
readable_evidence db there row has =
    by_entry evidence_form (db.trees (tree_of Evidence db.schema)) (get there.contents.evidence) (shows_here db Evidence there) row has (IsReadableEvidence (column row 0 ∷ column row 1 ∷ column row 2 ∷ column row 3 ∷ []))
    (λ key level rowid_is held is.
    let can = there.readable.evidence key level held in
    record { rowid = id_in (rowid row); subject = key.0; number = key.1; level = level; is = evidence_row row key level rowid_is is; utf8 = can.0; low = can.1; level_utf8 = can.2 })

pub shows_evidence : ShowsTable HasEightTables HoldsEight evidence_form IsReadableEvidence evidence_sql (tree_of Evidence)
shows_evidence = record { shown = (evidence_query empty_schema).shown; names = (evidence_query empty_schema).names; is = evidence_is; takes = evidence_takes; whole = λ row. refl; known = of_eight; readable = readable_evidence }

-- ---- against

abbrev pub against_shown : List Term
against_shown = col 1 0 ∷ col 1 1 ∷ col 1 2 ∷ col 1 3 ∷ col 1 4 ∷ []

abbrev pub against_names : List (List ℕ)
against_names = codes "rowid" ∷ codes "subject" ∷ codes "version" ∷ codes "position" ∷ codes "id" ∷ []

against_row : (row : Row) (key : PositionKey) (id : ℕ) → rowid row ≡ Int (id_in (rowid row)) → IsEntry against_form row key id
    → rowid row ∷ column row 1 ∷ column row 2 ∷ column row 3 ∷ column row 4 ∷ [] ≡ Int (id_in (rowid row)) ∷ Text key.0.0 ∷ Int (pos key.0.1) ∷ Int (pos key.1) ∷ Int (pos id) ∷ []
against_row row key id rowid_is is =
    ap (λ (r : Row). rowid row ∷ column row 1 ∷ column row 2 ∷ column row 3 ∷ r) is.1 ∙ ap (λ (r : Row). rowid row ∷ column r 0 ∷ column r 1 ∷ column r 2 ∷ Int (pos id) ∷ []) is.0
    ∙ ap (λ v. v ∷ Text key.0.0 ∷ Int (pos key.0.1) ∷ Int (pos key.1) ∷ Int (pos id) ∷ []) rowid_is

pub readable_against : (db : Database) → HoldsEight db → (row : Row) → Has (db.trees (tree_of Against db.schema)) row → IsReadableAgainst (column row 0 ∷ column row 1 ∷ column row 2 ∷ column row 3 ∷ column row 4 ∷ [])
readable_against db there row has =
    by_entry against_form (db.trees (tree_of Against db.schema)) (get there.contents.against) (shows_here db Against there) row has (IsReadableAgainst (column row 0 ∷ column row 1 ∷ column row 2 ∷ column row 3 ∷ column row 4 ∷ []))
    (λ key id rowid_is held is.
    let can = there.readable.against key id held in
    record { rowid = id_in (rowid row); subject = key.0.0; number = key.0.1; position = key.1; id = id; is = against_row row key id rowid_is is; utf8 = can.0; low = can.1; low_position = can.2; low_id = can.3 })
