-- Why writes fail, by table.
use Rattle.std.proofs.Common.{◌+◌, ◌^◌, pos, ◌≡◌, ◌⊎◌, inl, inr, ℕ, drop, ◌/◌, not, cond, Ordering, Option, None, List, [], ◌∷◌, length, Bool, true, false, Some, Err, refl, sym, ap, subst, subst₂, ◌||◌, ◌&&◌, ◌∙◌, arith}
use Rattle.reg_tables.proofs.Kit.{nat_lt, is_eq, Less, value_cmp, Row, AllByRecursion, list_all, lt-ltb, both_ways, and_from, tied_itself, FinMap, get, Term, col, Trees, rowid, with_tree, is_int, Table, Value, Null, Int, Insert, Delete, Values, stamped, Edit, edit_of, taken_by, id_in, is_taken, are_fresh, Applies, IsRefused, next_rowid, Rowids, Chosen, Given, Database, IsDatabase, value_rows, edit_error, State, ExecutesInside, understood, Error, SqliteFailure, statement_of, one_step, Enforced, All, Datatype, NotNull, Check, PrimaryKey, Unique, ForeignKey, Program, agree, differ, guards, are_typed, has_computed, are_present, passes_checks, Keeps, Obeys, Refers, Refusal, Violates, Mismatch, NoRowid, BadReference, TooDeep, ids_of, IsOversized, Has, some_has, any_has, all_has, has_got, put_all_has, Index, is_null, is_true, from_truth, fits_i64, ProgramOverflows, accepts_program, accepts_terms, value_cmp_total, Schema}
use Rattle.sqlite.specs.Edit.{edited}
use Rattle.sqlite.specs.declared.error.ErrorCode.TheVariants as code
use Rattle.sqlite_sql.specs.Ops.{binary}
use Rattle.reg_tables.specs.TableMaps.{RowForm, ShowsMap}
use Rattle.reg_tables.specs.Rooms.{HasRoom}
use Rattle.reg_tables.proofs.Rooms.{above, less}
use Rattle.reg_tables.specs.FailedCalls.{IsFault, IsInsertFault}
use Rattle.reg_tables.specs.Inside.KeyedLaws.{HaveOwnTrees, HasNoForeignKeyAction, HasKeys, IsTableAt}
use Rattle.reg_tables.specs.Inside.Statements.{plain_query, IsCommand, IsOneStatement}
use Rattle.reg_tables.proofs.Cascades.{delete_allowed}
use Rattle.reg_tables.proofs.UniqueLemmas.{with_tree_there, with_tree_elsewhere, stays_unique}
use Rattle.reg_tables.proofs.WriteFaults.{NeverStops, none_stops, delete_fits, delete_refused, insert_too_large, insert_refused, refused_by}

pub obeys : (schema : Schema) (db : Database) → db.schema ≡ schema → IsDatabase db → Obeys schema db.trees
obeys schema db declared sound = (subst (λ s. IsDatabase (record { schema = s; trees = db.trees })) declared sound).obeys

-- ---- a row with a new key

-- no row has this row's key in the unique index
abbrev pub IsFree : Table → List Row → Row → Index → Type 0
IsFree table rows row i = guards i table ≡ true → (r : Row) → Has rows r → agree i.order i.columns r i.columns row ≡ true → ⊥

-- the row has an integer rowid and the table's types, passes NOT NULL and the checks, and has a new key
pub record IsFitting (schema : Schema) (table : Table) (rows : List Row) (row : Row) : Type 0 where
  pub keyed : is_int (rowid row) ≡ true
  pub typed : (are_typed table.key 0 table.columns (drop 1 row) && has_computed table row) ≡ true
  pub present : are_present table.key 0 table.columns row ≡ true
  pub checked : passes_checks table row ≡ true
  pub free : AllByRecursion (IsFree table rows row) schema.indexes

-- if the map has no value under the key, no row shares the key
pub new_key : {K V : Type 0} (form : RowForm K V) (R : K → K → Ordering) (m : FinMap R V) (rows : List Row) → ShowsMap form rows (get m) → (k : K) → get m k ≡ None → (Shares : Row → Type 0)
    → ((r : Row) (q : K) → form.key_of r ≡ form.key_cells q → Shares r → q ≡ k) → (r : Row) → Has rows r → Shares r → ⊥
new_key {V = V} form R m rows shows k free Shares same_key r was shares =
    let entry = shows.sound r was in
    let same : entry.0 ≡ k = same_key r entry.0 entry.3.0 shares in
    let both : ◌≡◌ {A = Option V} None (Some entry.1) = sym free ∙ ap (get m) (sym same) ∙ entry.2 in
    cc

pub differ_itself : (v : Value) → differ v v ≡ false
unfolding binary
differ_itself v = rw (tied_itself value_cmp_total v) (go (is_null v || is_null v))
  where
    go : (b : Bool) → is_true (cond b Null (from_truth (Some false))) ≡ false
    go true = refl
    go false = refl

-- the rowid is out of range or taken
abbrev pub IsRowidTrouble : List Row → Row → Refusal → Type 0
IsRowidTrouble rows row why = ((why ≡ NoRowid) × (fits_i64 (id_in (rowid row)) ≡ false)) ⊎ ((why ≡ Violates PrimaryKey) × (is_taken rows row ≡ true))

-- with room after the last row, the rowid is in range and free
pub no_trouble : (rows : List Row) (count : ℕ) → HasRoom rows (count + 1) → (row : Row) → rowid row ≡ Int (next_rowid rows) → (why : Refusal) → IsRowidTrouble rows row why → ⊥
no_trouble rows count h row its why (inl high) =
    let mine : rowid row ≡ Int (pos h.next) = its ∙ ap Int h.is_next in
    let room = h.room in
    both_ways _ (ap (λ v. fits_i64 (id_in v)) (sym mine) ∙ high.1) (lt-ltb h.next (2 ^ 63) (omega (arith, room)))
no_trouble rows count h row its why (inr taken) =
    let mine : rowid row ≡ Int (pos h.next) = its ∙ ap Int h.is_next in
    let r = some_has (λ x. is_eq (value_cmp (rowid x) (rowid row))) rows taken.1 in
    let other = above rows (count + 1) h r.0 r.1 in
    let lower = less (rowid r.0) (rowid row) other.0 h.next other.1 mine other.2 in
    let tie : is_eq (value_cmp (rowid r.0) (rowid row)) ≡ true = r.2 in
    let clash : is_eq Less ≡ true = ap is_eq (sym lower) ∙ tie in
    cc

-- an insert fails: the row is too large, or its rowid is out of range or taken
abbrev pub IsRowTrouble : Schema → Table → List Row → Row → Error → Type 0
IsRowTrouble schema table rows row e = ((e ≡ SqliteFailure code.TooBig) × IsOversized schema table row) ⊎ ((why : Refusal) × IsRowidTrouble rows row why × (e ≡ edit_error why))

module _ (schema : Schema) (apart : HaveOwnTrees schema) (trees : Trees) (table : Table) (listed : Has schema.tables table) (keys : HasKeys schema table) (lawful : Obeys schema trees) (rowids : Rowids) (sources : List Row) (row : Row)
    (news : (edit_of trees table [] rowids 0 sources).news ≡ row ∷ []) (fitting : IsFitting schema table (trees table.tree) row) where
  abbrev edit : Edit
  edit = edit_of trees table [] rowids 0 sources

  abbrev after : Trees
  after = with_tree trees table.tree (edited trees edit)

  came : (r : Row) → Has (after table.tree) r → Has edit.news r ⊎ Has (trees table.tree) r
  came r there = put_all_has edit.news (trees table.tree) r (subst (λ l. Has l r) (with_tree_there trees table.tree (edited trees edit)) there)

  is_row : (r : Row) → Has edit.news r → r ≡ row
  is_row r there = elim (subst (λ l. Has l r) news there) [ inl same ↦ same | inr none ↦ absurd none ]

  clear : (i : Index) → Has schema.indexes i → guards i table ≡ true → (r fresh : Row) → Has (after table.tree) r → Has edit.news fresh
      → agree i.order i.columns r i.columns fresh ≡ true → differ (rowid r) (rowid fresh) ≡ true → ⊥
  clear i known on r fresh there isnew agrees differs =
      let its = is_row fresh isnew in
      elim (came r there) [
        | inl also ↦ both_ways _ (differ_itself (rowid row)) (subst₂ (λ a b. differ (rowid a) (rowid b) ≡ true) (is_row r also) its differs)
        | inr was ↦
            let free : IsFree table (trees table.tree) row i = all_has (IsFree table (trees table.tree) row) schema.indexes i fitting.free known in
            free on r was (subst (λ b. agree i.order i.columns r i.columns b ≡ true) its agrees)
      ]

  one_more : Keeps Unique schema after
  one_more = stays_unique schema trees after table edit.news apart listed (λ t known other. with_tree_elsewhere trees table.tree (edited trees edit) t.tree other) came clear (lawful.rules Unique)

  passing : (p : Row → Bool) → p row ≡ true → list_all p edit.news ≡ false → ⊥
  passing p is fails = both_ways _ (subst (λ l. list_all p l ≡ false) news fails) (and_from _ _ is refl)

  -- SQLite rejects the insert only because of the row's rowid
  pub insert_allowed : (why : Refusal) → IsRefused schema Enforced trees edit why → IsRowidTrouble (trees table.tree) row why
  insert_allowed (Violates Datatype) h = absurd (passing _ fitting.typed h)
  insert_allowed (Violates NotNull) h = absurd (passing _ fitting.present h)
  insert_allowed (Violates Check) h = absurd (passing _ fitting.checked h)
  insert_allowed (Violates PrimaryKey) h = inr (refl, go (is_taken (trees table.tree) row) (subst (λ l. are_fresh (trees table.tree) l ≡ false) news h))
    where
      go : (b : Bool) → (not b && true) ≡ false → b ≡ true
      go true h = refl
      go false h = absurd (cc)
  insert_allowed (Violates Unique) h = absurd (h one_more)
  insert_allowed (Violates ForeignKey) h = absurd h
  insert_allowed Mismatch h = absurd (passing _ fitting.keyed h)
  insert_allowed NoRowid h = inl (refl, go (fits_i64 (id_in (rowid row))) (subst (λ l. list_all (λ r. fits_i64 (id_in (rowid r))) l ≡ false) news h))
    where
      go : (b : Bool) → (b && true) ≡ false → b ≡ false
      go true h = absurd (cc)
      go false h = refl
  insert_allowed BadReference h = absurd (both_ways _ h (keys (nat_lt 0 (length edit.news)) false))
  insert_allowed TooDeep h = absurd h

-- no row overflows a plain query
pub plain_fits : (trees : Trees) (params : Row) (tree : ℕ) (tests shown : List Term) → ProgramOverflows trees params [] [] (plain_query tree tests shown) → ⊥
plain_fits trees params tree tests shown (inl none) = none
plain_fits trees params tree tests shown (inr some) = (any_has _ _ some).2

module _ (schema : Schema) (apart : HaveOwnTrees schema) (at : ℕ) (table : Table) (its : IsTableAt schema at table) (old new : State) (declared : old.now.schema ≡ schema) (sound : IsDatabase old.now) where
  lawful : Obeys schema old.now.trees
  lawful = obeys schema old.now declared sound

  listed : Has schema.tables table
  listed = has_got schema.tables at table its.there

  abbrev cut : List Row → Edit
  cut found = edit_of old.now.trees table (ids_of found) Given 0 []

  ends : HasNoForeignKeyAction schema table.tree → (found : List Row) → NeverStops schema old.now.trees (cut found)
  ends idle found = none_stops schema old.now.trees (cut found) (idle (taken_by old.now.trees (cut found)) [])

  -- a DELETE of rows that no other row refers to
  pub delete_fails : (sql : List ℕ) (params : Row) (tests : List Term) → HasNoForeignKeyAction schema table.tree → IsCommand schema sql (Delete at (record { lets = []; body = plain_query table.tree tests (col 1 0 ∷ []) }))
      → IsOneStatement sql (length params) (understood schema sql) → accepts_program schema [] (plain_query table.tree tests (col 1 0 ∷ [])) params ≡ true
      → ((found : List Row) (next : Trees) → Applies schema Enforced old.now.trees (edit_of old.now.trees table (ids_of found) Given 0 []) next → Refers All schema old.now.trees → Refers All schema next)
      → (e : Error) → ExecutesInside 0 sql params old new (Err e) → IsFault old new e
  delete_fails sql params tests idle it whole typed refers e h =
      let q : Program = record { lets = []; body = plain_query table.tree tests (col 1 0 ∷ []) } in
      elim (refused_by sql params old new schema declared (Delete at q) it whole (record { silent = refl; stays = refl }) e h) [
        | inl fault ↦ fault
        | inr rest ↦ elim rest [
          | inl large ↦ absurd (delete_fits schema at table its.there old new (statement_of sql (understood schema sql)) params e q typed (plain_fits old.now.trees params table.tree tests (col 1 0 ∷ [])) (ends idle) large.1)
          | inr does ↦ delete_refused schema at table its.there old new (statement_of sql (understood schema sql)) params e q typed (plain_fits old.now.trees params table.tree tests (col 1 0 ∷ [])) (ends idle)
              (λ found why. delete_allowed schema apart old.now.trees table listed (λ gone. its.keys false gone) (lawful.rules Unique) (ids_of found) why) (λ found next asked wrote. refers found next (one_step schema Enforced old.now.trees next (cut found) (idle (taken_by old.now.trees (cut found)) []) wrote) (lawful.rules ForeignKey)) does
        ]
      ]

  -- an INSERT of a row with a new key
  module _ (terms : List Term) (width : ℕ) (params row : Row) where
    abbrev sources : List Row
    sources = value_rows (stamped table params) width (length terms / width) terms

    abbrev put : Edit
    put = edit_of old.now.trees table [] Chosen 0 sources

    pub insert_fails : (sql : List ℕ) → table.is_counted ≡ false → IsCommand schema sql (Insert at (Values terms width)) → IsOneStatement sql (length params) (understood schema sql) → accepts_terms terms (stamped table params) ≡ true
        → put.news ≡ row ∷ [] → IsFitting schema table (old.now.trees table.tree) row → ((next : Trees) → Applies schema Enforced old.now.trees put next → Refers All schema old.now.trees → Refers All schema next)
        → (e : Error) → ExecutesInside 0 sql params old new (Err e) → IsFault old new e ⊎ IsRowTrouble schema table (old.now.trees table.tree) row e
    insert_fails sql uncounted it whole typed news fitting refers e h =
        elim (refused_by sql params old new schema declared (Insert at (Values terms width)) it whole (record { silent = refl; stays = refl }) e h) [
          | inl fault ↦ inl fault
          | inr rest ↦ elim rest [
            | inl large ↦
                let big = insert_too_large schema at table its.there old new (statement_of sql (understood schema sql)) params e terms width uncounted typed (λ next applies. refers next applies (lawful.rules ForeignKey)) large.1 in
                inr (inl (large.0, subst (IsOversized schema table) (elim (subst (λ l. Has l big.0) news big.1) [ inl same ↦ same | inr none ↦ absurd none ]) big.2))
            | inr does ↦ elim (insert_refused schema at table its.there old new (statement_of sql (understood schema sql)) params e terms width uncounted typed (λ next applies. refers next applies (lawful.rules ForeignKey)) does) [
              | inl fault ↦ inl fault
              | inr r ↦ inr (inr (r.0, insert_allowed schema apart old.now.trees table listed its.keys lawful Chosen sources row news fitting r.0 r.1, r.2))
            ]
          ]
        ]

pub as_insert_fault : (schema : Schema) (old new : State) (table : Table) (rows : List Row) (row : Row) (e : Error) → IsFault old new e ⊎ IsRowTrouble schema table rows row e → IsInsertFault old new e
as_insert_fault schema old new table rows row e (inl fault) = inl (inl (inl fault))
as_insert_fault schema old new table rows row e (inr (inl large)) = inl (inr large.0)
as_insert_fault schema old new table rows row e (inr (inr r)) = elim r.1 [ inl high ↦ inr (inl (r.2 ∙ ap edit_error high.0)) | inr taken ↦ inr (inr (r.2 ∙ ap edit_error taken.0)) ]

-- with room for it, an insert fails only with a fault
pub fault_alone : (schema : Schema) (old new : State) (table : Table) (rows : List Row) (row : Row) (e : Error) (count : ℕ) → HasRoom rows (count + 1) → rowid row ≡ Int (next_rowid rows) → (IsOversized schema table row → ⊥) → IsFault old new e ⊎ IsRowTrouble schema table rows row e → IsFault old new e
fault_alone schema old new table rows row e count room its fits (inl fault) = fault
fault_alone schema old new table rows row e count room its fits (inr (inl large)) = absurd (fits large.1)
fault_alone schema old new table rows row e count room its fits (inr (inr r)) = absurd (no_trouble rows count room row its r.0 r.1)
