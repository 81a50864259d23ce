-- Why a write fails, if its SQL text is a known command.
use Rattle.std.proofs.Common.{◌≡◌, ◌⊎◌, inl, inr, ℕ, zero, suc, ◌/◌, length, length-append, append-nil, ◌≤◌, ◌||◌, List, [], ◌∷◌, slice_get, Bool, true, false, Some, None, Ok, Err, Option, option_map, Result, refl, sym, ap, subst, subst₂, ◌∙◌, arith}
use Rattle.reg_tables.proofs.Kit.{if◌then◌else◌, MatchBool, IsSome, is_some, IfErr, IsErrAnd, IsTrue, both_ways, cases_Bool, MatchBool-at_false, Row, Term, Trees, Table, Schema, Values, Command, Insert, Update, Delete, Edit, edit_of, taken_by, Applies, IsRefused, IsOversized, Has, Rowids, Chosen, Above, Given, Does, Concludes, Written, Task, Then, Edited, Queried, Sourced, Updates, Deletes, Inserts, stamped, rowids_for, count_of, is_query, value_rows, edit_error, State, Survives, HasCleanDisk, store_error, mode_of, is_pragma, shows_rows, text_of, RunsCommand, ExecutesInside, IsMisplaced, IsNoStatement, Escapes, timed, understood, Error, SqliteFailure, IsPlain, command_of, statement_of, one_step, Enforced, All, Program, lets_of, Refers, Compiled, Refusal, works, Leads, Settles, ids_of, no_works, ProgramOverflows, accepts_program, accepts_terms, StoreError}
use Rattle.sqlite.specs.Command.TheVariants.{Begin, Commit, Rollback, Savepoint, Release, RollbackTo}
use Rattle.sqlite.specs.State.{ExecutesIn, IsNotRun, EndsScope}
use Rattle.sqlite.specs.declared.error.ErrorCode.TheVariants as code
use Rattle.sqlite_rules.specs.Action as action
use Rattle.reg_tables.specs.FailedCalls.{IsFault, IsWriteFault, IsPutFault, IsInsertFault}
use Rattle.reg_tables.specs.Inside.Statements.{IsOneStatement, IsCommand}
use Rattle.reg_tables.proofs.Reasons.{reason_or_large, reason_of, reason_if_shut, reason_by, fault_since}
use Rattle.reg_tables.proofs.Writes.{uncounts}

-- the command begins or ends a transaction, or makes, releases or rolls back to a savepoint
abbrev pub is_control : Command → Bool
is_control Begin = true
is_control Commit = true
is_control Rollback = true
is_control (Savepoint name) = true
is_control (Release name) = true
is_control (RollbackTo name) = true
is_control _ = false

-- the command returns no rows, and isn't one of these
pub record IsWriting (command : Command) : Type 0 where
  pub silent : (is_query command || (is_pragma command || false)) ≡ false
  pub stays : is_control command ≡ false

module _ (sql : List ℕ) (params : Row) (old new : State) (schema : Schema) (has : old.now.schema ≡ schema) (command : Command) (it : IsCommand schema sql command)
    (whole : IsOneStatement sql (length params) (understood schema sql)) (writes : IsWriting command) where
  controls : (k : Command) → command ≡ k → is_control k ≡ true → ⊥
  controls k is on = both_ways _ writes.stays (ap is_control is ∙ on)

  misplaced : (k : Command) → command ≡ k → (e : Error) → IsMisplaced old k e → ⊥
  misplaced k same e (inl h) = elim h.1 [
    | inl begin ↦ controls _ (same ∙ begin.0) refl
    | inr end ↦ elim end.0 [ inl commit ↦ controls _ (same ∙ commit) refl | inr rollback ↦ controls _ (same ∙ rollback) refl ]
  ]
  misplaced k same e (inr h) = elim h.2 [ inl release ↦ controls _ (same ∙ release) refl | inr back ↦ controls _ (same ∙ back) refl ]

  escapes : (k : Command) → command ≡ k → Escapes 0 old k → ⊥
  escapes k same (inl end) = elim end [ inl commit ↦ controls _ (same ∙ commit) refl | inr rollback ↦ controls _ (same ∙ rollback) refl ]
  escapes k same (inr h) = elim h.1 [ inl release ↦ controls _ (same ∙ release) refl | inr back ↦ controls _ (same ∙ back) refl ]

  known_as : (c : Compiled) → understood old.now.schema sql ≡ Ok c → understood schema sql ≡ Ok c
  known_as c is = sym (ap (λ s. understood s sql) has) ∙ is

  command_is : (c : Compiled) → understood old.now.schema sql ≡ Ok c → command ≡ c.command
  command_is c is = sym it.is ∙ ap command_of (known_as c is)

  -- the errors that the database returns for the command
  abbrev RefusedAs : Error → Type 0
  RefusedAs e = Does old.step_limit (mode_of old) params (record old.now { schema = schema }) (statement_of sql (understood schema sql)) None command (Err (Some e))

  no_statement : (e : Error) → IsNoStatement old sql params e → ⊥
  no_statement e (inl fault) = subst IsPlain (sym (ap (λ s. understood s sql) has) ∙ fault.1) it.plain
  no_statement e (inr wrong) =
      let known = known_as wrong.0 wrong.1 in
      let fits = subst (IsOneStatement sql (length params)) known whole in
      let bare = subst IsPlain known it.plain in
      elim wrong.2 [ inl tail ↦ tail.0 fits.0 | inr rest ↦ elim rest [ inl given ↦ given.0 (sym fits.1) | inr clock ↦ clock.0 bare.1 ] ]

  -- a row that the command would write is too large
  abbrev TooLarge : Type 0
  TooLarge = Does old.step_limit (mode_of old) params (record old.now { schema = schema }) (statement_of sql (understood schema sql)) None command (Err None)

  -- the statement's effect is the command's
  does_as : (c : Compiled) (is : understood old.now.schema sql ≡ Ok c) (values : Row) → values ≡ params → (stop : Option Error) → Does old.step_limit (mode_of old) values old.now (text_of sql c) c.returning c.command (Err stop)
      → Does old.step_limit (mode_of old) params (record old.now { schema = schema }) (statement_of sql (understood schema sql)) None command (Err stop)
  does_as c is values same stop does =
      let known = known_as c is in
      let bare = subst IsPlain known it.plain in
      let first : Does old.step_limit (mode_of old) params old.now (text_of sql c) c.returning c.command (Err stop) =
      subst (λ p. Does old.step_limit (mode_of old) p old.now (text_of sql c) c.returning c.command (Err stop)) same does in
      let plainly : Does old.step_limit (mode_of old) params old.now (text_of sql c) None c.command (Err stop) =
      subst (λ r. Does old.step_limit (mode_of old) params old.now (text_of sql c) r c.command (Err stop)) bare.0 first in
      let named : Does old.step_limit (mode_of old) params old.now (text_of sql c) None command (Err stop) =
      subst (λ k. Does old.step_limit (mode_of old) params old.now (text_of sql c) None k (Err stop)) (sym (command_is c is)) plainly in
      let text : text_of sql c ≡ statement_of sql (understood schema sql) = ap (statement_of sql) (sym known) in
      subst₂ (λ t s. Does old.step_limit (mode_of old) params (record old.now { schema = s }) t None command (Err stop)) text has named

  -- a fault, a row that is too large, or a refusal
  abbrev Outcome : Error → Type 0
  Outcome e = IsFault old new e ⊎ (((e ≡ SqliteFailure code.TooBig) × TooLarge) ⊎ RefusedAs e)

  ran : (e : Error) (c : Compiled) (is : understood old.now.schema sql ≡ Ok c) (values : Row) → values ≡ params → RunsCommand old new sql c values (Err e) → Outcome e
  ran e c is values same (inr store) = elim (reason_or_large old new store.0 store.2) [
    | inl reason ↦ inl (inl (store.0, store.1, reason))
    | inr large ↦ inr (inl (store.1 ∙ ap store_error large.0, does_as c is values same None large.1))
  ]
  ran e c is values same (inl (inl wrong, after)) = absurd (misplaced c.command (command_is c is) e wrong)
  ran e c is values same (inl (inr does, after)) = inr (inr (does_as c is values same (Some e) does.1))

  -- a statement that compiles to the command fails with a fault, because of a row that is too large, or with a refusal of the command
  pub refused_by : (e : Error) → ExecutesInside 0 sql params old new (Err e) → Outcome e
  unfolding ExecutesIn IsNotRun EndsScope
  refused_by e (inr out) = absurd (escapes out.0.0.command (command_is out.0.0 out.0.1.is) out.0.2)
  refused_by e (inl (inl (inr store), after)) = inl (inl (store.0, store.1, reason_of old new store.0 store.2))
  refused_by e (inl (inl (inl none), after)) = absurd (no_statement e none.0)
  refused_by e (inl (inr h, after)) =
      let c = h.0 in
      let known = known_as c h.1.is in
      let bare = subst IsPlain known it.plain in
      let silent : shows_rows false c ≡ false = subst₂ (λ k r. (is_query k || (is_pragma k || is_some r)) ≡ false) (command_is c h.1.is) (sym bare.0) writes.silent in
      let values : timed params c.formats h.1.now ≡ params = rw (bare.1, append-nil params) in
      ran e c h.1.is (timed params c.formats h.1.now) values (MatchBool-at_false _ _ silent h.2)

-- ---- a closed connection

either_way : {P Q : Type 0} (b : Bool) → MatchBool b P Q → P ⊎ Q
either_way true h = inl h
either_way false h = inr h

-- a statement over a closed connection fails because of the store
pub open_or_failed : (sql : List ℕ) (params : Row) (old new : State) (e : Error) → ExecutesInside 0 sql params old new (Err e) → IsTrue old.is_open ⊎ IsFault old new e
unfolding ExecutesIn IsNotRun
open_or_failed sql params old new e h = elim (cases_Bool old.is_open) [ inl is_open ↦ inl is_open | inr shut ↦ go shut h ]
  where
    by_store : old.is_open ≡ false → (cause : StoreError) → e ≡ store_error cause → IsFault old new e
    by_store shut cause is = inl (cause, is, reason_if_shut old new cause shut)

    go : old.is_open ≡ false → ExecutesInside 0 sql params old new (Err e) → IsTrue old.is_open ⊎ IsFault old new e
    go shut (inr out) = inl out.2.0.was_open
    go shut (inl (inl (inl none), after)) = inl none.1.0.was_open
    go shut (inl (inl (inr store), after)) = inr (by_store shut store.0 store.1)
    go shut (inl (inr h, after)) = elim (either_way (shows_rows false h.0) h.2) [
      | inl shown ↦ inl shown.1.0.was_open
      | inr ran ↦ elim ran [ inl refused ↦ inl refused.1.0.was_open | inr store ↦ inr (by_store shut store.0 store.1) ]
    ]

-- ---- why SQLite rejects a write to one table

-- the foreign-key actions after an edit don't fail
abbrev pub NeverStops : Schema → Trees → Edit → Type 0
NeverStops schema db edit = (next : Trees) (why : Option Refusal) → Applies schema Enforced db edit next → Settles schema Enforced next (works schema Enforced 0 edit.table.tree (taken_by db edit) edit.news) (Err why) → ⊥

-- without foreign-key actions, nothing fails after the edit
pub none_stops : (schema : Schema) (db : Trees) (edit : Edit) → works schema Enforced 0 edit.table.tree (taken_by db edit) edit.news ≡ [] → NeverStops schema db edit
none_stops schema db edit quiet next why applies h = go h.0 (rw quiet at h.1)
  where
    go : (n : ℕ) → Leads schema Enforced n next [] (Err why) → ⊥
    go zero h = let e = h.1 in cc
    go (suc n) h = omega (arith, ap length h.2, length-append h.0 (h.1 ∷ []))

module _ (schema : Schema) where
  module _ (db : Trees) (edit : Edit) (ends : NeverStops schema db edit) where
    -- an edit fails for one of its reasons
    edit_refused : (stop : Option Error) (e : Error) → stop ≡ Some e → Edited schema Enforced db edit (Err stop) → (why : Refusal) × IsRefused schema Enforced db edit why × (e ≡ edit_error why)
    edit_refused stop e is h = go h.0 h.1 (sym is ∙ h.2)
      where
        go : (why : Option Refusal) → action.Writes schema Enforced db edit (Err why) → Some e ≡ option_map edit_error why → (why : Refusal) × IsRefused schema Enforced db edit why × (e ≡ edit_error why)
        go None w is = absurd (cc)
        go (Some why) (inl r) is = let same : why ≡ r.0 = (let e = r.2 in cc) in (r.0, r.1, let all : e ≡ edit_error why = cc in all ∙ ap edit_error same)
        go (Some why) (inr (inl big)) is = absurd (let e = big.3 in cc)
        go (Some why) (inr (inr went)) is = absurd (ends went.0 (Some why) went.1 went.2)

    -- only a row can make an edit too large
    edit_large : (stop : Option Error) → stop ≡ None → Edited schema Enforced db edit (Err stop) → (row : Row) × Has edit.news row × IsOversized schema edit.table row
    edit_large stop is h = go h.0 h.1 (sym is ∙ h.2)
      where
        go : (why : Option Refusal) → action.Writes schema Enforced db edit (Err why) → None ≡ option_map edit_error why → (row : Row) × Has edit.news row × IsOversized schema edit.table row
        go (Some why) w is = absurd (cc)
        go None (inl r) is = absurd (let e = r.2 in cc)
        go None (inr (inl big)) is = (big.0, big.1, big.2)
        go None (inr (inr went)) is = absurd (ends went.0 None went.1 went.2)

  module _ (at : ℕ) (table : Table) (there : slice_get schema.tables at ≡ Some table) (old new : State) (text : List ℕ) (params : Row) (e : Error) where
    abbrev db : Trees
    db = old.now.trees

    abbrev task : Task
    task = record { limit = old.step_limit; keys = Enforced; schema = schema; table = table; params = params }

    abbrev Refused : Command → Type 0
    Refused command = Does old.step_limit (mode_of old) params (record old.now { schema = schema }) text None command (Err (Some e))

    -- if the foreign keys are satisfied after the write, the statement doesn't fail
    concluded : (w : Written) → Refers All schema w.trees → Concludes task (mode_of old) None w (Err (Some e)) → ⊥
    concluded w refers (inl tested) = tested.1.0 refers
    concluded w refers (inr shown) = elim shown.2 [ inl stopped ↦ (let e = stopped.1 in cc) | inr gave ↦ (let e = gave.2 in cc) ]

    -- after the write, no row is too large
    concluded_large : (w : Written) → Concludes task (mode_of old) None w (Err None) → ⊥
    concluded_large w (inl tested) = let some = tested.1.1 in let none = tested.2 in cc
    concluded_large w (inr shown) = elim shown.2 [ inl stopped ↦ (let e = stopped.1 in cc) | inr gave ↦ (let e = gave.2 in cc) ]

    -- a query finds the rows
    module _ (q : Program) (typed : accepts_program schema (lets_of q) q.body params ≡ true) (fits : ProgramOverflows db params [] (lets_of q) q.body → ⊥) where
      query_stopped : (stop : Option Error) → stop ≡ Some e → Queried old.step_limit (record { schema = schema; trees = db }) q params (Err stop) → IsFault old new e
      query_stopped None is h = absurd h
      query_stopped (Some x) is (inl ill) = absurd (both_ways _ ill.1 typed)
      query_stopped (Some x) is (inr (inl over)) = absurd (fits over.1)
      query_stopped (Some x) is (inr (inr limit)) = let same : x ≡ e = cc in subst (IsFault old new) same (inr limit)

      query_large : (stop : Option Error) → stop ≡ None → Queried old.step_limit (record { schema = schema; trees = db }) q params (Err stop) → ⊥
      query_large None is h = h
      query_large (Some x) is h = cc

      abbrev cut_by : List Row → Edit
      cut_by found = edit_of db table (ids_of found) Given 0 []

      delete_large : ((found : List Row) → NeverStops schema db (cut_by found)) → (stop : Option Error) → stop ≡ None → Deletes task q db (Err stop) → ⊥
      delete_large ends stop is (inl asked) = query_large asked.0 (let e = asked.2 in cc) asked.1
      delete_large ends stop is (inr found) = elim found.2 [
        | inl cut ↦ (edit_large db (cut_by found.0) (ends found.0) cut.0 (let e = cut.2 in cc) cut.1).1
        | inr done ↦ (let e = done.2 in cc)
      ]

      -- a DELETE writes no row that could be too large
      pub delete_fits : ((found : List Row) → NeverStops schema db (cut_by found)) → Does old.step_limit (mode_of old) params (record old.now { schema = schema }) text None (Delete at q) (Err None) → ⊥
      delete_fits ends does = go (rw there at does)
        where
          go : Then (Deletes task q db) (Concludes task (mode_of old) None) (Err None) → ⊥
          go (inl stopped) = delete_large ends stopped.0 (let e = stopped.2 in cc) stopped.1
          go (inr wrote) = concluded_large wrote.0 wrote.2

      -- a DELETE of the rows found
      module _ (ends : (found : List Row) → NeverStops schema db (cut_by found)) (allowed : (found : List Row) (why : Refusal) → IsRefused schema Enforced db (cut_by found) why → ⊥)
          (refers : (found : List Row) (next : Trees) → Queried old.step_limit (record { schema = schema; trees = db }) q params (Ok found) → action.Writes schema Enforced db (cut_by found) (Ok next) → Refers All schema next) where
        delete_stopped : (stop : Option Error) → stop ≡ Some e → Deletes task q db (Err stop) → IsFault old new e
        delete_stopped stop is (inl asked) = query_stopped asked.0 (let e = asked.2 in cc) asked.1
        delete_stopped stop is (inr found) = elim found.2 [
          | inl cut ↦ let r = edit_refused db (cut_by found.0) (ends found.0) cut.0 e (let e = cut.2 in cc) cut.1 in absurd (allowed found.0 r.0 r.1)
          | inr done ↦ absurd (let e = done.2 in cc)
        ]

        deleted_trees : (w : Written) → Deletes task q db (Ok w) → Refers All schema w.trees
        deleted_trees w (inl stopped) = absurd (let e = stopped.2 in cc)
        deleted_trees w (inr found) = elim found.2 [
          | inl stopped ↦ absurd (let e = stopped.2 in cc)
          | inr cut ↦
              let edit = cut_by found.0 in
              let same : w ≡ record { trees = cut.0; rows = taken_by db edit; last = None } = (let e = cut.2 in cc) in
              subst (λ (w : Written). Refers All schema w.trees) (sym same) (refers found.0 cut.0 found.1 cut.1)
        ]

        pub delete_refused : Refused (Delete at q) → IsFault old new e
        delete_refused does = go (rw there at does)
          where
            go : Then (Deletes task q db) (Concludes task (mode_of old) None) (Err (Some e)) → IsFault old new e
            go (inl stopped) = delete_stopped stopped.0 (let e = stopped.2 in cc) stopped.1
            go (inr wrote) = absurd (concluded wrote.0 (deleted_trees wrote.0 wrote.1) wrote.2)

      abbrev altered_by : List Row → Edit
      altered_by found = edit_of db table (ids_of found) Given 1 found

      -- an UPDATE of the rows found
      module _ (quiet : (found : List Row) → works schema Enforced 0 table.tree (taken_by db (altered_by found)) (altered_by found).news ≡ [])
          (refers : (found : List Row) (next : Trees) → Queried old.step_limit (record { schema = schema; trees = db }) q params (Ok found) → Applies schema Enforced db (altered_by found) next → Refers All schema next) where
        -- a fault, or why SQLite rejects the edit
        abbrev Halt : Type 0
        Halt = IsFault old new e ⊎ ((found : List Row) × (why : Refusal) × Queried old.step_limit (record { schema = schema; trees = db }) q params (Ok found) × IsRefused schema Enforced db (altered_by found) why × (e ≡ edit_error why))

        update_stopped : (stop : Option Error) → stop ≡ Some e → Updates task q params db (Err stop) → Halt
        update_stopped stop is (inl asked) = inl (query_stopped asked.0 (let e = asked.2 in cc) asked.1)
        update_stopped stop is (inr found) = elim found.2 [
          | inl put ↦ let r = edit_refused db (altered_by found.0) (none_stops schema db (altered_by found.0) (quiet found.0)) put.0 e (let e = put.2 in cc) put.1 in inr (found.0, r.0, found.1, r.1, r.2)
          | inr done ↦ absurd (let e = done.2 in cc)
        ]

        updated_trees : (w : Written) → Updates task q params db (Ok w) → Refers All schema w.trees
        updated_trees w (inl stopped) = absurd (let e = stopped.2 in cc)
        updated_trees w (inr found) = elim found.2 [
          | inl stopped ↦ absurd (let e = stopped.2 in cc)
          | inr put ↦
              let edit = altered_by found.0 in
              let step = one_step schema Enforced db put.0 edit (quiet found.0) put.1 in
              let same : w ≡ record { trees = put.0; rows = edit.news; last = None } = (let e = put.2 in cc) in
              subst (λ (w : Written). Refers All schema w.trees) (sym same) (refers found.0 put.0 found.1 step)
        ]

        pub update_refused : Refused (Update at q) → Halt
        update_refused does = go (rw there at does)
          where
            go : Then (Updates task q params db) (Concludes task (mode_of old) None) (Err (Some e)) → Halt
            go (inl stopped) = update_stopped stopped.0 (let e = stopped.2 in cc) stopped.1
            go (inr wrote) = absurd (concluded wrote.0 (updated_trees wrote.0 wrote.1) wrote.2)

    -- an INSERT of rows of values into a table without AUTOINCREMENT
    module _ (terms : List Term) (width : ℕ) (uncounted : table.is_counted ≡ false) (typed : accepts_terms terms (stamped table params) ≡ true)
        (refers : (next : Trees) → Applies schema Enforced db (edit_of db table [] Chosen 0 (value_rows (stamped table params) width (length terms / width) terms)) next → Refers All schema next) where
      abbrev edit : Edit
      edit = edit_of db table [] Chosen 0 (value_rows (stamped table params) width (length terms / width) terms)

      abbrev edit_by : List Row → Rowids → Edit
      edit_by rows rowids = edit_of db table [] rowids 0 rows

      adds : (rows : List Row) (rowids : Rowids) → NeverStops schema db (edit_by rows rowids)
      adds rows rowids = none_stops schema db (edit_by rows rowids) (no_works schema Enforced 0 table.tree (edit_by rows rowids).news)

      -- a fault, or why SQLite rejects the edit
      abbrev Stop : Type 0
      Stop = IsFault old new e ⊎ ((why : Refusal) × IsRefused schema Enforced db edit why × (e ≡ edit_error why))

      chosen : (counter : Option Row) → rowids_for table (count_of counter) ≡ Chosen
      chosen counter = ap (λ b. if b then Above (count_of counter) else Chosen) uncounted

      source_stopped : (stop : Option Error) → stop ≡ Some e → Sourced old.step_limit (record { schema = schema; trees = db }) (stamped table params) (Values terms width) (Err stop) → IsFault old new e
      source_stopped None is h = absurd h
      source_stopped (Some x) is (inl ill) = absurd (both_ways _ ill.1 typed)
      source_stopped (Some x) is (inr limit) = let same : x ≡ e = cc in subst (IsFault old new) same (inr limit)

      same_edit : (rows : List Row) (counter : Option Row) → rows ≡ value_rows (stamped table params) width (length terms / width) terms → edit_by rows (rowids_for table (count_of counter)) ≡ edit
      same_edit rows counter is = ap (edit_by rows) (chosen counter) ∙ ap (λ r. edit_by r Chosen) is

      insert_stopped : (stop : Option Error) → stop ≡ Some e → Inserts task (Values terms width) db (Err stop) → Stop
      insert_stopped stop is (inl asked) = inl (source_stopped asked.0 (let e = asked.2 in cc) asked.1)
      insert_stopped stop is (inr given) = elim given.2 [
        | inl counter ↦ absurd (let e = MatchBool-at_false _ _ uncounted counter.1 in cc)
        | inr counter ↦ elim counter.2 [
          | inl put ↦
              let r = edit_refused db (edit_by given.0 (rowids_for table (count_of counter.0))) (adds given.0 (rowids_for table (count_of counter.0))) put.0 e (let e = put.2 in cc) put.1 in
              inr (r.0, subst (λ (d : Edit). IsRefused schema Enforced db d r.0) (same_edit given.0 counter.0 given.1.1) r.1, r.2)
          | inr put ↦ elim put.2 [
            | inl counted ↦ absurd (let e = uncounts table.is_counted _ _ _ uncounted counted.1 in cc)
            | inr done ↦ absurd (let e = done.2 in cc)
          ]
        ]
      ]

      inserted_trees : (w : Written) → Inserts task (Values terms width) db (Ok w) → Refers All schema w.trees
      inserted_trees w (inl stopped) = absurd (let e = stopped.2 in cc)
      inserted_trees w (inr given) = elim given.2 [
        | inl counter ↦ absurd (let e = counter.2 in cc)
        | inr counter ↦ elim counter.2 [
          | inl put ↦ absurd (let e = put.2 in cc)
          | inr put ↦ elim put.2 [
            | inl counted ↦ absurd (let e = counted.2 in cc)
            | inr done ↦
                let its = edit_by given.0 (rowids_for table (count_of counter.0)) in
                let step = one_step schema Enforced db put.0 its (no_works schema Enforced 0 table.tree its.news) put.1 in
                let kept : done.0 ≡ put.0 = (let e = uncounts table.is_counted _ _ _ uncounted done.1 in cc) in
                let same : w ≡ record { trees = done.0; rows = its.news; last = w.last } = (let e = done.2 in cc) in
                let end : w.trees ≡ put.0 = ap (λ (x : Written). x.trees) same ∙ kept in
                subst (Refers All schema) (sym end) (refers put.0 (subst (λ (d : Edit). Applies schema Enforced db d put.0) (same_edit given.0 counter.0 given.1.1) step))
          ]
        ]
      ]

      source_large : (stop : Option Error) → stop ≡ None → Sourced old.step_limit (record { schema = schema; trees = db }) (stamped table params) (Values terms width) (Err stop) → ⊥
      source_large None is h = h
      source_large (Some x) is h = cc

      -- an inserted row is too large
      abbrev Large : Type 0
      Large = (row : Row) × Has edit.news row × IsOversized schema table row

      insert_large : (stop : Option Error) → stop ≡ None → Inserts task (Values terms width) db (Err stop) → Large
      insert_large stop is (inl asked) = absurd (source_large asked.0 (let e = asked.2 in cc) asked.1)
      insert_large stop is (inr given) = elim given.2 [
        | inl counter ↦ absurd (let e = MatchBool-at_false _ _ uncounted counter.1 in cc)
        | inr counter ↦ elim counter.2 [
          | inl put ↦
              let r = edit_large db (edit_by given.0 (rowids_for table (count_of counter.0))) (adds given.0 (rowids_for table (count_of counter.0))) put.0 (let e = put.2 in cc) put.1 in
              (r.0, subst (λ (d : Edit). Has d.news r.0) (same_edit given.0 counter.0 given.1.1) r.1, r.2)
          | inr put ↦ elim put.2 [
            | inl counted ↦ absurd (let e = uncounts table.is_counted _ _ _ uncounted counted.1 in cc)
            | inr done ↦ absurd (let e = done.2 in cc)
          ]
        ]
      ]

      pub insert_too_large : Does old.step_limit (mode_of old) params (record old.now { schema = schema }) text None (Insert at (Values terms width)) (Err None) → Large
      insert_too_large does = go (rw there at does)
        where
          go : Then (Inserts task (Values terms width) db) (Concludes task (mode_of old) None) (Err None) → Large
          go (inl stopped) = insert_large stopped.0 (let e = stopped.2 in cc) stopped.1
          go (inr wrote) = absurd (concluded_large wrote.0 wrote.2)

      pub insert_refused : Refused (Insert at (Values terms width)) → Stop
      insert_refused does = go (rw there at does)
        where
          go : Then (Inserts task (Values terms width) db) (Concludes task (mode_of old) None) (Err (Some e)) → Stop
          go (inl stopped) = insert_stopped stopped.0 (let e = stopped.2 in cc) stopped.1
          go (inr wrote) = absurd (concluded wrote.0 (inserted_trees wrote.0 wrote.1) wrote.2)

-- ---- several statements in one transaction

-- the statement failed, or an earlier failure had ended the transaction
abbrev pub OrTooLate : State → Error → Type 0 → Type 0
OrTooLate old e Failed = Failed ⊎ ((e ≡ SqliteFailure code.TransactionState) × (old.in_transaction ≡ false))

pub as_write_fault : (old new : State) (e : Error) {Failed : Type 0} → (Failed → IsFault old new e) → OrTooLate old e Failed → IsWriteFault old new e
as_write_fault old new e faults (inl failed) = inl (faults failed)
as_write_fault old new e faults (inr late) = inr late

pub or_insert_fault : (old new : State) (e : Error) {Failed : Type 0} → (Failed → IsInsertFault old new e) → OrTooLate old e Failed → IsInsertFault old new e
or_insert_fault old new e faults (inl failed) = faults failed
or_insert_fault old new e faults (inr late) = inl (inl (inr late))

pub or_put_fault : (old new : State) (e : Error) {Failed : Type 0} → (Failed → IsPutFault old new e) → OrTooLate old e Failed → IsPutFault old new e
or_put_fault old new e faults (inl failed) = faults failed
or_put_fault old new e faults (inr late) = inl (inr late)

-- a failure of a later statement is also one since the start, because the transaction continues
module _ (first later new : State) (survives : Survives first later (λ _. ⊥)) (clean : HasCleanDisk later) (up : later.faults ≤ new.faults) (inside : later.in_transaction ≡ true) (e : Error) where
  pub write_fault_later : IsWriteFault later new e → IsWriteFault first new e
  write_fault_later (inl (inl store)) = inl (inl (store.0, store.1, reason_by later new first new (fault_since first later new (survives.closes clean) survives.counts up) store.0 store.2))
  write_fault_later (inl (inr stopped)) = inl (inr (stopped.0, subst IsSome survives.limit stopped.1))
  write_fault_later (inr late) = absurd (both_ways _ late.1 inside)

  pub insert_fault_later : IsInsertFault later new e → IsInsertFault first new e
  insert_fault_later (inl (inl fault)) = inl (inl (write_fault_later fault))
  insert_fault_later (inl (inr large)) = inl (inr large)
  insert_fault_later (inr rowid) = inr rowid

-- an error that `?` returns
pub erred_with : {X : Type 0} (r : Result X Error) (first : Error) (P : Error → Type 0) → IsErrAnd r (λ e. e ≡ first) → P first → IfErr r P
erred_with (Ok x) first P is h = tt
erred_with (Err e) first P is h = subst P (sym is) h
