-- A SELECT without parameters over any database: the rows that it returns, and why it fails.
use Rattle.std.proofs.Common.{◌≡◌, ◌⊎◌, inl, inr, ℕ, ◌+◌, List, [], map, Bool, true, false, Option, None, Some, Ok, Err, Result, codes, refl, sym, ap, subst, ◌∙◌}
use Rattle.reg_tables.proofs.Kit.{IsSome, if◌then◌else◌, Statement, Parsed, Returning, InsertOr, CreateIndex, DropTable, DropIndex, Begin, Commit, Rollback, Savepoint, Release, RollbackTo, Nothing, CreateView, DropView, Rows, Compiled, NoSuchTable, Checked, and_then, first, small, with_command, Row, timed, Database, RefusesToRead, reads_listing, listing_schema, if_select, is_select, State, ShowsRows, FailsToShow, IsNoStatement, IsTooLate, Error, SqliteFailure}
use Rattle.sqlite_ast.specs.declared.Select as written_select
use Rattle.sqlite_ast.specs.declared.Statement.TheVariants as written
use Rattle.sqlite_schema.specs.declared.schema.Schema.{Schema}
use Rattle.sqlite_schema.specs.declared.command.Command.{Command}
use Rattle.sqlite_schema.specs.declared.command.Command.TheVariants.{Select, Insert, Update, Delete, CreateTable}
use Rattle.sqlite_resolve.specs.Compile as compile
use Rattle.sqlite_resolve.specs.Compile.{compiled, planned, meaning, returning, command}
use Rattle.sqlite_tied.specs.Compute.{everything}
use Rattle.sqlite.specs.Listing.{understood}
use Rattle.sqlite.specs.State.{Shown, FailsToQuery, IsNotRun}
use Rattle.sqlite.specs.declared.error.ErrorCode.TheVariants as code
use Rattle.reg_tables.specs.FailedCalls.{IsFault, IsRefused, IsUnreadable}
use Rattle.reg_tables.specs.Inside.FailedLists.{FailsToList}
use Rattle.reg_tables.specs.Selects.{Selects}
use Rattle.reg_tables.proofs.Faults.{memory_is_fault, read_fault_until}
use Rattle.reg_tables.proofs.Reasons.{reason_of}

-- ---- a SELECT has no RETURNING

-- SQLite parses the statement as a SELECT
pub record ReadsSelect (sql : List ℕ) : Type 0 where
  pub parsed : Parsed
  pub select : written_select.Select
  pub parses : first sql ≡ Ok parsed
  pub statement : parsed.statement ≡ written.Select select

pub meta_select : ReadsSelect (codes "SELECT rowid, name, value FROM meta")
unfolding everything
meta_select = record { parsed = _; select = _; parses = refl; statement = refl }

module _ (sql : List ℕ) (it : ReadsSelect sql) where
  plan_returns_none : (formats : List (List ℕ)) (r : Checked Command) (c : Compiled)
      → and_then (and_then (and_then (Ok None) (λ (shown : Option Returning). and_then r (λ x. Ok (x, shown)))) (λ found. Ok (formats, found))) (λ plan. Ok (with_command it.parsed plan)) ≡ Ok c → c.returning ≡ None
  plan_returns_none formats (Ok x) c is = let same : with_command it.parsed (formats, (x, None)) ≡ c = cc in sym (ap (λ (d : Compiled). d.returning) same)
  plan_returns_none formats (Err e) c is = absurd (cc)

  compiled_returns_none : (schema : Schema) (c : Compiled) → compiled schema sql ≡ Ok c → c.returning ≡ None
  unfolding compiled planned meaning returning
  compiled_returns_none schema c is =
      let p = it.parsed in
      let formats = compile.timed schema p.formats p.statement in
      let base = small p.names + small formats in
      let Whole : Checked Parsed → Type 0 = λ r. and_then r (λ q. and_then (planned schema q) (λ plan. Ok (with_command q plan))) ≡ Ok c in
      let Told : Checked (Option Returning) → Type 0 = λ r. and_then (and_then (and_then r (λ shown. and_then (command schema p.formats base p.statement) (λ x. Ok (x, shown)))) (λ found. Ok (formats, found))) (λ plan. Ok (with_command p plan)) ≡ Ok c in
      let none : returning schema base p.statement ≡ Ok None = ap (λ (s : Statement). returning schema base s) it.statement in
      plan_returns_none formats (command schema p.formats base p.statement) c (subst Told none (subst Whole it.parses is))

  chosen_by : (b : Bool) (r : Checked Compiled) (c : Compiled) → (if b then r else Err NoSuchTable) ≡ Ok c → r ≡ Ok c
  chosen_by true r c is = is
  chosen_by false r c is = absurd (cc)

  chosen : (r : Checked Compiled) (c : Compiled) → if_select r ≡ Ok c → r ≡ Ok c
  chosen (Ok d) c is = chosen_by (is_select d.command) (Ok d) c is
  chosen (Err e) c is = absurd (cc)

  pub returns_none : (schema : Schema) (c : Compiled) → understood schema sql ≡ Ok c → c.returning ≡ None
  unfolding understood
  returns_none schema c is = of_schema (reads_listing schema sql) is
    where
      of_schema : (b : Bool) → (if b then if_select (compiled listing_schema sql) else compiled schema sql) ≡ Ok c → c.returning ≡ None
      of_schema true is = compiled_returns_none listing_schema c (chosen (compiled listing_schema sql) c is)
      of_schema false is = compiled_returns_none schema c is

  -- ---- the rows that it returns

  pub selects : (old new : State) (rows : List Row) → Shown sql [] old new rows → Selects old.now sql rows
  unfolding Shown
  selects old new rows h =
      let c = h.0 in
      let it = h.1 in
      let shows = subst (ShowsRows old new sql c (timed [] c.formats it.now) rows) (returns_none old.now.schema c it.is) h.2 in
      record { compiled = c; compiles = it.is; source = shows.0; from = shows.1; now = it.now; reads = shows.2 }

  -- ---- why it fails

  rejects : (old : State) (command : Command) (db : Database) (params : Row) (e : Error) → RefusesToRead old.step_limit command db params e → ((e ≡ SqliteFailure code.OperationInterrupted) × IsSome old.step_limit) ⊎ IsRefused e
  rejects old (Select q names) db params e (inl ill) = inr (subst IsRefused (sym ill.0) tt)
  rejects old (Select q names) db params e (inr (inl over)) = inr (subst IsRefused (sym over.0) tt)
  rejects old (Select q names) db params e (inr (inr stopped)) = inl stopped
  rejects old (Rows values width names) db params e stopped = inl stopped
  rejects old (Insert at from) db params e is = inr (subst IsRefused (sym is) tt)
  rejects old (InsertOr at how from clauses) db params e is = inr (subst IsRefused (sym is) tt)
  rejects old (Update at q) db params e is = inr (subst IsRefused (sym is) tt)
  rejects old (Delete at q) db params e is = inr (subst IsRefused (sym is) tt)
  rejects old CreateTable db params e is = inr (subst IsRefused (sym is) tt)
  rejects old (CreateIndex at) db params e is = inr (subst IsRefused (sym is) tt)
  rejects old (DropTable at) db params e is = inr (subst IsRefused (sym is) tt)
  rejects old (DropIndex at) db params e is = inr (subst IsRefused (sym is) tt)
  rejects old Begin db params e is = inr (subst IsRefused (sym is) tt)
  rejects old Commit db params e is = inr (subst IsRefused (sym is) tt)
  rejects old Rollback db params e is = inr (subst IsRefused (sym is) tt)
  rejects old (Savepoint name) db params e is = inr (subst IsRefused (sym is) tt)
  rejects old (Release name) db params e is = inr (subst IsRefused (sym is) tt)
  rejects old (RollbackTo name) db params e is = inr (subst IsRefused (sym is) tt)
  rejects old Nothing db params e is = inr (subst IsRefused (sym is) tt)
  rejects old CreateView db params e is = inr (subst IsRefused (sym is) tt)
  rejects old (DropView at) db params e is = inr (subst IsRefused (sym is) tt)

  no_statement : (s : State) (params : Row) (e : Error) → IsNoStatement s sql params e → IsRefused e
  no_statement s params e (inl fault) = subst IsRefused (sym fault.2) tt
  no_statement s params e (inr (c, understood, inl more)) = subst IsRefused (sym more.1) tt
  no_statement s params e (inr (c, understood, inr (inl other))) = subst IsRefused (sym other.1) tt
  no_statement s params e (inr (c, understood, inr (inr clock))) = subst IsRefused (sym clock.1) tt

  fails : (old new : State) (e : Error) → FailsToQuery sql [] old new e → IsFault old new e ⊎ IsRefused e
  unfolding FailsToQuery IsNotRun
  fails old new e (inl (inr store)) = inl (inl (store.0, store.1, reason_of old new store.0 store.2))
  fails old new e (inl (inl none)) = inr (no_statement old [] e none.0)
  fails old new e (inr h) =
      let c = h.0 in
      let it = h.1 in
      let shows = subst (FailsToShow old new sql c (timed [] c.formats it.now) e) (returns_none old.now.schema c it.is) h.2 in
      elim (rejects old c.command shows.0 (timed [] c.formats it.now) e shows.2) [ inl stopped ↦ inl (inr stopped) | inr refused ↦ inr refused ]

  -- a fault, a rejected statement, or a row that isn't readable
  pub fails_anywhere : (is_readable : Row → Type 0) (old new end : State) (e : Error) → FailsToList is_readable sql [] old new end e → IsFault old end e ⊎ (IsRefused e ⊎ IsUnreadable e)
  fails_anywhere is_readable old new end e (inl (counts, inl failed)) = elim (fails old new e failed) [ inl fault ↦ inl (read_fault_until old new end counts e fault) | inr refused ↦ inr (inl refused) ]
  fails_anywhere is_readable old new end e (inl (counts, inr late)) = absurd (let none = subst IsSome (returns_none old.now.schema late.0 late.1.is) late.2 in cc)
  fails_anywhere is_readable old new end e (inr read) = elim read.3 [ inl memory ↦ inl (memory_is_fault old end e memory) | inr unread ↦ inr (inr unread) ]
