-- A query of the five tables fails only because of the store or the step limit.
use Rattle.std.proofs.Common.{◌≡◌, ◌≢◌, ◌⊎◌, inl, inr, ℕ, List, [], length, ◌≤◌, append-nil, true, Option, None, Some, Ok, Err, Result, sym, ap, subst, ◌∙◌}
use Rattle.reg_tables.proofs.Kit.{IsSome, IfErr, IsErrAnd, IsTrue, both_ways, cases_Bool, Value, Row, Select, Error, SqliteFailure, InvalidColumnIndex, InvalidColumnType, IntegralValueOutOfRange, Utf8Error, IsReadError, type_of, OutOfMemory, Database, RefusesToRead, IsSourceOf, State, FailsToShow, IsStatement, IsTooLate, timed, IsPlain, command_of, Returning, Compiled, accepts_program, any_has, Query, Trees, ProgramOverflows, Schema}
use Rattle.sqlite.specs.declared.error.ErrorCode.TheVariants as code
use Rattle.sqlite.specs.State.{FailsToQuery, IsNotRun}
use Rattle.reg_tables.specs.Layout.{HasFiveTables}
use Rattle.reg_tables.specs.Reads.{CanBeRead}
use Rattle.reg_tables.specs.FailedCalls.{IsFault}
use Rattle.reg_tables.specs.Inside.Statements.{IsOneStatement, IsSelect, TakesSelect, Takes, TableQuery, body_of, IsQuery}
use Rattle.reg_tables.proofs.Reasons.{reason_of, reason_if_shut, reason_by, fault_until}
use Rattle.reg_tables.proofs.Statements.{IsAsked}

-- in this schema the SQL text is a query that takes these parameters
pub record Asks (sql : List ℕ) (params : Row) (schema : Schema) : Type 0 where
  pub names : List (List ℕ)
  pub body : Query
  pub never : (db : Trees) (values : Row) → ProgramOverflows db values [] [] body → ⊥
  pub is : IsSelect sql names body schema
  pub takes : TakesSelect sql body params schema

-- a query of one table without aggregates
pub asks : (q : TableQuery) (params : Row) (schema : Schema) → IsQuery q schema → Takes q params schema → Asks q.sql params schema
asks q params schema is takes = record { names = q.names; body = body_of q; never = λ db values over. elim over [ inl none ↦ none | inr some ↦ (any_has _ _ some).2 ]; is = is; takes = takes }

pub asks_five : {q : TableQuery} {params : Row} → IsAsked q params → (schema : Schema) → HasFiveTables schema → Asks q.sql params schema
asks_five {q} {params} it schema first = asks q params schema (it.is schema first) (it.takes schema first)

pub read_fault_until : (old mid new : State) → mid.faults ≤ new.faults → (e : Error) → IsFault old mid e → IsFault old new e
read_fault_until old mid new up e (inl store) = inl (store.0, store.1, reason_by old mid old new (fault_until old mid new up) store.0 store.2)
read_fault_until old mid new up e (inr stopped) = inr stopped

-- while the connection is open, the statement is this query
module _ (sql : List ℕ) (params : Row) (old new : State) (known : IsTrue old.is_open → Asks sql params old.now.schema) where
  -- a closed connection returns only errors of the store
  open_or_fault : (c : Compiled) (values : Row) (e : Error) (o : Option Returning) → FailsToShow old new sql c values e o → IsTrue old.is_open ⊎ IsFault old new e
  open_or_fault c values e None s = inl s.3.0.was_open
  open_or_fault c values e (Some what) (inl s) = inl s.1.0.was_open
  open_or_fault c values e (Some what) (inr s) = elim (cases_Bool old.is_open) [ inl is_open ↦ inl is_open | inr shut ↦ inr (inl (s.0, s.1, reason_if_shut old new s.0 shut)) ]

  fails : (e : Error) → FailsToQuery sql params old new e → IsFault old new e
  unfolding FailsToQuery IsNotRun
  fails e (inl (inr store)) = inl (store.0, store.1, reason_of old new store.0 store.2)
  fails e (inl (inl (inl fault, same))) = absurd (subst IsPlain fault.1 (known same.0.was_open).is.command.plain)
  fails e (inl (inl (inr wrong, same))) =
      let it = known same.0.was_open in
      let given = subst (IsOneStatement sql (length params)) wrong.1 it.takes.whole in
      let bare = subst IsPlain wrong.1 it.is.command.plain in
      absurd (elim wrong.2 [ inl tail ↦ tail.0 given.0 | inr rest ↦ elim rest [ inl other ↦ other.0 (sym given.1) | inr clock ↦ clock.0 bare.1 ] ])
  fails e (inr shows) = elim (open_or_fault shows.0 (timed params shows.0.formats shows.1.now) e shows.0.returning shows.2) [ inl is_open ↦ shown_faults e (known is_open) shows | inr fault ↦ fault ]
    where
      shown_faults : (e : Error) → Asks sql params old.now.schema → (shows : (c : Compiled) × (given : IsStatement old sql params c) × FailsToShow old new sql c (timed params c.formats given.now) e c.returning) → IsFault old new e
      shown_faults e it shows =
          let same = shows.1.is in
          let bare = subst IsPlain same it.is.command.plain in
          let read = rw (bare.0, bare.1, append-nil params) at shows.2 in
          let db : read.0 ≡ old.now = subst (λ b. IsSourceOf b old.now read.0) it.is.unlisted read.1 in
          let command : shows.0.command ≡ Select (record { lets = []; body = it.body }) it.names = ap command_of (sym same) ∙ it.is.command.is in
          let refused = subst (λ k. RefusesToRead old.step_limit k read.0 params e) command read.2 in
          let typed : accepts_program read.0.schema [] it.body params ≡ true = ap (λ (d : Database). accepts_program d.schema [] it.body params) db ∙ it.takes.typed in
          elim refused [
            | inl ill ↦ absurd (both_ways _ ill.1 typed)
            | inr rest ↦ elim rest [ inl over ↦ absurd (it.never read.0.trees params over.1) | inr stopped ↦ inr stopped ]
          ]

  pub query_faults : (e : Error) → FailsToQuery sql params old new e ⊎ IsTooLate sql params old new e → IsFault old new e
  query_faults e (inl failed) = fails e failed
  query_faults e (inr late) =
      let bare = subst IsPlain late.1.is (known late.5.0.was_open).is.command.plain in
      absurd (let none = subst IsSome bare.0 late.2 in cc)

pub memory_is_fault : (old new : State) (e : Error) → e ≡ SqliteFailure code.OutOfMemory → IsFault old new e
memory_is_fault old new e is = inl (OutOfMemory, is, tt)

-- over readable contents a read fails only with a fault
abbrev pub FailsByFault : {X : Type 0} → State → State → Result X Error → Type 0
FailsByFault old new r = IfErr r (λ e. CanBeRead old → IsFault old new e)

-- an error that `?` returns
pub if_passed : {X : Type 0} (P : Error → Type 0) (r : Result X Error) (first : Error) → IsErrAnd r (λ e. e ≡ first) → P first → IfErr r P
if_passed P (Ok x) first is h = tt
if_passed P (Err e) first is h = subst P (sym is) h

pub passed_on : {X : Type 0} (old new : State) (r : Result X Error) (first : Error) → IsErrAnd r (λ e. e ≡ first) → (CanBeRead old → IsFault old new first) → FailsByFault old new r
passed_on old new r first is h = if_passed (λ e. CanBeRead old → IsFault old new e) r first is h
