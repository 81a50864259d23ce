-- What preparing a statement shows about the connection.
use Rattle.std.proofs.Common.{◌≡◌, ◌⊎◌, inl, inr, List, ℕ, Ok, Err, Result, IsTrue, sym, ap, subst}
use Rattle.std.specs.Prelude.{IfErr, OnOk, not}
use Rattle.std.proofs.lemmas.Bool.{both_ways}
use Rattle.sqlite.specs.Order.{Row}
use Rattle.sqlite.specs.declared.error.Error.{Error}
use Rattle.sqlite.specs.State.{State, HasCause, IsNoStatement, IsNotRun, IsRolledBack, IsUnchanged, KeepsCommit, store_error}
use Rattle.sqlite_trees.specs.declared.error.StoreError as trees
use Rattle.sqlite_trees.specs.declared.error.StoreError.TheVariants as stored
use Rattle.reg_tables.proofs.Transactions.{keeps_if_unchanged, keeps_if_undone}
use Rattle.reg_store.specs.declared.error.StoreError.{StoreError}
use Rattle.reg_store.specs.declared.error.StoreError.TheVariants.{NotARegistry}
use Rattle.reg_store.specs.Failures.{failure_of, is_fault, IsFaultBy}
use Rattle.reg_store.proofs.Failing.{fault_if_by}

module _ (old new : State) where
  refused : (sql : List ℕ) (params : Row) (e : Error) → IsNoStatement old sql params e → failure_of e ≡ NotARegistry
  refused sql params e (inl fault) = ap failure_of fault.2
  refused sql params e (inr (c, understood, inl more)) = ap failure_of more.1
  refused sql params e (inr (c, understood, inr (inl other))) = ap failure_of other.1
  refused sql params e (inr (c, understood, inr (inr timed))) = ap failure_of timed.1

  caused : (cause : trees.StoreError) → HasCause old new ⊥ cause → IsFaultBy old new (failure_of (store_error cause))
  caused stored.OutOfMemory h = tt
  caused stored.Io h = inr h
  caused stored.Corrupt h = inr h
  caused stored.Full h = inr h
  caused stored.Broken h = inl h
  caused stored.Unstorable h = absurd h

  -- a statement doesn't run because SQLite rejects it, or because of a fault
  pub not_run : (sql : List ℕ) (params : Row) (e : Error) → IsNotRun old new sql params e → ((failure_of e ≡ NotARegistry) × IsUnchanged old new) ⊎ (IsFaultBy old new (failure_of e) × IsRolledBack old new)
  unfolding IsNotRun
  not_run sql params e (inl none) = inl (refused sql params e none.0, none.1)
  not_run sql params e (inr fails) = inr (subst (λ x. IsFaultBy old new (failure_of x)) (sym fails.1) (caused fails.0 fails.2), fails.3)

-- ---- the result

-- Nothing is committed. On success nothing is changed and the connection is open; an error has a fault as its cause.
pub record Asked {X : Type 0} (old new : State) (r : Result X StoreError) : Type 0 where
  pub keeps : KeepsCommit old new
  pub unchanged : OnOk r (IsUnchanged old new)
  pub faults : IfErr r (IsFaultBy old new)

module _ (old new : State) where
  pub asked_ok : {X : Type 0} {x : X} → IsUnchanged old new → Asked old new (Ok x)
  asked_ok same = record { keeps = keeps_if_unchanged old new same; unchanged = same; faults = tt }

  pub asked_err : {X : Type 0} (r : Result X StoreError) (sql : List ℕ) (params : Row) (e : Error) → IsNotRun old new sql params e
      → OnOk r (IsTrue (not (is_fault (failure_of e)))) → IfErr r (λ failure. (failure ≡ failure_of e) × IsTrue (is_fault (failure_of e))) → Asked old new r
  asked_err {X} r sql params e none = by r (not_run old new sql params e none)
    where
      by : (r : Result X StoreError) → ((failure_of e ≡ NotARegistry) × IsUnchanged old new) ⊎ (IsFaultBy old new (failure_of e) × IsRolledBack old new)
          → OnOk r (IsTrue (not (is_fault (failure_of e)))) → IfErr r (λ failure. (failure ≡ failure_of e) × IsTrue (is_fault (failure_of e))) → Asked old new r
      by (Ok x) (inl plain) ok err = record { keeps = keeps_if_unchanged old new plain.1; unchanged = plain.1; faults = tt }
      by (Ok x) (inr fault) ok err = absurd (let is = fault_if_by old new (failure_of e) fault.0 in both_ways _ (ap not is) ok)
      by (Err failure) (inl plain) ok err = absurd (both_ways _ (ap is_fault plain.0) err.1)
      by (Err failure) (inr fault) ok err = record { keeps = keeps_if_undone old new fault.1; unchanged = tt; faults = subst (IsFaultBy old new) (sym err.0) fault.0 }
