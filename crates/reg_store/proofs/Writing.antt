-- Why a change of tables that spell a registry fails.
use Rattle.std.proofs.Common.{◌≡◌, ◌≢◌, ◌⊎◌, ◌<◌, ◌≤◌, List, [], ◌∷◌, length, arith, inl, inr, None, Some, Ok, Err, Result, IsTrue, true, sym, ap, subst, refl, ◌∙◌}
use Rattle.std.specs.Prelude.{IfErr, IsErrAnd, MatchResult, IsSome, option_map}
use Rattle.std.specs.FinMap.{get}
use Rattle.std.proofs.lemmas.Bool.{both_ways, cases_Bool}
use Rattle.sqlite.specs.declared.error.Error.{Error}
use Rattle.sqlite.specs.Steps.{FailsToCommit}
use Rattle.sqlite.specs.State.{State, HasCleanDisk, Survives}
use Rattle.sqlite.specs.Held.{Held, state}
use Rattle.sqlite_trees.specs.declared.store.Store.{Ghosts}
use Rattle.reg_core.specs.declared.decision.Change.{Change}
use Rattle.reg_core.specs.Views.{ChangeFits}
use Rattle.reg_tables.specs.Writing.{ForHeldContents}
use Rattle.reg_tables.specs.FailedCalls.{IsWriteFault, IsInsertFault}
use Rattle.reg_store.specs.declared.error.StoreError.{StoreError}
use Rattle.reg_store.specs.declared.keep.Keep.{Keep}
use Rattle.reg_core.specs.Stored.{Stored}
use Rattle.reg_store.specs.Spells.{stored_reply, Spells, SpellsWhileOpen}
use Rattle.reg_store.specs.Changes.{SpellsInTransaction, TransactionContinues}
use Rattle.reg_store.specs.Inside.Applying.{IsFaultOfChange, IsFaultOfReply}
use Rattle.reg_store.specs.Failures.{failure_of, is_fault, IsFaultBy}
use Rattle.reg_store.proofs.Failing.{fault_by, fault_if_by, by_until}
use Rattle.reg_tables.proofs.Reasons.{reason_of, reason_by, fault_since}

pub if_err_both : {X E : Type 0} {P Q R : E → Type 0} (r : Result X E) → ((e : E) → P e → Q e → R e) → IfErr r P → IfErr r Q → IfErr r R
if_err_both (Ok x) f p q = tt
if_err_both (Err e) f p q = f e p q

pub mapped_err : {X : Type 0} (Q : StoreError → Type 0) (r : Result X Error) (s : Result X StoreError) → MatchResult r (λ x. s ≡ Ok x) (λ e. IsErrAnd s (λ failure. failure ≡ failure_of e))
    → IfErr r (λ e. Q (failure_of e)) → IfErr s Q
mapped_err Q (Ok x) (Ok y) is h = tt
mapped_err Q (Ok x) (Err e) is h = absurd (cc)
mapped_err Q (Err e) (Ok y) is h = tt
mapped_err Q (Err e) (Err d) is h = subst Q (sym is) h

pub nonempty : {X : Type 0} (xs : List X) → xs ≢ [] → 0 < length xs
nonempty [] some = absurd (some refl)
nonempty (x ∷ xs) some = omega arith

-- a later change fails as one at the start does, since the transaction continues
pub fault_later : (first later new : State) → Survives first later (λ _. ⊥) → HasCleanDisk later → later.faults ≤ new.faults → TransactionContinues first later → (e : Error) → IsInsertFault later new e → IsInsertFault first new e
fault_later first later new s clean up goes e (inl (inl (inl (inl store)))) = inl (inl (inl (inl (store.0, store.1, reason_by later new first new (fault_since first later new (s.closes clean) s.counts up) store.0 store.2))))
fault_later first later new s clean up goes e (inl (inl (inl (inr stopped)))) = inl (inl (inl (inr (stopped.0, subst IsSome s.limit stopped.1))))
fault_later first later new s clean up goes e (inl (inl (inr late))) = inl (inl (inr (late.0, goes late.1)))
fault_later first later new s clean up goes e (inl (inr large)) = inl (inr large)
fault_later first later new s clean up goes e (inr rowid) = inr rowid

-- in a transaction without a step limit, only memory and the disk fail
module _ (s new : State) (e : Error) (unlimited : s.step_limit ≡ None) (inside : IsTrue s.in_transaction) where
  pub fault_of_write : IsWriteFault s new e → IsFaultBy s new (failure_of e)
  fault_of_write (inl fault) = fault_by s new e unlimited fault
  fault_of_write (inr late) = absurd (both_ways _ late.1 inside)

  pub is_fault_of_insert : IsInsertFault s new e → IsTrue (is_fault (failure_of e))
  is_fault_of_insert (inl (inl fault)) = fault_if_by s new (failure_of e) (fault_of_write fault)
  is_fault_of_insert (inl (inr large)) = subst (λ x. IsTrue (is_fault (failure_of x))) (sym large) refl
  is_fault_of_insert (inr (inl full)) = subst (λ x. IsTrue (is_fault (failure_of x))) (sym full) refl
  is_fault_of_insert (inr (inr taken)) = subst (λ x. IsTrue (is_fault (failure_of x))) (sym taken) refl

  pub fault_of_commit : FailsToCommit s new e → IsFaultBy s new (failure_of e)
  fault_of_commit (inl fails) = fault_by s new e unlimited (inl (fails.0, fails.1, reason_of s new fails.0 fails.2))
  fault_of_commit (inr late) = absurd (both_ways _ late.1 inside)

module _ (s new : State) (e : Error) (shut : IsTrue s.is_open ⊎ IsWriteFault s new e) where
  pub fault_of_change : (change : Change) → ((was : Stored) → Spells s.now was → ChangeFits change was.registry → IsInsertFault s new e) → IsFaultOfChange s new change e
  fault_of_change change fails was spells fits = elim shut [ inl is_open ↦ fails was (spells is_open) fits | inr fault ↦ inl (inl fault) ]

  pub fault_of_reply : (keep : Keep) → ForHeldContents s (λ contents. get contents.kept keep.key.now ≡ None → IsInsertFault s new e) → IsFaultOfReply s new (Some keep) e
  fault_of_reply keep fails was spells fresh = elim shut [
    | inl is_open ↦ let it = spells is_open in fails it.schema it.known it.contents it.holds (it.spelled.base.kept keep.key.now ∙ ap (option_map stored_reply) fresh)
    | inr fault ↦ inl (inl fault)
  ]

pub begun_spells : {S : Type 0} (g : Ghosts S) (conn begun : Held S) → begun ≡ record conn { in_transaction = true } → (was : Stored) → SpellsWhileOpen (state g conn) was → SpellsInTransaction (state g begun) was
begun_spells g conn begun is was over is_open =
    subst (λ h. Spells (state g h).now was) (sym is) (over (subst (λ h. IsTrue (state g h).is_open) is is_open)).spells

module _ {S : Type 0} (g : Ghosts S) (conn begun last : Held S) (end : Held S) (is : begun ≡ record conn { in_transaction = true }) (up : (state g last).faults ≤ (state g end).faults) (e : StoreError) where
  pub of_call : IsFaultBy (state g begun) (state g last) e → IsFaultBy (state g conn) (state g end) e
  of_call h = subst (λ b. IsFaultBy (state g b) (state g end) e) is (by_until (state g begun) (state g last) (state g end) up e h)

pub still_inside : (a b : State) → IsTrue a.in_transaction → TransactionContinues a b → IsTrue b.in_transaction
still_inside a b inside goes = elim (cases_Bool b.in_transaction) [ inl it ↦ it | inr ended ↦ absurd (both_ways _ (goes ended) inside) ]
