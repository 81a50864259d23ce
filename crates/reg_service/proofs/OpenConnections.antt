-- The connection after calls, and what calls of a service preserve, one after another.
use Rattle.std.proofs.Common.{◌≡◌, ◌∙◌, refl, inl, inr, sym, subst, Result, Ok, Err, IsTrue, ℕ, ◌+◌, ◌≤◌, ◌++◌, ◌∷◌, List, [], min, arith}
use Rattle.std.specs.Prelude.{OnOk}
use Rattle.std.proofs.lemmas.Bool.{cases_Bool, both_ways}
use Rattle.std.proofs.lemmas.List.Elements.{All-push, All-same}
use Rattle.sqlite.specs.State.{State, HasCleanDisk}
use Rattle.sqlite_trees.specs.declared.store.Store.{Ghosts}
use Rattle.reg_core.specs.declared.code.Code.TheVariants.{BackendFault}
use Rattle.reg_core.specs.Replies.{ReplyView, fault}
use Rattle.reg_store.specs.declared.error.StoreError.{StoreError}
use Rattle.reg_store.specs.declared.store.Store.{Store}
use Rattle.reg_core.specs.Stored.{Stored}
use Rattle.reg_store.specs.Stores.{has_failed, state_of, KeepsOpen, KeepsStore, ReadsStore}
use Rattle.reg_service.specs.declared.service.Service.{Service}
use Rattle.reg_service.specs.Services.{state_in, PreservesStore, PreservesService, AreBackendFaults}

-- a larger count stays larger
still_more : (top a b c : ℕ) → min (a + 1) top ≤ b → b ≤ c → min (a + 1) top ≤ c
still_more top a b c more later = omega arith

-- and it is larger than an earlier count
more_then : (top a b c : ℕ) → a ≤ b → min (b + 1) top ≤ c → min (a + 1) top ≤ c
more_then top a b c before more = omega arith

-- doing nothing closes and opens nothing
pub keeps_open : (s : State) → KeepsOpen s s
keeps_open s = record { counts = omega arith; shield = λ h. h; stays_closed = λ _ is_open. is_open; closes = λ _ is_open. inl is_open }

-- two calls that each preserve this preserve it together
pub keeps_then : (a b c : State) → (HasCleanDisk c → HasCleanDisk b) → KeepsOpen a b → KeepsOpen b c → KeepsOpen a c
keeps_then a b c clean p q = record {
  counts = omega (arith, p.counts, q.counts);
  shield = λ h. q.shield (p.shield h);
  stays_closed = λ h is_open. p.stays_closed (clean h) (q.stays_closed h is_open);
  closes = λ h was_open. elim (p.closes (clean h) was_open) [
    | inl is_open ↦ elim (q.closes h is_open) [ inl now ↦ inl now | inr more ↦ inr (more_then _ a.faults b.faults c.faults p.counts more) ]
    | inr more ↦ inr (still_more _ a.faults b.faults c.faults more q.counts)
  ];
}

module _ {S : Type 0} {g : Ghosts S} where
  -- a service that does nothing, and returns no reply of its own
  pub keeps_still : (s : Service S g) (OnlyFaultReplies : Type 0) → OnlyFaultReplies → PreservesService s s OnlyFaultReplies
  keeps_still s OnlyFaultReplies none = record {
    failed = λ failed. (none, refl);
    closed = λ _ _. (none, λ db it. it);
    clean = λ clean. clean;
    connection = keeps_open (state_in s);
  }

  -- a call that returns a reply of its own had an open connection
  pub was_open : (old new : Service S g) → PreservesService old new ⊥ → HasCleanDisk (state_in new) → IsTrue (state_in old).is_open
  was_open old new keeps clean = elim (cases_Bool (state_in old).is_open) [ inl is_open ↦ is_open | inr is_closed ↦ absurd (keeps.closed clean (λ is_open. both_ways _ is_closed is_open)).0 ]

  -- one call after another
  pub keeps_both : {P Q R : Type 0} (old mid new : Service S g) → (P → Q → R) → PreservesService old mid P → PreservesService mid new Q → PreservesService old new R
  keeps_both old mid new none before one = record {
    failed = λ failed.
        let was = before.failed failed in
        let is = one.failed (subst (λ (s : Store S g). IsTrue (has_failed s)) (sym was.1) failed) in
        (none was.0 is.0, is.1 ∙ was.1);
    closed = λ clean is_closed.
        let was = before.closed (one.clean clean) is_closed in
        let is = one.closed clean (λ is_open. is_closed (before.connection.stays_closed (one.clean clean) is_open)) in
        (none was.0 is.0, λ db it. was.1 db (is.1 db it));
    clean = λ clean. before.clean (one.clean clean);
    connection = keeps_then (state_in old) (state_in mid) (state_in new) one.clean before.connection one.connection;
  }

  -- a consequence of `OnlyFaultReplies`
  pub keeps_as : {P Q : Type 0} (old new : Service S g) → (P → Q) → PreservesService old new P → PreservesService old new Q
  keeps_as old new f keeps = record {
    failed = λ failed. let is = keeps.failed failed in (f is.0, is.1);
    closed = λ clean is_closed. let is = keeps.closed clean is_closed in (f is.0, is.1);
    clean = keeps.clean;
    connection = keeps.connection;
  }

  -- one more delivery
  pub keeps_next : (old mid new : Service S g) (replies more : List ReplyView) (reply : ReplyView) → more ≡ replies ++ reply ∷ []
      → PreservesService old mid (AreBackendFaults replies) → PreservesService mid new (reply ≡ fault BackendFault) → PreservesService old new (AreBackendFaults more)
  keeps_next old mid new replies more reply longer before one = keeps_both old mid new all before one
    where
      all : AreBackendFaults replies → reply ≡ fault BackendFault → AreBackendFaults more
      all them it = All-same (λ told. told ≡ fault BackendFault) more (replies ++ reply ∷ []) longer (All-push (λ told. told ≡ fault BackendFault) replies reply them it)

-- after a successful call, the store hasn't failed
pub goes_on : {S T : Type 0} {g : Ghosts S} {old new : Store S g} {x : T} → KeepsStore old new (Ok x) → IsTrue (has_failed new) → ⊥
goes_on keeps failed = let is = keeps.failed_now.1 failed in absurd (cc)

-- a call that only reads the store, and fails if the read fails
module _ {S T : Type 0} {g : Ghosts S} {IsRightFor : Stored → T → Type 0} {OnlyFaultReplies : Type 0} {old new : Store S g} where
  pub keeps_reading : {r : Result T StoreError} → ReadsStore old new r IsRightFor → (OnOk r ⊥ → OnlyFaultReplies) → PreservesStore old new OnlyFaultReplies
  keeps_reading {r} reads none = record {
    failed = λ failed. let was = reads.frame.failed_before failed in (none (subst (λ (q : Result T StoreError). OnOk q ⊥) (sym was.0) tt), was.1);
    closed = λ clean is_closed. (none (fails r (reads.frame.was_open clean) is_closed), (reads.tells clean).crash);
    clean = reads.frame.clean;
    connection = reads.frame.connection;
  }
    where
      fails : (r : Result T StoreError) → OnOk r (IsTrue (state_of old).is_open) → (IsTrue (state_of old).is_open → ⊥) → OnOk r ⊥
      fails (Ok x) is_open is_closed = is_closed is_open
      fails (Err e) is_open is_closed = tt

  -- a successful read, and then a call of a service
  pub keeps_read_then : {x : T} {mid : Store S g} → ReadsStore old mid (Ok x) IsRightFor → PreservesStore mid new OnlyFaultReplies → PreservesStore old new OnlyFaultReplies
  keeps_read_then {x} {mid} reads one = record {
    failed = λ failed. absurd (let was = (reads.frame.failed_before failed).0 in cc);
    closed = λ clean is_closed. absurd (is_closed (reads.frame.was_open (one.clean clean)));
    clean = λ clean. reads.frame.clean (one.clean clean);
    connection = keeps_then (state_of old) (state_of mid) (state_of new) one.clean reads.frame.connection one.connection;
  }
