-- What several reads of lines keep of the store.
use Rattle.std.proofs.Common.{◌≡◌, inl, inr, Result, IsTrue, refl, ◌∙◌, arith}
use Rattle.std.specs.Prelude.{Err, OnOk}
use Rattle.sqlite.specs.State.{State, HasCleanDisk}
use Rattle.sqlite_trees.specs.declared.store.Store.{Ghosts}
use Rattle.reg_core.specs.Stored.{Stored}
use Rattle.reg_store.specs.declared.error.StoreError.{StoreError}
use Rattle.reg_store.specs.declared.store.Store.{Store}
use Rattle.reg_store.specs.Failures.{IsFaultOver}
use Rattle.reg_store.specs.Stores.{state_of, has_failed, KeepsOpen, LinesKeepStore, RecoversLastCommit, AddsNoCrashState, StillSpells, AnswersFromStored}
use Rattle.reg_store.proofs.Failing.{by_since}
use Rattle.reg_store.proofs.Keeping.{Settles}
use Rattle.reg_report.specs.declared.error.ReportError.{ReportError}
use Rattle.reg_report.specs.Keeping.{PreservesListed}

-- the same, for every result
pub record Keeps {S : Type 0} {g : Ghosts S} (old new : Store S g) : Type 0 where
  pub failed : has_failed new ≡ has_failed old
  pub clean : HasCleanDisk (state_of new) → HasCleanDisk (state_of old)
  pub connection : KeepsOpen (state_of old) (state_of new)
  pub settled : RecoversLastCommit (state_of new)
  pub same : HasCleanDisk (state_of new) → StillSpells (state_of old) (state_of new)
  pub crash : HasCleanDisk (state_of new) → AddsNoCrashState (state_of old) (state_of new)

opens_then : (a b c : State) → (HasCleanDisk c → HasCleanDisk b) → KeepsOpen a b → KeepsOpen b c → KeepsOpen a c
opens_then a b c clean_before p q = record {
  counts = omega (arith, p.counts, q.counts);
  shield = λ h. q.shield (p.shield h);
  stays_closed = λ clean is_open. p.stays_closed (clean_before clean) (q.stays_closed clean is_open);
  closes = λ clean is_open. elim (p.closes (clean_before clean) is_open) [
    | inl still ↦ elim (q.closes clean still) [ inl after ↦ inl after | inr more ↦ inr (omega (arith, p.counts, more)) ]
    | inr more ↦ inr (omega (arith, q.counts, more))
  ];
}

module _ {S : Type 0} {g : Ghosts S} where
  -- no call
  pub keeps_still : Settles g → (s : Store S g) → Keeps s s
  keeps_still settles s = record {
    failed = refl;
    clean = λ clean. clean;
    connection = record { counts = omega arith; shield = λ h. h; stays_closed = λ _ is_open. is_open; closes = λ _ is_open. inl is_open };
    settled = λ is_open db it. settles s.db.idle.conn.store db is_open it;
    same = λ _ was over. over;
    crash = λ _ db it. it;
  }

  -- one more call
  pub keeps_then : {T Goes : Type 0} {IsRightFor : Stored → T → Type 0} (a b c : Store S g) (r : Result T StoreError) → Keeps a b → LinesKeepStore b c r → (HasCleanDisk (state_of c) → AnswersFromStored (state_of b) (state_of c) Goes r IsRightFor) → Keeps a c
  keeps_then a b c r p q tells = record {
    failed = q.failed ∙ p.failed;
    clean = λ clean. p.clean (q.clean clean);
    connection = opens_then (state_of a) (state_of b) (state_of c) q.clean p.connection q.connection;
    settled = q.settled;
    same = λ clean was over. (tells clean).same was (p.same (q.clean clean) was over);
    crash = λ clean db it. p.crash (q.clean clean) db ((tells clean).crash db it);
  }

  -- a listing succeeds only over an open connection
  pub keeps_listed : {T : Type 0} (old new : Store S g) (r : Result T ReportError) → Keeps old new → (HasCleanDisk (state_of new) → OnOk r (IsTrue (state_of old).is_open)) → PreservesListed old new r
  keeps_listed old new r p was_open = record { failed = p.failed; clean = p.clean; was_open = was_open; connection = p.connection; settled = p.settled }

  -- a fault of the last call is a fault of all calls
  pub fault_on : {T Goes : Type 0} {IsRightFor : Stored → T → Type 0} (a b c : Store S g) (e : StoreError) → Keeps a b → LinesKeepStore {T = T} b c (Err e) → HasCleanDisk (state_of c) → AnswersFromStored {T = T} (state_of b) (state_of c) Goes (Err e) IsRightFor → Goes
      → IsFaultOver (state_of a) (state_of c) e
  fault_on a b c e p q clean tells going was over =
      let early = q.clean clean in
      by_since (state_of a) (state_of b) (state_of c) (p.connection.closes early) p.connection.counts q.connection.counts e (tells.answers was (p.same early was over) going)
