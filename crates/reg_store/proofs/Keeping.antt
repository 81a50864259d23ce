-- What each call of a store keeps.
use Rattle.std.proofs.Common.{◌≡◌, inl, false, Ok, Err, Result, IsTrue, refl, sym, subst, arith}
use Rattle.std.specs.Prelude.{◌↔◌, OnOk, OnErr}
use Rattle.std.proofs.lemmas.Bool.{both_ways}
use Rattle.sqlite.specs.Tree.{Trees}
use Rattle.sqlite.specs.State.{State, HasCleanDisk, KeepsCommit, Survives}
use Rattle.sqlite_trees.specs.declared.store.Store.{Ghosts}
use Rattle.reg_store.specs.declared.error.StoreError.{StoreError}
use Rattle.reg_store.specs.declared.error.StoreError.TheVariants.{Disk}
use Rattle.reg_store.specs.declared.store.Store.{Store}
use Rattle.reg_core.specs.Stored.{Stored}
use Rattle.reg_store.specs.Inside.Reads.{Reads}
use Rattle.reg_store.specs.Stores.{state_of, has_failed, KeepsStore, ReadsStore}
use Rattle.reg_store.proofs.ReadLemmas.{tells_stored}

-- the law of a store: while it is open, a crash leaves its last commit and nothing else
abbrev pub Settles : {S : Type 0} → Ghosts S → Type 0
Settles {S} g = (s : S) (db : Trees) → IsTrue (g.view s).is_open → g.recovers s db → db ≡ (g.view s).committed

module _ {S T : Type 0} {g : Ghosts S} (settles : Settles g) (old new : Store S g) (result : Result T StoreError) where
  pub keeps_if_failed : IsTrue (has_failed old) → result ≡ Err Disk → new ≡ old → KeepsStore old new result
  keeps_if_failed failed is same =
      subst (λ (s : Store S g). KeepsStore old s result) (sym same) (subst (KeepsStore old old) (sym is) (record {
        failed_before = λ _. (refl, refl);
        failed_now = (λ _. failed, λ _. refl);
        clean = λ clean. clean;
        was_open = λ _. tt;
        connection = record { counts = omega arith; shield = λ h. h; stays_closed = λ _ is_open. is_open; closes = λ _ is_open. inl is_open };
        settled = λ is_open db it. settles old.db.idle.conn.store db is_open it;
      }))

  module _ (unfailed : has_failed old ≡ false) (failed_now : (result ≡ Err Disk) ↔ IsTrue (has_failed new)) (P : Trees → Type 0) (survives : Survives (state_of old) (state_of new) P)
      (was_open : HasCleanDisk (state_of new) → OnOk result (IsTrue (state_of old).is_open)) where
    pub keeps_store : (HasCleanDisk (state_of new) → IsTrue (state_of new).is_open → IsTrue (state_of old).is_open) → KeepsStore old new result
    keeps_store stays_closed = record {
      failed_before = λ failed. absurd (both_ways _ unfailed failed);
      failed_now = failed_now;
      clean = λ clean. omega (arith, survives.clean);
      was_open = was_open;
      connection = record { counts = survives.counts; shield = survives.shield; stays_closed = stays_closed; closes = survives.closes };
      settled = λ is_open db it. settles new.db.idle.conn.store db is_open it;
    }

-- a call that succeeds only over an open connection; a failed one commits nothing and opens none
pub opens_none : {X E : Type 0} (old new : State) (r : Result X E) → OnOk r (IsTrue old.is_open) → OnErr r (KeepsCommit old new) → IsTrue new.is_open → IsTrue old.is_open
opens_none old new (Ok x) was keeps is_open = was
opens_none old new (Err e) was keeps is_open = keeps.was_open is_open

pub keeps_reads : {S T : Type 0} {g : Ghosts S} {IsAnswer : Stored → T → Type 0} (settles : Settles g) (old new : Store S g) (r : Result T StoreError) → has_failed old ≡ false → ((r ≡ Err Disk) ↔ IsTrue (has_failed new)) → Reads old.db new.db r IsAnswer
    → KeepsStore old new r
keeps_reads settles old new r unfailed failed_now reads = keeps_store settles old new r unfailed failed_now _ reads.may.rests.survives reads.was_open (λ clean. (reads.may.rests.commit_stays clean).was_open)

pub reads_store : {S T : Type 0} {g : Ghosts S} {IsAnswer : Stored → T → Type 0} {r : Result T StoreError} (settles : Settles g) {old new : Store S g} → has_failed old ≡ false → ((r ≡ Err Disk) ↔ IsTrue (has_failed new)) → Reads old.db new.db r IsAnswer → ReadsStore old new r IsAnswer
reads_store {r = r} settles {old} {new} unfailed failed_now reads = record {
  frame = keeps_reads settles old new r unfailed failed_now reads;
  tells = tells_stored reads;
}

pub reads_failed : {S T : Type 0} {g : Ghosts S} {IsAnswer : Stored → T → Type 0} (settles : Settles g) (s : Store S g) → IsTrue (has_failed s) → ReadsStore s s (Err Disk) IsAnswer
reads_failed settles s failed = record {
  frame = keeps_if_failed settles s s (Err Disk) failed refl refl;
  tells = λ clean. record { answers = λ was over unfailed. absurd (both_ways _ unfailed failed); same = λ was over. over; crash = λ db it. it };
}
