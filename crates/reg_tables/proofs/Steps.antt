-- Sequences of calls inside a transaction, and CREATE TABLE.
use Rattle.std.proofs.Common.{◌≡◌, ◌≤◌, ◌⊎◌, inl, ℕ, List, [], Ok, Err, Result, IsTrue, true, ◌∙◌, arith}
use Rattle.reg_tables.proofs.Kit.{OnOk, IfErr, IsErrAnd, Table, Schema, State, HasCleanDisk, Survives, ExecutesInside, Database, Error, Transaction, Ghosts}
use Rattle.reg_tables.specs.Layout.{empty_schema}
use Rattle.reg_tables.specs.Contents.{Contents, HoldsContents}
use Rattle.reg_tables.specs.Changes.{no_contents}
use Rattle.reg_tables.specs.Frames.{state_in, RunsInTransaction}
use Rattle.reg_tables.specs.FailedCalls.{IsWriteFault}
use Rattle.reg_tables.specs.Writing.{ForHeldContents, AppliesChange, Transforms, IsEmpty, Holding}
use Rattle.reg_tables.proofs.Statements.{MakesTable}
use Rattle.reg_tables.proofs.MadeTables.{makes, holds_more, holds_nothing}
use Rattle.reg_tables.proofs.CreationFaults.{CanBeMade, make_fails}
use Rattle.reg_tables.proofs.Transactions.{keeps_then, survives_both, on_ok, if_err, if_err_is}
use Rattle.reg_tables.proofs.WriteFaults.{OrTooLate, as_write_fault}

-- a later failure of this kind is also one since the start, because the transaction continues
abbrev pub IsCarried : (State → State → Error → Type 0) → Type 1
IsCarried IsFailure = (first later new : State) → Survives first later (λ _. ⊥) → HasCleanDisk later → later.faults ≤ new.faults → later.in_transaction ≡ true → (e : Error) → IsFailure later new e → IsFailure first new e

early : (b c : State) → Survives b c (λ _. ⊥) → HasCleanDisk c → HasCleanDisk b
early b c survives clean = omega (arith, survives.clean)

none : {X : Type 0} (Q : Type 0) (e : Error) (r : Result X Error) → IsErrAnd r (λ failure. failure ≡ e) → OnOk r Q
none Q e (Ok x) is = absurd is
none Q e (Err failure) is = tt

module _ {S X Y : Type 0} {g : Ghosts S} {a b c : Transaction S} where
  stays_then : {x : X} {r : Result Y Error} → RunsInTransaction g a b (Ok x) → RunsInTransaction g b c r → RunsInTransaction g a c r
  stays_then {r = r} p q =
      let soon = early (state_in g b) (state_in g c) q.keeps.survives in
      record {
        keeps = record {
          same_reference = q.keeps.same_reference ∙ p.keeps.same_reference;
          commit_stays = λ clean. keeps_then (state_in g a) (state_in g b) (state_in g c) (p.keeps.commit_stays (soon clean)) (q.keeps.commit_stays clean);
          survives = survives_both (state_in g a) (state_in g b) (state_in g c) p.keeps.survives q.keeps.survives;
        };
        shut = λ clean. if_err r (λ e failed. inl (p.was_open (soon clean))) (q.shut clean);
        was_open = λ clean. on_ok r (λ is_open. p.was_open (soon clean)) (q.was_open clean);
        inside = q.inside;
      }

module _ {S X Y : Type 0} {g : Ghosts S} {a b : Transaction S} where
  stays_failed : {e : Error} {r : Result Y Error} → RunsInTransaction {X = X} g a b (Err e) → IsErrAnd r (λ failure. failure ≡ e) → RunsInTransaction g a b r
  stays_failed {e} {r} p is = record {
    keeps = p.keeps;
    shut = λ clean. if_err_is r (λ failure. IsTrue (state_in g a).is_open ⊎ IsWriteFault (state_in g a) (state_in g b) failure) e is (p.shut clean);
    was_open = λ clean. none _ e r is;
    inside = λ clean. none _ e r is;
  }

module _ {IsFailure : State → State → Error → Type 0} {S X Y I : Type 0} {g : Ghosts S} {a b c : Transaction S} {From Mid To : I → Database → Type 0} where
  pub turns_then : IsCarried IsFailure → {x : X} {r : Result Y Error} → Transforms IsFailure g a b (Ok x) From Mid → Transforms IsFailure g b c r Mid To → Transforms IsFailure g a c r From To
  turns_then carried {r = r} p q =
      let soon = early (state_in g b) (state_in g c) q.frame.keeps.survives in
      record {
        frame = stays_then p.frame q.frame;
        made = λ clean. on_ok r (λ to about from. to about (p.made (soon clean) about from)) (q.made clean);
        fault = λ clean. if_err r
            (λ e failed about from. carried (state_in g a) (state_in g b) (state_in g c) p.frame.keeps.survives (soon clean) q.frame.keeps.survives.counts (p.frame.inside (soon clean)) e (failed about (p.made (soon clean) about from)))
            (q.fault clean);
      }

-- `?` returns the error
module _ {IsFailure : State → State → Error → Type 0} {S X Y I : Type 0} {g : Ghosts S} {a b : Transaction S} {From Mid To : I → Database → Type 0} where
  pub turns_failed : {e : Error} {r : Result Y Error} → Transforms {X = X} IsFailure g a b (Err e) From Mid → IsErrAnd r (λ failure. failure ≡ e) → Transforms IsFailure g a b r From To
  turns_failed {e} {r} p is = record {
    frame = stays_failed p.frame is;
    made = λ clean. none _ e r is;
    fault = λ clean. if_err_is r (λ failure. (about : I) → From about (state_in g a).now → IsFailure (state_in g a) (state_in g b) failure) e is (p.fault clean);
  }

module _ {IsFailure : State → State → Error → Type 0} {S X I : Type 0} {g : Ghosts S} {a b : Transaction S} {r : Result X Error} {From To : I → Database → Type 0} where
  pub turns_from : {J : Type 0} {Before : J → Database → Type 0} (about : J → I) → ((j : J) (db : Database) → Before j db → From (about j) db) → Transforms IsFailure g a b r From To → Transforms IsFailure g a b r Before (λ j. To (about j))
  turns_from about from p = record {
    frame = p.frame;
    made = λ clean. on_ok r (λ made j before. made (about j) (from j (state_in g a).now before)) (p.made clean);
    fault = λ clean. if_err r (λ e failed j before. failed (about j) (from j (state_in g a).now before)) (p.fault clean);
  }

  pub turns_to : {After : I → Database → Type 0} → ((about : I) (db : Database) → To about db → After about db) → Transforms IsFailure g a b r From To → Transforms IsFailure g a b r From After
  turns_to to p = record { frame = p.frame; made = λ clean. on_ok r (λ made about from. to about (state_in g b).now (made about from)) (p.made clean); fault = p.fault }

  pub turns_or : {IsOther : State → State → Error → Type 0} → ((e : Error) → IsFailure (state_in g a) (state_in g b) e → IsOther (state_in g a) (state_in g b) e) → Transforms IsFailure g a b r From To → Transforms IsOther g a b r From To
  turns_or other p = record { frame = p.frame; made = p.made; fault = λ clean. if_err r (λ e failed about from. other e (failed about from)) (p.fault clean) }

-- ---- changes of the contents

module _ {IsFailure : State → State → Error → Type 0} {S X Y : Type 0} {g : Ghosts S} {a b c : Transaction S} {one two : Contents → Contents} where
  pub alters_then : IsCarried IsFailure → {x : X} {r : Result Y Error} → AppliesChange IsFailure g a b (Ok x) one → AppliesChange IsFailure g b c r two → AppliesChange IsFailure g a c r (λ contents. two (one contents))
  alters_then carried {r = r} p q =
      let soon = early (state_in g b) (state_in g c) q.frame.keeps.survives in
      record {
        frame = stays_then p.frame q.frame;
        changed = λ clean. on_ok r (λ changed schema written contents holds. changed schema written (one contents) (p.changed (soon clean) schema written contents holds)) (q.changed clean);
        fault = λ clean. if_err r
            (λ e failed schema written contents holds.
            carried (state_in g a) (state_in g b) (state_in g c) p.frame.keeps.survives (soon clean) q.frame.keeps.survives.counts (p.frame.inside (soon clean)) e (failed schema written (one contents) (p.changed (soon clean) schema written contents holds)))
            (q.fault clean);
      }

module _ {IsFailure : State → State → Error → Type 0} {S X Y : Type 0} {g : Ghosts S} {a b : Transaction S} {one two : Contents → Contents} where
  pub alters_failed : {e : Error} {r : Result Y Error} → AppliesChange {X = X} IsFailure g a b (Err e) one → IsErrAnd r (λ failure. failure ≡ e) → AppliesChange IsFailure g a b r two
  alters_failed {e} {r} p is = record {
    frame = stays_failed p.frame is;
    changed = λ clean. none _ e r is;
    fault = λ clean. if_err_is r (λ failure. ForHeldContents (state_in g a) (λ contents. IsFailure (state_in g a) (state_in g b) failure)) e is (p.fault clean);
  }

-- ---- CREATE TABLE

module _ {S X : Type 0} {g : Ghosts S} {a b : Transaction S} {r : Result X Error} {sql : List ℕ} {before : Schema} {table : Table} {after : Schema} (m : MakesTable sql before table after) (can : CanBeMade sql before table) (frame : RunsInTransaction g a b r)
    (runs : HasCleanDisk (state_in g b) → OnOk r ((count : ℕ) × ExecutesInside 0 sql [] (state_in g a) (state_in g b) (Ok count)))
    (failed : HasCleanDisk (state_in g b) → IfErr r (λ e. OrTooLate (state_in g a) e (ExecutesInside 0 sql [] (state_in g a) (state_in g b) (Err e)))) where
  pub makes_table : Transforms IsWriteFault g a b r (Holding before) (Holding after)
  makes_table = record {
    frame = frame;
    made = λ clean. on_ok r (λ ran contents holds. makes sql before table after m (state_in g a) (state_in g b) ran.0 contents holds ran.1.0) (runs clean);
    fault = λ clean. if_err r (λ e why contents holds. as_write_fault (state_in g a) (state_in g b) e (make_fails sql before table after m can (state_in g a) (state_in g b) holds.declared e) why) (failed clean);
  }

-- in a database without tables
module _ {S X : Type 0} {g : Ghosts S} {a b : Transaction S} {r : Result X Error} {sql : List ℕ} {table : Table} {after : Schema} (m : MakesTable sql empty_schema table after) (can : CanBeMade sql empty_schema table) (frame : RunsInTransaction g a b r)
    (runs : HasCleanDisk (state_in g b) → OnOk r ((count : ℕ) × ExecutesInside 0 sql [] (state_in g a) (state_in g b) (Ok count)))
    (failed : HasCleanDisk (state_in g b) → IfErr r (λ e. OrTooLate (state_in g a) e (ExecutesInside 0 sql [] (state_in g a) (state_in g b) (Err e)))) where
  pub makes_first : Transforms IsWriteFault g a b r IsEmpty (λ _ db. HoldsContents after db no_contents)
  makes_first = record {
    frame = frame;
    made = λ clean. on_ok r (λ ran about none. holds_more sql empty_schema table after m (state_in g a) (state_in g b) ran.0 no_contents (holds_nothing (state_in g a).now.trees) none ran.1.0) (runs clean);
    fault = λ clean. if_err r (λ e why about none. as_write_fault (state_in g a) (state_in g b) e (make_fails sql empty_schema table after m can (state_in g a) (state_in g b) none e) why) (failed clean);
  }
