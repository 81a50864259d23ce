-- One read of the stored state, and several in sequence.
use Rattle.std.proofs.Common.{◌≡◌, inl, inr, Ok, Err, Result, IsTrue, refl, sym, subst, ◌∙◌, arith}
use Rattle.std.specs.Prelude.{OnOk, OnErr, IfOk, IfErr, IsErrAnd, MatchResult}
use Rattle.sqlite.specs.Held.{Held, state}
use Rattle.sqlite.specs.State.{State, HasCleanDisk}
use Rattle.sqlite.specs.declared.error.Error.{Error}
use Rattle.sqlite_trees.specs.declared.store.Store.{Ghosts}
use Rattle.sqlite.specs.Schema.{Schema}
use Rattle.reg_tables.specs.Layout.{HasEightTables}
use Rattle.reg_tables.specs.Frames.{ReadsInAutocommit}
use Rattle.reg_tables.specs.Reads.{CanBeRead, CanBeReadIn}
use Rattle.reg_tables.specs.FailedCalls.{IsFault}
use Rattle.reg_tables.proofs.Tables.{eight_has_five}
use Rattle.reg_tables.proofs.Transactions.{keeps_then, survives_both}
use Rattle.reg_store.specs.declared.error.StoreError.{StoreError}
use Rattle.reg_store.specs.declared.error.StoreError.TheVariants.{Memory}
use Rattle.reg_store.specs.declared.conn.Conn.{Conn}
use Rattle.reg_core.specs.Stored.{Stored}
use Rattle.reg_store.specs.Spells.{IsOpenOver, SpellsWhileOpen}
use Rattle.reg_store.specs.Failures.{failure_of, IsFaultBy, HasDiskCause}
use Rattle.reg_store.specs.Inside.Reads.{shown, CommitsNothing, MayRead, Reads}
use Rattle.reg_store.specs.Stores.{AnswersFromStored}
use Rattle.reg_store.proofs.Failing.{by_since, fault_by, disk_cause_since}
use Rattle.reg_store.proofs.LayoutTwoChecks.{can_read_all_tables}
use Rattle.reg_store.proofs.Committing.{still_spells}

-- ---- results

pub on_ok_each : {X E P : Type 0} (r : Result X E) → P → OnOk r P
on_ok_each (Ok x) h = h
on_ok_each (Err e) h = tt

pub passed_on : {X : Type 0} (P : X → Type 0) (Q : StoreError → Type 0) (r : Result X StoreError) (e : StoreError) → IsErrAnd r (λ failure. failure ≡ e) → Q e → MatchResult r P Q
passed_on P Q (Ok x) e is h = absurd is
passed_on P Q (Err failure) e is h = subst Q (sym is) h

pub by_memory : (a b : State) (e : StoreError) → e ≡ Memory → IsFaultBy a b e
by_memory a b e is = subst (IsFaultBy a b) (sym is) tt

pub none_ok : {X : Type 0} (P : Type 0) (r : Result X StoreError) (e : StoreError) → IsErrAnd r (λ failure. failure ≡ e) → OnOk r P
none_ok P (Ok x) e is = absurd is
none_ok P (Err failure) e is = tt

pub match_each : {X E : Type 0} {P P' : X → Type 0} {Q Q' : E → Type 0} (r : Result X E) → ((x : X) → P x → P' x) → ((e : E) → Q e → Q' e) → MatchResult r P Q → MatchResult r P' Q'
match_each (Ok x) f k h = f x h
match_each (Err e) f k h = k e h

pub match_of : {X E : Type 0} {P P' : X → Type 0} {Q Q' : E → Type 0} (r : Result X E) → ((x : X) → P x → P' x) → ((e : E) → Q e → Q' e) → IfOk r P → IfErr r Q → MatchResult r P' Q'
match_of (Ok x) f k p q = f x p
match_of (Err e) f k p q = k e q

pub match_on : {X E Q : Type 0} {P P' : X → Type 0} {Q' : E → Type 0} (r : Result X E) → ((x : X) → P x → P' x) → (Q → (e : E) → Q' e) → IfOk r P → OnErr r Q → MatchResult r P' Q'
match_on (Ok x) f k p q = f x p
match_on (Err e) f k p q = k q e

-- ---- the kept commit

pub rests_still : (s : State) → CommitsNothing s s
rests_still s = record {
  commit_stays = λ _. record { was_open = λ h. h; committed = λ _. refl };
  settled = λ _ _ h. h;
  survives = record { clean = omega arith; shield = λ h. h; counts = omega arith; limit = refl; closes = λ _ h. inl h; crash = λ _ db h. inl h };
}

pub rests_read : {S X E : Type 0} (g : Ghosts S) (a b : Held S) (r : Result X E) → ReadsInAutocommit g a b r → CommitsNothing (state g a) (state g b)
rests_read g a b r frame = record {
  commit_stays = λ clean. (frame.only_reads clean).commit_stays;
  settled = λ clean is_open _. (frame.only_reads clean).settled is_open;
  survives = frame.survives;
}

module _ (a b c : State) where
  pub clean_at : CommitsNothing b c → HasCleanDisk c → HasCleanDisk b
  clean_at q clean = omega (arith, q.survives.clean)

  pub rests_on : CommitsNothing a b → CommitsNothing b c → CommitsNothing a c
  rests_on p q = record {
    commit_stays = λ clean. keeps_then a b c (p.commit_stays (clean_at q clean)) (q.commit_stays clean);
    settled = λ clean is_open h. q.settled clean is_open (p.settled (clean_at q clean) ((q.commit_stays clean).was_open is_open) h);
    survives = survives_both a b c p.survives q.survives;
  }

  -- a later read's fault is a fault of the sequence
  pub fault_of_all : CommitsNothing a b → CommitsNothing b c → HasCleanDisk c → (e : StoreError) → IsFaultBy b c e → IsFaultBy a c e
  fault_of_all p q clean = by_since a b c (p.survives.closes (clean_at q clean)) p.survives.counts q.survives.counts

  pub disk_cause_of_all : CommitsNothing a b → CommitsNothing b c → HasCleanDisk c → (e : StoreError) → HasDiskCause b c e → HasDiskCause a c e
  disk_cause_of_all p q clean = disk_cause_since a b c (p.survives.closes (clean_at q clean)) p.survives.counts q.survives.counts

pub spell_on : (a b : State) → CommitsNothing a b → HasCleanDisk b → (was : Stored) → SpellsWhileOpen a was → SpellsWhileOpen b was
spell_on a b p clean was over is_open =
    let keeps = p.commit_stays clean in
    still_spells a b was keeps (λ _. p.settled clean is_open (sym (over (keeps.was_open is_open)).settled)) over is_open

module _ (a b : State) (p : CommitsNothing a b) (settled : IsTrue a.is_open → a.now ≡ a.committed) (clean : HasCleanDisk b) where
  pub same_db : IsTrue b.is_open → b.now ≡ a.now
  same_db is_open =
      let commit = p.commit_stays clean in
      let was = settled (commit.was_open is_open) in
      p.settled clean is_open was ∙ commit.committed is_open ∙ sym was

-- ---- reads

module _ {S : Type 0} {g : Ghosts S} where
  pub unread : {X : Type 0} {IsAnswer : Stored → X → Type 0} {x : X} (db : Conn S g) → ((was : Stored) → IsAnswer was x) → MayRead db db (Ok x) IsAnswer
  unread db tells = record { rests = rests_still (shown db); answers = λ clean was over. tells was }

  module _ {X : Type 0} {IsAnswer : Stored → X → Type 0} {old new : Conn S g} {r : Result X StoreError} where
    -- reading a table succeeded
    pub read : {Y : Type 0} {y : Y} → ReadsInAutocommit {E = Error} g old.idle.conn new.idle.conn (Ok y)
        → (HasCleanDisk (shown new) → (was : Stored) → IsOpenOver (shown old) was → MatchResult r (IsAnswer was) (IsFaultBy (shown old) (shown new))) → Reads old new r IsAnswer
    read {y = y} frame answers = record {
      may = record { rests = rests_read g old.idle.conn new.idle.conn (Ok y) frame; answers = λ clean was over. answers clean was (over (frame.was_open clean)) };
      was_open = λ clean. on_ok_each r (frame.was_open clean);
    }

    -- it succeeded, and then allocation failed
    pub read_out_of_memory : {Y : Type 0} {y : Y} → ReadsInAutocommit {E = Error} g old.idle.conn new.idle.conn (Ok y) → IsErrAnd r (λ failure. failure ≡ Memory) → Reads old new r IsAnswer
    read_out_of_memory frame is = read frame (λ clean was over. passed_on (IsAnswer was) (IsFaultBy (shown old) (shown new)) r Memory is tt)

    -- reading a table of these schemas failed
    pub not_read_in : {IsAllowed : Schema → Type 0} → ((schema : Schema) → HasEightTables schema → IsAllowed schema) → {Y : Type 0} {e : Error} → ReadsInAutocommit {X = Y} g old.idle.conn new.idle.conn (Err e)
        → (HasCleanDisk (shown new) → CanBeReadIn IsAllowed (shown old) → IsFault (shown old) (shown new) e) → IsErrAnd r (λ failure. failure ≡ failure_of e) → Reads old new r IsAnswer
    not_read_in has {e = e} frame fault is = record {
      may = record {
        rests = rests_read g old.idle.conn new.idle.conn (Err e) frame;
        answers = λ clean was over. passed_on (IsAnswer was) (IsFaultBy (shown old) (shown new)) r (failure_of e) is (fault_by (shown old) (shown new) e old.unlimited (fault clean (λ is_open.
            let it = can_read_all_tables (shown old) was over is_open in
            record { schema = it.schema; known = has it.schema it.known; contents = it.contents; holds = it.holds; readable = it.readable })));
      };
      was_open = λ clean. none_ok (IsTrue (shown old).is_open) r (failure_of e) is;
    }

    -- reading one of the five tables failed
    pub not_read : {Y : Type 0} {e : Error} → ReadsInAutocommit {X = Y} g old.idle.conn new.idle.conn (Err e) → (HasCleanDisk (shown new) → CanBeRead (shown old) → IsFault (shown old) (shown new) e)
        → IsErrAnd r (λ failure. failure ≡ failure_of e) → Reads old new r IsAnswer
    not_read frame fault is = not_read_in eight_has_five frame fault is

  -- ---- the result after a read

  module _ {X Y : Type 0} {P : Stored → X → Type 0} {Q : Stored → Y → Type 0} {a b : Conn S g} {r : Result Y StoreError} where
    pub may_tell : {p : Result X StoreError} → MayRead a b p P → ((was : Stored) → MatchResult p (P was) (IsFaultBy (shown a) (shown b)) → MatchResult r (Q was) (IsFaultBy (shown a) (shown b))) → MayRead a b r Q
    may_tell one made = record { rests = one.rests; answers = λ clean was over. made was (one.answers clean was over) }

    -- the read succeeded
    pub tell : {x : X} → Reads a b (Ok x) P → ((was : Stored) → IsOpenOver (shown a) was → P was x → MatchResult r (Q was) (IsFaultBy (shown a) (shown b))) → Reads a b r Q
    tell one made = record {
      may = record { rests = one.may.rests; answers = λ clean was over. made was (over (one.was_open clean)) (one.may.answers clean was over) };
      was_open = λ clean. on_ok_each r (one.was_open clean);
    }

    -- the read failed
    pub may_fail : {e : StoreError} → MayRead a b (Err e) P → IsErrAnd r (λ failure. failure ≡ e) → MayRead a b r Q
    may_fail {e} one is = record { rests = one.rests; answers = λ clean was over. passed_on (Q was) (IsFaultBy (shown a) (shown b)) r e is (one.answers clean was over) }

    pub fail : {e : StoreError} → Reads a b (Err e) P → IsErrAnd r (λ failure. failure ≡ e) → Reads a b r Q
    fail {e} one is = record { may = may_fail one.may is; was_open = λ clean. none_ok (IsTrue (shown a).is_open) r e is }

    -- allocation failed after the read
    pub refuse : {x : X} → Reads a b (Ok x) P → IsErrAnd r (λ failure. failure ≡ Memory) → Reads a b r Q
    refuse one is = tell one (λ was over p. passed_on (Q was) (IsFaultBy (shown a) (shown b)) r Memory is tt)

  -- the same result has another meaning
  module _ {X : Type 0} {P Q : Stored → X → Type 0} {a b : Conn S g} {r : Result X StoreError} where
    pub may_retell : MayRead a b r P → ((was : Stored) (x : X) → P was x → Q was x) → MayRead a b r Q
    may_retell one made = may_tell one (λ was. match_each r (made was) (λ e h. h))

    pub retell : Reads a b r P → ((was : Stored) → IsOpenOver (shown a) was → (x : X) → P was x → Q was x) → Reads a b r Q
    retell one made = record { may = record { rests = one.may.rests; answers = λ clean was over. both r clean was over one.was_open (one.may.answers clean was over) }; was_open = one.was_open }
      where
        both : (r : Result X StoreError) → HasCleanDisk (shown b) → (was : Stored) → SpellsWhileOpen (shown a) was → (HasCleanDisk (shown b) → OnOk r (IsTrue (shown a).is_open)) → MatchResult r (P was) (IsFaultBy (shown a) (shown b)) → MatchResult r (Q was) (IsFaultBy (shown a) (shown b))
        both (Ok x) clean was over is_open h = made was (over (is_open clean)) x h
        both (Err e) clean was over is_open h = h

  -- ---- in sequence

  module _ {X Y Z : Type 0} {P : Stored → X → Type 0} {Q : Stored → Y → Type 0} {R : Stored → Z → Type 0} {a b c : Conn S g} {x : X} {r : Result Z StoreError} where
    pub may_go_on : {q : Result Y StoreError} → MayRead a b (Ok x) P → MayRead b c q Q
        → ((was : Stored) → SpellsWhileOpen (shown a) was → P was x → MatchResult q (Q was) (IsFaultBy (shown a) (shown c)) → MatchResult r (R was) (IsFaultBy (shown a) (shown c))) → MayRead a c r R
    may_go_on {q} one two made = record {
      rests = rests_on (shown a) (shown b) (shown c) one.rests two.rests;
      answers = λ clean was over.
          (let early = clean_at (shown a) (shown b) (shown c) two.rests clean in
          made was over (one.answers early was over)
          (match_each q (λ y h. h) (fault_of_all (shown a) (shown b) (shown c) one.rests two.rests clean) (two.answers clean was (spell_on (shown a) (shown b) one.rests early was over))));
    }

    pub may_stop : {e : StoreError} → MayRead a b (Ok x) P → MayRead b c (Err e) Q → IsErrAnd r (λ failure. failure ≡ e) → MayRead a c r R
    may_stop {e} one two is = may_go_on one two (λ was over p q. passed_on (R was) (IsFaultBy (shown a) (shown c)) r e is q)

    surely : {q : Result Y StoreError} → Reads a b (Ok x) P → MayRead b c q Q → MayRead a c r R → Reads a c r R
    surely one two all = record { may = all; was_open = λ clean. on_ok_each r (one.was_open (clean_at (shown a) (shown b) (shown c) two.rests clean)) }

    pub go_on : {q : Result Y StoreError} → Reads a b (Ok x) P → MayRead b c q Q
        → ((was : Stored) → SpellsWhileOpen (shown a) was → P was x → MatchResult q (Q was) (IsFaultBy (shown a) (shown c)) → MatchResult r (R was) (IsFaultBy (shown a) (shown c))) → Reads a c r R
    go_on one two made = surely one two (may_go_on one.may two made)

    pub stop : {e : StoreError} → Reads a b (Ok x) P → MayRead b c (Err e) Q → IsErrAnd r (λ failure. failure ≡ e) → Reads a c r R
    stop one two is = surely one two (may_stop one.may two is)

  -- if the second call surely reads, the connection was open before the first
  pub opened_by : {X Y : Type 0} {P : Stored → X → Type 0} {Q : Stored → Y → Type 0} {a b c : Conn S g} {x : X} {y : Y} → MayRead a b (Ok x) P → Reads b c (Ok y) Q → HasCleanDisk (shown c) → IsTrue (shown a).is_open
  opened_by {a} {b} {c} one two clean = (one.rests.commit_stays (clean_at (shown a) (shown b) (shown c) two.may.rests clean)).was_open (two.was_open clean)

  module _ {X Y Z : Type 0} {P : Stored → X → Type 0} {Q : Stored → Y → Type 0} {R : Stored → Z → Type 0} {a b c : Conn S g} {x : X} {r : Result Z StoreError} where
    pub read_later : {y : Y} → MayRead a b (Ok x) P → Reads b c (Ok y) Q
        → ((was : Stored) → IsOpenOver (shown a) was → P was x → Q was y → MatchResult r (R was) (IsFaultBy (shown a) (shown c))) → Reads a c r R
    read_later one two made = record {
      may = record {
        rests = rests_on (shown a) (shown b) (shown c) one.rests two.may.rests;
        answers = λ clean was over.
            (let early = clean_at (shown a) (shown b) (shown c) two.may.rests clean in
            made was (over (opened_by one two clean)) (one.answers early was over) (two.may.answers clean was (spell_on (shown a) (shown b) one.rests early was over)));
      };
      was_open = λ clean. on_ok_each r (opened_by one two clean);
    }

    pub fail_later : {e : StoreError} → MayRead a b (Ok x) P → MayRead b c (Err e) Q → IsErrAnd r (λ failure. failure ≡ e) → Reads a c r R
    fail_later {e} one two is = record { may = may_stop one two is; was_open = λ clean. none_ok (IsTrue (shown a).is_open) r e is }

  module _ {X Y : Type 0} {P : Stored → X → Type 0} {Q : Stored → Y → Type 0} {a b c : Conn S g} {x : X} {y : Y} where
    pub may_both : MayRead a b (Ok x) P → MayRead b c (Ok y) Q → MayRead {X = X × Y} a c (Ok (x, y)) (λ was found. P was found.0 × Q was found.1)
    may_both one two = may_go_on one two (λ was over p q. (p, q))

    pub both : Reads a b (Ok x) P → MayRead b c (Ok y) Q → Reads {X = X × Y} a c (Ok (x, y)) (λ was found. P was found.0 × Q was found.1)
    both one two = go_on one two (λ was over p q. (p, q))

  -- ---- the caller's view

  pub tells_stored : {X WasUsable : Type 0} {IsAnswer : Stored → X → Type 0} {a b : Conn S g} {r : Result X StoreError} → Reads a b r IsAnswer → HasCleanDisk (shown b) → AnswersFromStored (shown a) (shown b) WasUsable r IsAnswer
  tells_stored {a} {b} {r = r} reads clean = record {
    answers = λ was over. match_each r (λ x told. told) (λ e fault _. fault) (reads.may.answers clean was over);
    same = spell_on (shown a) (shown b) reads.may.rests clean;
    crash = λ db it. elim (reads.may.rests.survives.crash clean db it) [ inl was ↦ was | inr none ↦ absurd none ];
  }
