-- Several statements in one transaction, and a query in a transaction of its own.
use Rattle.std.proofs.Common.{◌≡◌, ◌⊎◌, inl, inr, ℕ, List, Option, Some, None, Ok, Err, Result, sym, subst, ap, ◌∙◌}
use Rattle.reg_tables.proofs.Kit.{IfOk, IfErr, IsErrAnd, OnOk, Vec, IsTrue, true, if◌then◌else◌, Global, Row, Held, timed, Error, State, Survives, KeepsCommit, IsUnchanged, IsRolledBack, ShowsRows, FailsToShow, IsTooLate, survives_then, Returning, Ghosts}
use Rattle.sqlite.specs.Held.{state}
use Rattle.sqlite.specs.State.{Shown, FailsToQuery, IsNotRun}
use Rattle.reg_tables.specs.Frames.{ReadsInAutocommit}

pub keeps_then : (a b c : State) → KeepsCommit a b → KeepsCommit b c → KeepsCommit a c
keeps_then a b c p q = record { was_open = λ h. p.was_open (q.was_open h); committed = λ h. q.committed h ∙ p.committed (q.was_open h) }

pub survives_both : (a b c : State) → Survives a b (λ _. ⊥) → Survives b c (λ _. ⊥) → Survives a c (λ _. ⊥)
survives_both a b c p q = survives_then a b c (λ _. ⊥) (λ _. ⊥) (λ _. ⊥) (λ clean db h. h) (λ clean db h. h) p q

pub keeps_if_unchanged : (a b : State) → IsUnchanged a b → KeepsCommit a b
keeps_if_unchanged a b h = record { was_open = λ _. h.0.was_open; committed = λ _. h.0.committed_is }

pub keeps_if_undone : (a b : State) → IsRolledBack a b → KeepsCommit a b
keeps_if_undone a b h = record { was_open = h.was_open; committed = λ shown. (h.undone shown).1 }

-- ---- a query commits nothing

shown_keeps : (sql : List ℕ) (params : Row) (old new : State) (rows : List Row) → old.in_transaction ≡ true → Shown sql params old new rows → KeepsCommit old new
unfolding Shown
shown_keeps sql params old new rows inside h = go h.0.returning h.2
  where
    go : (o : Option Returning) → ShowsRows old new sql h.0 (timed params h.0.formats h.1.now) rows o → KeepsCommit old new
    go None s = keeps_if_unchanged old new s.3
    go (Some what) s = record { was_open = λ _. s.1.shown.was_open; committed = λ _. s.1.shown.committed_is ∙ ap (λ b. if b then old.committed else new.now) inside }

unshown_keeps : (sql : List ℕ) (params : Row) (old new : State) (e : Error) → FailsToQuery sql params old new e → KeepsCommit old new
unfolding FailsToQuery IsNotRun
unshown_keeps sql params old new e (inl (inl h)) = keeps_if_unchanged old new h.1
unshown_keeps sql params old new e (inl (inr h)) = keeps_if_undone old new h.3
unshown_keeps sql params old new e (inr h) = go h.0.returning h.2
  where
    go : (o : Option Returning) → FailsToShow old new sql h.0 (timed params h.0.formats h.1.now) e o → KeepsCommit old new
    go None s = keeps_if_unchanged old new s.3
    go (Some what) (inl s) = keeps_if_unchanged old new s.1
    go (Some what) (inr s) = keeps_if_undone old new s.3

pub asked_keeps : (sql : List ℕ) (params : Row) (old new : State) (r : Result (Vec Row Global) Error) → old.in_transaction ≡ true → IfOk r (λ rows. Shown sql params old new rows.items)
    → IfErr r (λ e. FailsToQuery sql params old new e ⊎ IsTooLate sql params old new e) → KeepsCommit old new
asked_keeps sql params old new (Ok rows) inside ok err = shown_keeps sql params old new rows.items inside ok
asked_keeps sql params old new (Err e) inside ok (inl fails) = unshown_keeps sql params old new e fails
asked_keeps sql params old new (Err e) inside ok (inr late) = keeps_if_unchanged old new late.5

-- rows are returned only by an open connection
pub shown_open : (sql : List ℕ) (params : Row) (old new : State) (rows : List Row) → Shown sql params old new rows → IsTrue old.is_open
unfolding Shown
shown_open sql params old new rows h = go h.0.returning h.2
  where
    go : (o : Option Returning) → ShowsRows old new sql h.0 (timed params h.0.formats h.1.now) rows o → IsTrue old.is_open
    go None s = s.3.0.was_open
    go (Some what) s = s.1.shown.was_open

-- ---- results

pub on_ok : {X E P Q : Type 0} (r : Result X E) → (P → Q) → OnOk r P → OnOk r Q
on_ok (Ok x) f h = f h
on_ok (Err e) f h = h

pub on_both : {X E P Q R : Type 0} (r : Result X E) → (P → Q → R) → OnOk r P → OnOk r Q → OnOk r R
on_both (Ok x) f p q = f p q
on_both (Err e) f p q = tt

pub if_ok : {X E : Type 0} {P Q : X → Type 0} (r : Result X E) → ((x : X) → P x → Q x) → IfOk r P → IfOk r Q
if_ok (Ok x) f h = f x h
if_ok (Err e) f h = tt

pub on_if_ok : {X E : Type 0} {P : X → Type 0} {Q : Type 0} (r : Result X E) → ((x : X) → P x → Q) → IfOk r P → OnOk r Q
on_if_ok (Ok x) f h = f x h
on_if_ok (Err e) f h = tt

pub if_err : {X E : Type 0} {P Q : E → Type 0} (r : Result X E) → ((e : E) → P e → Q e) → IfErr r P → IfErr r Q
if_err (Ok x) f h = tt
if_err (Err e) f h = f e h

-- an error that `?` returns
pub if_err_is : {X E : Type 0} (r : Result X E) (P : E → Type 0) (first : E) → IsErrAnd r (λ e. e ≡ first) → P first → IfErr r P
if_err_is (Ok x) P first is h = tt
if_err_is (Err e) P first is h = subst P (sym is) h

-- ---- the state after a read

module _ {S X Y E F : Type 0} (g : Ghosts S) (a b : Held S) where
  pub stays_read : {x : X} (r : Result Y F) → ReadsInAutocommit {E = E} g a b (Ok x) → ReadsInAutocommit g a b r
  stays_read {x} r frame = record { was_open = λ clean. each r (frame.was_open clean); only_reads = frame.only_reads; survives = frame.survives }
    where
      each : (r : Result Y F) → IsTrue (state g a).is_open → OnOk r (IsTrue (state g a).is_open)
      each (Ok y) h = h
      each (Err e) h = tt

  pub stays_unread : {e : E} (r : Result Y F) (first : F) → ReadsInAutocommit {X = X} g a b (Err e) → IsErrAnd r (λ failure. failure ≡ first) → ReadsInAutocommit g a b r
  stays_unread {e} r first frame is = record { was_open = λ clean. none r is; only_reads = frame.only_reads; survives = frame.survives }
    where
      none : (r : Result Y F) → IsErrAnd r (λ failure. failure ≡ first) → OnOk r (IsTrue (state g a).is_open)
      none (Ok y) is = absurd is
      none (Err e) is = tt
