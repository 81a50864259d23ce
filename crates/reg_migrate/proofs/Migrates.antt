-- A migration of tables that passed the test.
use Rattle.std.proofs.Common.{◌≡◌, ◌⊎◌, ◌∙◌, ◌≤◌, ℕ, None, Ok, Err, Result, inl, inr, sym, ap, subst, arith, IsTrue}
use Rattle.std.specs.Prelude.{IfOk, OnOk}
use Rattle.sqlite_disk.specs.Disk.{MoreFaults}
use Rattle.sqlite.specs.Tree.{Trees}
use Rattle.sqlite.specs.Effect.{Database}
use Rattle.sqlite.specs.Held.{Held, state}
use Rattle.sqlite.specs.State.{State}
use Rattle.sqlite_trees.specs.declared.store.Store.{Ghosts}
use Rattle.reg_tables.specs.Reads.{OnlyReads}
use Rattle.reg_tables.proofs.Transactions.{keeps_then}
use Rattle.reg_store.specs.Opening.{FindsLayoutOne}
use Rattle.reg_store.specs.Spells.{SpellsLayoutOne}
use Rattle.reg_store.specs.Stores.{AddsNoCrashState}
use Rattle.reg_migrate.specs.Migrations.{RecoversToMigrated, CrashKeepsStored, Migrates, IsLayoutOneRegistry}
use Rattle.reg_migrate.specs.Inside.{HasLayoutOneIfOpen, HasLayoutOne, HoldsMigrated, IsMigratedOver, TreesHoldMigrated}
use Rattle.reg_migrate.proofs.Layouts.{taken_if_held}
use Rattle.reg_migrate.proofs.NoEvidence.{no_evidence_left}
use Rattle.reg_migrate.proofs.Spelled.{recovers_migrated, spells_migrated}

-- the test removes the limit on steps, which these facts don't depend on
pub unlimited_reads : {S : Type 0} (g : Ghosts S) (conn : Held S) (mid : State) → OnlyReads (state g (record conn { step_limit = None })) mid → OnlyReads (state g conn) mid
unlimited_reads g conn mid reads = record { commit_stays = record { was_open = reads.commit_stays.was_open; committed = reads.commit_stays.committed }; settled = reads.settled }

-- if nothing was committed, a crash leaves nothing new
pub no_more : (old new : State) → ((db : Trees) → new.may_leave db → old.may_leave db ⊎ ⊥) → AddsNoCrashState old new
no_more old new crash db it = elim (crash db it) as (λ _. old.may_leave db) [ inl was ↦ was | inr none ↦ absurd none ]

-- over two calls, only a disk fault closes the connection
pub closes_both : (old mid new : State) → old.faults ≤ mid.faults → mid.faults ≤ new.faults → (IsTrue old.is_open → IsTrue mid.is_open ⊎ MoreFaults old.faults mid.faults)
    → (IsTrue mid.is_open → IsTrue new.is_open ⊎ MoreFaults mid.faults new.faults) → IsTrue old.is_open → IsTrue new.is_open ⊎ MoreFaults old.faults new.faults
closes_both old mid new up later first second is_open = elim (first is_open) [
  | inl mid_open ↦ elim (second mid_open) [ inl still ↦ inl still | inr more ↦ inr (omega (arith, up, more)) ]
  | inr more ↦ inr (omega (arith, more, later))
]

-- a report has the number that the test counted
pub reported : {X E : Type 0} (P : ℕ → Type 0) (number : X → ℕ) (count : ℕ) (r : Result X E) → IfOk r (λ x. number x ≡ count) → OnOk r (P count) → IfOk r (λ x. P (number x))
reported P number count (Ok x) is h = subst P (sym is) h
reported P number count (Err e) is h = tt

-- tables that passed spell a registry
pub spells_some : (db : Database) (count : ℕ) → FindsLayoutOne db count → IsLayoutOneRegistry db
spells_some db count found = record { stored = found.stored; spelled = found.spells }

module _ (old mid : State) (reads : OnlyReads old mid) (settled : IsTrue old.is_open → old.now ≡ old.committed) where
  -- while the connection is open, the test changed nothing
  same_now : IsTrue mid.is_open → mid.now ≡ old.now
  same_now is_open =
      let was_open = reads.commit_stays.was_open is_open in
      reads.settled is_open ∙ (reads.commit_stays.committed is_open ∙ sym (settled was_open))

  -- tables that passed can be migrated
  pub can_migrate : (count : ℕ) → FindsLayoutOne old.now count → HasLayoutOneIfOpen mid
  can_migrate count found is_open = subst HasLayoutOne (sym (same_now is_open)) (record { schema = found.spells.schema; known = found.spells.known; contents = found.spells.contents; holds = found.spells.holds })

  -- neither the test nor the migration committed anything
  pub reads_both : (new : State) → OnlyReads mid new → OnlyReads old new
  reads_both new later = record { commit_stays = keeps_then old mid new reads.commit_stays later.commit_stays; settled = later.settled }

  -- what a crash leaves of the tested tables
  pub takes_on : (count : ℕ) → FindsLayoutOne old.now count → (db : Trees) → IsTrue mid.is_open → TreesHoldMigrated mid.now db → RecoversToMigrated old.now db
  takes_on count found db is_open takes = record {
    found = spells_some old.now count found;
    spells = λ was spelled. recovers_migrated old.now db was (subst (λ (d : Database). TreesHoldMigrated d db) (same_now is_open) takes) spelled;
  }

  module _ (new : State) (count : ℕ) (found : FindsLayoutOne old.now count) (over : IsMigratedOver mid new) where
    held : HoldsMigrated old.now new.now
    held = subst (λ (d : Database). HoldsMigrated d new.now) (same_now over.was_open) over.holds

    -- the registry is migrated
    pub moves : Migrates old new count
    moves = record {
      found = spells_some old.now count found;
      counted = found.counted;
      spells = λ was spelled. record { is_open = over.is_open; settled = over.settled; spells = spells_migrated old.now new.now was held spelled };
      evidence = no_evidence_left old.now new.now found.stored found.spells held;
    }

    -- a crash leaves the registry only in layout 2
    pub crashes_migrated : ((db : Trees) → IsTrue new.is_open → new.may_leave db → db ≡ new.committed.trees) → (db : Trees) → new.may_leave db → RecoversToMigrated old.now db
    crashes_migrated only db it = record {
      found = spells_some old.now count found;
      spells = λ was spelled. recovers_migrated old.now db was (taken_if_held old.now new.now db (only db over.is_open it ∙ ap (λ (d : Database). d.trees) over.settled) held) spelled;
    }

-- a crash never loses the registry
pub crash_keeps_stored : (old new : State) → (IsTrue old.is_open → old.now ≡ old.committed) → ((db : Trees) → IsTrue old.is_open → old.may_leave db → db ≡ old.committed.trees)
    → ((db : Trees) → new.may_leave db → old.may_leave db ⊎ RecoversToMigrated old.now db) → CrashKeepsStored old new
crash_keeps_stored old new settled only crash is_open was spelled db it = elim (crash db it) [
  | inl before ↦ inl (record {
    schema = spelled.schema;
    spells = subst (λ t. SpellsLayoutOne (record { schema = spelled.schema; trees = t }) was) (sym (only db is_open before ∙ sym (ap (λ (d : Database). d.trees) (settled is_open))))
        (subst (λ x. SpellsLayoutOne (record { schema = x; trees = old.now.trees }) was) spelled.holds.declared spelled);
  })
  | inr made ↦ inr (made.spells was spelled)
]
