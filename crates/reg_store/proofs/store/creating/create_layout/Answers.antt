use Rattle.std.proofs.Common.{◌≡◌, subst, subst₂, sym, inl, inr, IsTrue, rules}
use Rattle.std.proofs.lemmas.Bool.{both_ways}
use Rattle.sqlite.specs.Held.{state}
use Rattle.reg_tables.specs.Layout.{empty_schema}
use Rattle.reg_store.specs.Failures.{IsFaultBy}
use Rattle.reg_store.specs.Stores.{KeepsConnection}
use Rattle.reg_store.proofs.Committing.{recovers_new}
use Rattle.reg_store.proofs.OpenLemmas.{only_reads, leaves_unlimited, unmade_beside}
use Rattle.reg_store.proofs.store.creating.create_layout.Goals as goal

pub returns-in-Ok-clause-done : goal.returns-in-Ok-clause-done
returns-in-Ok-clause-done g c clean =
    let none : (state g.S.Store c.new-db.result.idle.conn).now.schema ≡ empty_schema = search rules in
    c.in-Ok.ensures.done clean none

pub returns-in-Ok-clause-crash_after : goal.returns-in-Ok-clause-crash_after
returns-in-Ok-clause-crash_after g c clean =
    let last = c.create_in-made.new.db.idle.conn in
    recovers_new c.args.layout (state g.S.Store last) (λ is_open db it. g.met.S.Store.settled last.store db is_open it) (returns-in-Ok-clause-done g c clean)

pub returns-in-Ok-clause-shield : goal.returns-in-Ok-clause-shield
returns-in-Ok-clause-shield g c =
    subst (λ h. (state g.S.Store h).IsShielded → (state g.S.Store c.create_in-made.new.db.idle.conn).IsShielded) c.new-db.ensures.same c.in-Ok.ensures.survives.shield

pub returns-in-Err-clause-fails : goal.returns-in-Err-clause-fails
returns-in-Err-clause-fails g c =
    let idle : IsTrue c.is_autocommit-settled.result = search rules in
    let empty : (state g.S.Store c.new-db.result.idle.conn).now.schema ≡ empty_schema = search rules in
    let begun = c.new-db.result.idle.conn in
    let new = state g.S.Store c.create_in-made.new.db.idle.conn in
    record {
      fault = λ clean none. subst₂ (λ h e. IsFaultBy (state g.S.Store h) new e) c.new-db.ensures.same (sym c.from.ensures) (c.in-Err.ensures.fault clean empty);
      leaves = leaves_unlimited g.S.Store c.args.connection begun c.new-db.ensures.same new c.from.result (subst (KeepsConnection (state g.S.Store begun) new) (sym c.from.ensures) (record {
        shield = c.in-Err.ensures.survives.shield;
        nothing = λ clean. only_reads (state g.S.Store begun) new (c.in-Err.ensures.nothing clean) (c.is_autocommit-settled.ensures.settled idle);
        before = c.in-Err.ensures.before;
        closes = c.in-Err.ensures.survives.closes;
        settled = λ is_open db it. g.met.S.Store.settled c.create_in-made.new.db.idle.conn.store db is_open it;
      }));
      crash = λ clean db it. elim (c.in-Err.ensures.survives.crash clean db it) [
        | inl was ↦ inl (subst (λ h. (state g.S.Store h).may_leave db) c.new-db.ensures.same was)
        | inr made ↦ inr (made empty)
      ];
    }

pub returns-then-not-is_empty_database-clause-fails : goal.returns-then-not-is_empty_database-clause-fails
returns-then-not-is_empty_database-clause-fails g c =
    let begun = c.new-db.result.idle.conn in
    unmade_beside g.S.Store c.args.connection begun c.new-db.ensures.same (λ none. both_ways _ c.if-not-is_empty_database.true (c.is_empty_database.ensures.1 none))
    c.new-db.ensures.settled (λ is_open db it. g.met.S.Store.settled begun.store db is_open it)
