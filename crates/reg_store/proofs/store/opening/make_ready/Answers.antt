use Rattle.std.proofs.Common.{inl, inr, ◌∙◌, IsTrue, sym, ap, subst, arith, rules}
use Rattle.std.proofs.lemmas.Bool.{both_ways}
use Rattle.sqlite.specs.Effect.{Database}
use Rattle.sqlite.specs.Held.{state}
use Rattle.sqlite.specs.State.{HasCleanDisk}
use Rattle.sqlite.proofs.StateLemmas.{survives_then}
use Rattle.reg_tables.specs.Layout.{layout_two_unindexed}
use Rattle.reg_tables.specs.Contents.{HoldsContents}
use Rattle.reg_tables.proofs.Tables.{openable_has_eight}
use Rattle.reg_store.specs.declared.layout.Layout.TheVariants.{Two}
use Rattle.reg_store.specs.Failures.{failure_of}
use Rattle.reg_store.specs.Stores.{KeepsConnection}
use Rattle.reg_store.specs.OpenFailures.{IsOpenFailure}
use Rattle.reg_store.specs.Opening.{IsIndexed}
use Rattle.reg_store.proofs.Failing.{passed, by_since, if_err_each, disk_cause_if_by, plain_if_by, numberless, number_if_plain}
use Rattle.reg_store.proofs.MetaLemmas.{not_other}
use Rattle.reg_store.proofs.OpenLemmas.{opens_as_it_is, opens_with_index, bare_contents, bare_tables, index_survives, spells_bare, only_reads}
use Rattle.reg_store.proofs.Committing.{before_if_undone, before_then, before_if_faulted}
use Rattle.reg_tables.proofs.Transactions.{keeps_then, on_ok, if_err, survives_both}
use Rattle.reg_store.proofs.Rereading.{reads_then, same_now}
use Rattle.reg_store.proofs.store.opening.make_ready.Goals as goal

pub returns-then-not-is_unindexed_two-clause-done : goal.returns-then-not-is_unindexed_two-clause-done
returns-then-not-is_unindexed_two-clause-done g c clean =
    let idle : IsTrue c.is_autocommit-idle.result = search rules in
    let old = state g.S.Store c.args.db.now.idle.conn in
    let mid = state g.S.Store c.check_layout_two.new.db.idle.conn in
    let new = state g.S.Store c.require_open.new.db.idle.conn in
    let early : HasCleanDisk mid = omega (arith, c.require_open.ensures.frame.survives.clean) in
    let t = c.in_ok-check_layout_two.ensures in
    let asked = c.require_open.ensures.frame.only_reads clean in
    let first = t.tests.frame.only_reads early in
    let reads = reads_then old mid new first asked in
    let settled = c.is_autocommit-idle.ensures.settled idle in
    on_ok c.require_open.result (λ is_open. opens_as_it_is old new reads settled t.known (c.schema-live.ensures.live (t.tests.frame.was_open early)).0 (t.tests.tells early (openable_has_eight old.now.schema t.known)) is_open
    (λ bare. both_ways _ c.if-not-is_unindexed_two.true (c.is_unindexed_two.ensures.1
    (ap (λ (d : Database). d.schema) (same_now old mid first settled (asked.commit_stays.was_open is_open) ∙ sym (same_now old new reads settled is_open)) ∙ bare)))) (c.require_open.ensures.is_open clean)

pub returns-then-not-is_unindexed_two-clause-survives : goal.returns-then-not-is_unindexed_two-clause-survives
returns-then-not-is_unindexed_two-clause-survives g c =
    let old = state g.S.Store c.args.db.now.idle.conn in
    survives_then old (state g.S.Store c.check_layout_two.new.db.idle.conn) (state g.S.Store c.require_open.new.db.idle.conn) (λ _. ⊥) (λ _. ⊥) (IsIndexed old.now) (λ _ db none. absurd none) (λ _ db none. absurd none)
    c.in_ok-check_layout_two.ensures.tests.frame.survives c.require_open.ensures.frame.survives

pub returns-then-not-is_unindexed_two-clause-fails : goal.returns-then-not-is_unindexed_two-clause-fails
returns-then-not-is_unindexed_two-clause-fails g c clean =
    let old = state g.S.Store c.args.db.now.idle.conn in
    let mid = state g.S.Store c.check_layout_two.new.db.idle.conn in
    let new = state g.S.Store c.require_open.new.db.idle.conn in
    let asked = c.require_open.ensures.frame.survives in
    let early : HasCleanDisk mid = omega (arith, asked.clean) in
    let t = c.in_ok-check_layout_two.ensures in
    let frame = t.tests.frame.survives in
    let passes = t.tests.tells early (openable_has_eight old.now.schema t.known) in
    if_err c.require_open.result (λ e by.
    let since = by_since old mid new (frame.closes early) frame.counts asked.counts e by in
    record {
      fault = λ was over. since;
      disk_cause = disk_cause_if_by old new e since;
      meta_number = number_if_plain 2 old.now e (plain_if_by mid new e by);
      other = λ number is_open out. absurd (not_other Two old.now number passes.base.meta out);
    }) (c.require_open.ensures.fault clean)

pub returns-then-not-is_unindexed_two-clause-leaves : goal.returns-then-not-is_unindexed_two-clause-leaves
returns-then-not-is_unindexed_two-clause-leaves g c =
    let old = state g.S.Store c.args.db.now.idle.conn in
    let mid = state g.S.Store c.check_layout_two.new.db.idle.conn in
    let new = state g.S.Store c.require_open.new.db.idle.conn in
    let frame = c.in_ok-check_layout_two.ensures.tests.frame in
    let asked = c.require_open.ensures.frame in
    let both = survives_both old mid new frame.survives asked.survives in
    let early = λ (clean : HasCleanDisk new). (let it : HasCleanDisk mid = omega (arith, asked.survives.clean) in it) in
    if_err_each c.require_open.result (λ e. record {
      shield = both.shield;
      nothing = λ clean. reads_then old mid new (frame.only_reads (early clean)) (asked.only_reads clean);
      before = λ clean is_open. before_if_undone old new e both clean;
      closes = both.closes;
      settled = λ is_open db it. g.met.S.Store.settled c.require_open.new.db.idle.conn.store db is_open it;
    })

pub returns-clause-done : goal.returns-clause-done
returns-clause-done g c clean =
    let idle : IsTrue c.is_autocommit-idle.result = search rules in
    let old = state g.S.Store c.args.db.now.idle.conn in
    let mid = state g.S.Store c.check_layout_two.new.db.idle.conn in
    let new = state g.S.Store c.add_index-made.new.db.idle.conn in
    let early : HasCleanDisk mid = omega (arith, c.add_index-made.ensures.survives.clean) in
    let t = c.in_ok-check_layout_two.ensures in
    let made = c.in_ok-made.ensures.done clean in
    opens_with_index old mid (t.tests.frame.only_reads early) (c.is_autocommit-idle.ensures.settled idle) t.known (c.schema-live.ensures.live (t.tests.frame.was_open early)).0 (t.tests.tells early (openable_has_eight old.now.schema t.known))
    new (c.is_unindexed_two.ensures.0 c.if-not-is_unindexed_two.false) made.0 made.1 made.2 made.3

pub returns-clause-survives : goal.returns-clause-survives
returns-clause-survives g c =
    let idle : IsTrue c.is_autocommit-idle.result = search rules in
    let old = state g.S.Store c.args.db.now.idle.conn in
    let mid = state g.S.Store c.check_layout_two.new.db.idle.conn in
    let new = state g.S.Store c.add_index-made.new.db.idle.conn in
    let t = c.in_ok-check_layout_two.ensures in
    let settled = c.is_autocommit-idle.ensures.settled idle in
    let frame = t.tests.frame in
    index_survives old mid new frame.only_reads settled
    (λ clean mid_open.
    let early : HasCleanDisk mid = omega (arith, c.add_index-made.ensures.survives.clean) in
    bare_tables old mid (frame.only_reads early) settled t.known (c.schema-live.ensures.live (frame.was_open early)).0 (t.tests.tells early (openable_has_eight old.now.schema t.known)) (c.is_unindexed_two.ensures.0 c.if-not-is_unindexed_two.false) mid_open)
    frame.survives c.add_index-made.ensures.survives

pub returns-in_err-made-clause-survives : goal.returns-in_err-made-clause-survives
returns-in_err-made-clause-survives g c =
    let idle : IsTrue c.is_autocommit-idle.result = search rules in
    let old = state g.S.Store c.args.db.now.idle.conn in
    let mid = state g.S.Store c.check_layout_two.new.db.idle.conn in
    let new = state g.S.Store c.add_index-made.new.db.idle.conn in
    let t = c.in_ok-check_layout_two.ensures in
    let settled = c.is_autocommit-idle.ensures.settled idle in
    let frame = t.tests.frame in
    index_survives old mid new frame.only_reads settled
    (λ clean mid_open.
    let early : HasCleanDisk mid = omega (arith, c.add_index-made.ensures.survives.clean) in
    bare_tables old mid (frame.only_reads early) settled t.known (c.schema-live.ensures.live (frame.was_open early)).0 (t.tests.tells early (openable_has_eight old.now.schema t.known)) (c.is_unindexed_two.ensures.0 c.if-not-is_unindexed_two.false) mid_open)
    frame.survives c.add_index-made.ensures.survives

pub returns-in_err-made-clause-fails : goal.returns-in_err-made-clause-fails
returns-in_err-made-clause-fails g c clean =
    let idle : IsTrue c.is_autocommit-idle.result = search rules in
    let old = state g.S.Store c.args.db.now.idle.conn in
    let mid = state g.S.Store c.check_layout_two.new.db.idle.conn in
    let new = state g.S.Store c.add_index-made.new.db.idle.conn in
    let early : HasCleanDisk mid = omega (arith, c.add_index-made.ensures.survives.clean) in
    let t = c.in_ok-check_layout_two.ensures in
    let frame = t.tests.frame in
    let e = c.in_err-made.field-0.0 in
    let settled = c.is_autocommit-idle.ensures.settled idle in
    let is = c.is_unindexed_two.ensures.0 c.if-not-is_unindexed_two.false in
    let same = same_now old mid (frame.only_reads early) settled in
    let passes = t.tests.tells early (openable_has_eight old.now.schema t.known) in
    let there = λ (mid_open : IsTrue mid.is_open). bare_contents old.now (bare_tables old mid (frame.only_reads early) settled t.known (c.schema-live.ensures.live (frame.was_open early)).0 passes is mid_open) in
    let since = by_since old mid new (frame.survives.closes early) frame.survives.counts c.add_index-made.ensures.survives.counts (failure_of e) in
    passed (IsOpenFailure old new) c.from_residual-in_err-made.result (failure_of e) c.from_residual-in_err-made.ensures.1
    (record {
      fault = λ was over. since (c.in_err-made.ensures.fault clean (λ mid_open.
          let spells = spells_bare old.now was (sym (ap (λ (d : Database). d.schema) (same mid_open)) ∙ is) (over (frame.was_open early)) in
          (spells.contents, subst (λ (d : Database). HoldsContents layout_two_unindexed d spells.contents) (sym (same mid_open)) spells.holds)));
      disk_cause = disk_cause_if_by old new (failure_of e) (since (c.in_err-made.ensures.fault clean (λ mid_open. let it = there mid_open in (it.0, subst (λ (d : Database). HoldsContents layout_two_unindexed d it.0) (sym (same mid_open)) it.1))));
      meta_number = number_if_plain 2 old.now (failure_of e) (numberless e);
      other = λ number is_open out. absurd (not_other Two old.now number passes.base.meta out);
    })

pub returns-in_err-made-clause-leaves : goal.returns-in_err-made-clause-leaves
returns-in_err-made-clause-leaves g c =
    let idle : IsTrue c.is_autocommit-idle.result = search rules in
    let idle_after : IsTrue c.is_autocommit-settled.result = search rules in
    let old = state g.S.Store c.args.db.now.idle.conn in
    let mid = state g.S.Store c.check_layout_two.new.db.idle.conn in
    let new = state g.S.Store c.add_index-made.new.db.idle.conn in
    let t = c.in_ok-check_layout_two.ensures in
    let frame = t.tests.frame in
    let e = c.in_err-made.field-0.0 in
    let settled = c.is_autocommit-idle.ensures.settled idle in
    let made = c.add_index-made.ensures.survives in
    let early = λ (clean : HasCleanDisk new). (let it : HasCleanDisk mid = omega (arith, made.clean) in it) in
    passed (KeepsConnection old new) c.from_residual-in_err-made.result (failure_of e) c.from_residual-in_err-made.ensures.1
    (record {
      shield = (returns-in_err-made-clause-survives g c).shield;
      nothing = λ clean. only_reads old new (keeps_then old mid new (frame.only_reads (early clean)).commit_stays (c.in_err-made.ensures.nothing clean)) (c.is_autocommit-settled.ensures.settled idle_after);
      before = λ clean is_open. elim (frame.survives.closes (early clean) is_open) [
        | inl mid_open ↦ before_then old mid new (failure_of e) frame.survives (early clean) made.counts (c.in_err-made.ensures.before clean mid_open)
        | inr more ↦
            let reads = frame.only_reads (early clean) in
            let there = λ (mid_open : IsTrue mid.is_open). bare_contents old.now (bare_tables old mid reads settled t.known (c.schema-live.ensures.live (frame.was_open (early clean))).0 (t.tests.tells (early clean) (openable_has_eight old.now.schema t.known)) (c.is_unindexed_two.ensures.0 c.if-not-is_unindexed_two.false) mid_open) in
            before_if_faulted old mid new (failure_of e) more made.counts
            (c.in_err-made.ensures.fault clean (λ mid_open. let it = there mid_open in (it.0, subst (λ (d : Database). HoldsContents layout_two_unindexed d it.0) (sym (same_now old mid reads settled mid_open)) it.1)))
      ];
      closes = (returns-in_err-made-clause-survives g c).closes;
      settled = λ is_open db it. g.met.S.Store.settled c.add_index-made.new.db.idle.conn.store db is_open it;
    })

pub returns-in_err-check_layout_two-clause-fails : goal.returns-in_err-check_layout_two-clause-fails
returns-in_err-check_layout_two-clause-fails g c clean =
    let it = c.in_err-check_layout_two.ensures in
    passed (IsOpenFailure (state g.S.Store c.args.db.now.idle.conn) (state g.S.Store c.check_layout_two.new.db.idle.conn)) c.from_residual.result c.in_err-check_layout_two.field-0.0 c.from_residual.ensures.1
    (record { fault = λ was over. it.tests.fault clean (λ is_open. record { stored = was; spells = over is_open }); disk_cause = it.disk_cause clean; meta_number = it.meta_number clean; other = it.other clean })

pub returns-in_err-check_layout_two-clause-leaves : goal.returns-in_err-check_layout_two-clause-leaves
returns-in_err-check_layout_two-clause-leaves g c =
    let old = state g.S.Store c.args.db.now.idle.conn in
    let new = state g.S.Store c.check_layout_two.new.db.idle.conn in
    let e = c.in_err-check_layout_two.field-0.0 in
    let frame = c.in_err-check_layout_two.ensures.tests.frame in
    passed (KeepsConnection old new) c.from_residual.result e c.from_residual.ensures.1
    (record {
      shield = frame.survives.shield;
      nothing = frame.only_reads;
      before = λ clean is_open. before_if_undone old new e frame.survives clean;
      closes = frame.survives.closes;
      settled = λ is_open db it. g.met.S.Store.settled c.check_layout_two.new.db.idle.conn.store db is_open it;
    })
