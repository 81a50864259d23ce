use Rattle.std.proofs.Common.{◌∙◌, [], ◌∷◌, sym, ap, subst, arith, take}
use Rattle.std.proofs.lemmas.List.{take_all}
use Rattle.std.proofs.lemmas.Bool.{both_ways}
use Rattle.sqlite.specs.Held.{state}
use Rattle.sqlite.specs.State.{HasCleanDisk}
use Rattle.reg_store.specs.Spells.{Spells}
use Rattle.reg_store.specs.Changes.{stored_after_changes}
use Rattle.reg_tables.proofs.Transactions.{keeps_then, survives_both}
use Rattle.reg_tables.proofs.WriteFaults.{erred_with}
use Rattle.reg_store.specs.Inside.Applying.{IsFaultOfChanges}
use Rattle.reg_store.proofs.Spelling.{stored_after_changes-more, fits_at}
use Rattle.reg_store.proofs.Writing.{fault_later, nonempty}
use Rattle.reg_store.proofs.changes.apply_changes.Goals as goal

pub loop-change-preserved : goal.loop-change-preserved
loop-change-preserved g c =
    let old = state g.S.Store c.args.tx.now.conn.now in
    let mid = state g.S.Store c.loop-change.tx.conn.now in
    let new = state g.S.Store c.apply_change.new.tx.conn.now in
    let it = c.in_ok-apply_change.ensures in
    let before = c.loop-change.invariant in
    let changes = c.args.changes.now in
    let i = c.loop-change.change-index in
    let item = c.change-item.result in
    let early = λ (clean : HasCleanDisk new). (let e : HasCleanDisk mid = omega (arith, it.frame.keeps.survives.clean) in e) in
    record {
      same = it.frame.keeps.same_reference ∙ before.same;
      made = λ clean was s fits.
          let before_this = stored_after_changes (take i changes) was in
          let step = it.made clean before_this (before.made (early clean) was s fits) (fits_at changes i item was.registry c.loop-change-test.true c.change-item.is fits) in
          let more = ap (λ d. stored_after_changes (d ∷ []) before_this) c.change-item.is ∙ sym (stored_after_changes-more changes i item was (omega arith)) in
          subst (Spells new.now) more step;
      was_open = λ clean _. (before.commit_stays (early clean)).was_open (it.frame.was_open clean);
      goes_on = λ clean ended. absurd (both_ways _ ended (it.frame.inside clean));
      commit_stays = λ clean. keeps_then old mid new (before.commit_stays (early clean)) (it.frame.keeps.commit_stays clean);
      survives = survives_both old mid new before.survives it.frame.keeps.survives;
    }

pub returns-clause-made : goal.returns-clause-made
returns-clause-made g c clean was s fits =
    subst (λ l. Spells (state g.S.Store c.loop-change.tx.conn.now).now (stored_after_changes l was)) (take_all c.loop-change.change-index c.args.changes.now (omega arith)) (c.loop-change.invariant.made clean was s fits)

pub returns-in_err-apply_change-clause-fault : goal.returns-in_err-apply_change-clause-fault
returns-in_err-apply_change-clause-fault g c clean =
    let old = state g.S.Store c.args.tx.now.conn.now in
    let mid = state g.S.Store c.loop-change.tx.conn.now in
    let before = c.loop-change.invariant in
    let early : HasCleanDisk mid = omega (arith, c.in_err-apply_change.ensures.frame.keeps.survives.clean) in
    let e = c.in_err-apply_change.field-0.0 in
    let changes = c.args.changes.now in
    let i = c.loop-change.change-index in
    erred_with c.from_residual.result e (IsFaultOfChanges old (state g.S.Store c.apply_change.new.tx.conn.now) changes) c.from_residual.ensures.1 (λ was spells fits. fault_later old mid (state g.S.Store c.apply_change.new.tx.conn.now) before.survives early c.apply_change.ensures.frame.keeps.survives.counts (before.goes_on early) e
    (c.in_err-apply_change.ensures.fault clean (stored_after_changes (take i changes) was) (λ is_open. before.made early was (spells ((before.commit_stays early).was_open is_open)) fits)
    (fits_at changes i c.change-item.result was.registry c.loop-change-test.true c.change-item.is fits)))

pub returns-clause-was_open : goal.returns-clause-was_open
returns-clause-was_open g c clean some =
    let more = nonempty c.args.changes.now some in
    c.loop-change.invariant.was_open clean (omega arith)
