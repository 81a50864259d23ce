use Rattle.std.proofs.Common.{◌≡◌, ◌+◌, ◌∙◌, subst, arith, rules, take}
use Rattle.std.proofs.lemmas.List.{take_all}
use Rattle.std.proofs.lemmas.Bool.{both_ways}
use Rattle.sqlite.specs.Held.{state}
use Rattle.sqlite.specs.State.{HasCleanDisk}
use Rattle.reg_core.specs.Registry.{RowKey}
use Rattle.reg_tables.specs.Contents.{HoldsContents}
use Rattle.reg_tables.proofs.Transactions.{keeps_then, survives_both}
use Rattle.reg_tables.proofs.WriteFaults.{erred_with}
use Rattle.reg_store.specs.Inside.Applying.{IsFaultOfIds, with_ids}
use Rattle.reg_store.proofs.Positions.{next_is_free, next_is_put, has_still}
use Rattle.reg_store.proofs.Writing.{fault_later}
use Rattle.reg_store.proofs.changes.put_ids.Goals as goal

pub loop-id-preserved : goal.loop-id-preserved
loop-id-preserved g c =
    let old = state g.S.Store c.args.tx.now.conn.now in
    let mid = state g.S.Store c.loop-id.tx.conn.now in
    let new = state g.S.Store c.put_against.new.tx.conn.now in
    let it = c.in_ok-put_against.ensures in
    let before = c.loop-id.invariant in
    let ids = c.args.ids.now in
    let i = c.loop-id.id-index in
    let key : RowKey = (c.args.subject.now, c.args.number) in
    let position : c.in-Some.next ≡ i + 1 = search rules in
    let early = λ (clean : HasCleanDisk new). (let e : HasCleanDisk mid = omega (arith, it.frame.keeps.survives.clean) in e) in
    record {
      same = it.frame.keeps.same_reference ∙ before.same;
      position = position;
      few = search rules;
      puts = λ clean schema known contents holds free.
          let put = it.put clean schema known (with_ids key 1 (take i ids) contents) (before.puts (early clean) schema known contents holds free) (next_is_free key ids contents i c.in-Some.next c.loop-id-test.true position free) in
          subst (HoldsContents schema new.now) (next_is_put key ids contents i c.in-Some.next c.loop-id-test.true position) put;
      goes_on = λ clean ended. absurd (both_ways _ ended (it.frame.inside clean));
      commit_stays = λ clean. keeps_then old mid new (before.commit_stays (early clean)) (it.frame.keeps.commit_stays clean);
      survives = survives_both old mid new before.survives it.frame.keeps.survives;
    }

pub returns-in_err-put_against-clause-fault : goal.returns-in_err-put_against-clause-fault
returns-in_err-put_against-clause-fault g c clean =
    let old = state g.S.Store c.args.tx.now.conn.now in
    let mid = state g.S.Store c.loop-id.tx.conn.now in
    let before = c.loop-id.invariant in
    let early : HasCleanDisk mid = omega (arith, c.in_err-put_against.ensures.frame.keeps.survives.clean) in
    let e = c.in_err-put_against.field-0.0 in
    let ids = c.args.ids.now in
    let i = c.loop-id.id-index in
    let key : RowKey = (c.args.subject.now, c.args.number) in
    let position : c.in-Some.next ≡ i + 1 = search rules in
    erred_with c.from_residual.result e (IsFaultOfIds old (state g.S.Store c.put_against.new.tx.conn.now) key ids) c.from_residual.ensures.1 (λ schema known contents holds free has.
    let there = has_still key ids contents i c.in-Some.next c.loop-id-test.true position has in
    fault_later old mid (state g.S.Store c.put_against.new.tx.conn.now) before.survives early c.put_against.ensures.frame.keeps.survives.counts (before.goes_on early) e
    (c.in_err-put_against.ensures.fault clean schema known (with_ids key 1 (take i ids) contents) (before.puts early schema known contents holds free) (next_is_free key ids contents i c.in-Some.next c.loop-id-test.true position free) there.0 there.1))

pub returns-clause-put : goal.returns-clause-put
returns-clause-put g c clean =
    let ids = c.args.ids.now in
    let key : RowKey = (c.args.subject.now, c.args.number) in
    record {
      few = omega (arith, c.loop-id-test.false, c.loop-id.invariant.few);
      puts = λ schema known contents holds free.
          subst (λ l. HoldsContents schema (state g.S.Store c.loop-id.tx.conn.now).now (with_ids key 1 l contents)) (take_all c.loop-id.id-index ids c.loop-id-test.false) (c.loop-id.invariant.puts clean schema known contents holds free);
    }
