use Rattle.std.proofs.Common.{◌≡◌, ◌+◌, ◌*◌, ◌&&◌, ℕ, Bool, IsTrue, sym, ap, subst, ◌∙◌, arith, rules}
use Rattle.sqlite.specs.Held.{state}
use Rattle.sqlite.specs.Effect.{Database}
use Rattle.reg_tables.specs.Layout.{HasFiveTables}
use Rattle.reg_tables.specs.Listings.{ListsTextsBetween}
use Rattle.reg_store.specs.Inside.TableChecks.{Judges}
use Rattle.reg_store.proofs.ReadLemmas.{rests_still, rests_read, rests_on, clean_at, same_db}
use Rattle.reg_store.proofs.CheckLemmas.{test_fails}
use Rattle.reg_store.proofs.TextChecks.{all_read, some_unread}
use Rattle.reg_store.proofs.TextParts.{have_ids, judges_none, judges_more, judges_all}
use Rattle.reg_store.proofs.table_checks.texts.judge_all.Goals as goal
use Rattle.reg_store.proofs.table_checks.texts.judge_all.Goals.{then-fit, else-fit}

pub loop-chunk-init : goal.loop-chunk-init
loop-chunk-init g c = record { rests = rests_still (state g.S.Store c.args.db.now.idle.conn); was_open = λ some. absurd (omega (arith, some)); judged = λ clean known have. judges_none (state g.S.Store c.args.db.now.idle.conn).now have }

pub returns-in_err-some-clause-tests : goal.returns-in_err-some-clause-tests
returns-in_err-some-clause-tests g c =
    let idle : IsTrue c.is_autocommit-idle.result = search rules in
    let a = c.args.db.now.idle.conn in
    let end = c.judge_some.new.db.idle.conn in
    test_fails g.S.Store a end c.from_residual.result _ (some_unread g.S.Store a end (c.is_autocommit-idle.ensures.settled idle) c.loop-chunk.db.idle.conn c.loop-chunk.invariant.rests {Y = Bool} {Q = λ _ _. Unit {0}} _ c.in_err-some.ensures.tests) c.from_residual.ensures.1

pub loop-chunk-preserved : goal.loop-chunk-preserved
loop-chunk-preserved g c =
    let idle : IsTrue c.is_autocommit-idle.result = search rules in
    let old = state g.S.Store c.args.db.now.idle.conn in
    let mid = state g.S.Store c.loop-chunk.db.idle.conn in
    let new = state g.S.Store c.judge_some.new.db.idle.conn in
    let before = c.loop-chunk.invariant in
    let it = c.in_ok-some.ensures.tests in
    let step = rests_read g.S.Store c.loop-chunk.db.idle.conn c.judge_some.new.db.idle.conn c.judge_some.result c.judge_some.ensures.tests.frame in
    let n : ℕ = c.loop-chunk.chunk * 16 in
    let db : Database = old.now in
    let a : Bool = c.loop-chunk.fit in
    let b : Bool = c.in_ok-some.some in
    let fit : c.if-fit.fit ≡ (a && b) = elim c.if-fit.branch [ then-fit w ↦ w.fit-is ∙ sym (ap (λ (x : Bool). x && b) w.if-fit.true) | else-fit w ↦ w.fit-is ∙ w.if-fit.false ∙ sym (ap (λ (x : Bool). x && b) w.if-fit.false) ] in
    let more : n + 16 ≡ (c.loop-chunk.chunk + 1) * 16 = omega arith in
    record {
      rests = rests_on old mid new before.rests step;
      was_open = λ some clean. (before.rests.commit_stays (clean_at old mid new step clean)).was_open (it.frame.was_open clean);
      judged = λ clean known have.
          (let early = clean_at old mid new step clean in
          let same : mid.now ≡ db = same_db old mid before.rests (c.is_autocommit-idle.ensures.settled idle) early (it.frame.was_open clean) in
          let next = subst (λ (d : Database). Judges (ListsTextsBetween (n + 1) (n + 16) d) b) same (it.tells clean (subst (λ (d : Database). HasFiveTables d.schema) (sym same) known)) in
          let both = judges_more db have n (n + 16) (omega arith) a b (before.judged early known have) next in
          subst (Judges (ListsTextsBetween 1 ((c.loop-chunk.chunk + 1) * 16) db)) (sym fit) (subst (λ m. Judges (ListsTextsBetween 1 m db) (a && b)) more both));
    }

pub returns-clause-tests : goal.returns-clause-tests
returns-clause-tests g c =
    let idle : IsTrue c.is_autocommit-idle.result = search rules in
    let db = (state g.S.Store c.args.db.now.idle.conn).now in
    all_read g.S.Store c.args.db.now.idle.conn c.loop-chunk.db.idle.conn (c.is_autocommit-idle.ensures.settled idle) c.loop-chunk.fit c.loop-chunk.invariant.rests (c.loop-chunk.invariant.was_open (omega (arith, c.loop-chunk-test.false)))
    (λ clean known numbers. judges_all db c.args.count (c.loop-chunk.chunk * 16) numbers (omega (arith, c.loop-chunk-test.false)) c.loop-chunk.fit (c.loop-chunk.invariant.judged clean known (have_ids db numbers.ids numbers.lists)))
