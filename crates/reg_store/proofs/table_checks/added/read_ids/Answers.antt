use Rattle.std.proofs.Common.{◌≡◌, ◌&&◌, Bool, List, map, IsTrue, sym, ap, subst, ◌∙◌, arith, rules}
use Rattle.std.proofs.lemmas.List.{take_all}
use Rattle.sqlite.specs.Held.{state}
use Rattle.sqlite.specs.Effect.{Database}
use Rattle.reg_tables.specs.declared.evidence.RawEvidence.{RawEvidence}
use Rattle.reg_tables.specs.Layout.{HasEightTables}
use Rattle.reg_tables.specs.Listings.{HasAgainstRows}
use Rattle.reg_store.specs.declared.table_checks.added.Ids.{Ids}
use Rattle.reg_store.specs.Inside.TableChecks.{version_at, JudgesVersions}
use Rattle.reg_store.proofs.ReadLemmas.{rests_still, rests_read, rests_on, clean_at, same_db}
use Rattle.reg_store.proofs.CheckLemmas.{test_fails, test_tells}
use Rattle.reg_store.proofs.TextChecks.{some_unread, last_read}
use Rattle.reg_store.proofs.VersionWalk.{no_versions, next_version}
use Rattle.reg_store.proofs.table_checks.added.read_ids.Goals as goal
use Rattle.reg_store.proofs.table_checks.added.read_ids.Goals.{then-fit, else-fit}

pub loop-version-init : goal.loop-version-init
loop-version-init g c = record { rests = rests_still (state g.S.Store c.args.db.now.idle.conn); judged = λ clean known. no_versions (state g.S.Store c.args.db.now.idle.conn).now _ (search rules) }

pub returns-in_err-some-clause-tests : goal.returns-in_err-some-clause-tests
returns-in_err-some-clause-tests g c =
    let idle : IsTrue c.is_autocommit-idle.result = search rules in
    let a = c.args.db.now.idle.conn in
    let end = c.judge_version.new.db.idle.conn in
    test_fails g.S.Store a end c.from_residual.result _ (some_unread g.S.Store a end (c.is_autocommit-idle.ensures.settled idle) c.loop-version.db.idle.conn c.loop-version.invariant.rests {Y = Ids} {Q = λ _ _. Unit {0}} _ c.in_err-some.ensures.tests) c.from_residual.ensures.1

pub returns-in_err-count-clause-tests : goal.returns-in_err-count-clause-tests
returns-in_err-count-clause-tests g c =
    let idle : IsTrue c.is_autocommit-idle.result = search rules in
    let a = c.args.db.now.idle.conn in
    let end = c.count_against.new.db.idle.conn in
    test_fails g.S.Store a end c.from_residual-in_err-count.result _ (some_unread g.S.Store a end (c.is_autocommit-idle.ensures.settled idle) c.loop-version.db.idle.conn c.loop-version.invariant.rests {Y = Ids} {Q = λ _ _. Unit {0}} _ c.in_err-count.ensures.tests) c.from_residual-in_err-count.ensures.1

pub loop-version-preserved : goal.loop-version-preserved
loop-version-preserved g c =
    let idle : IsTrue c.is_autocommit-idle.result = search rules in
    let old = state g.S.Store c.args.db.now.idle.conn in
    let mid = state g.S.Store c.loop-version.db.idle.conn in
    let new = state g.S.Store c.judge_version.new.db.idle.conn in
    let before = c.loop-version.invariant in
    let it = c.in_ok-some.ensures.tests in
    let step = rests_read g.S.Store c.loop-version.db.idle.conn c.judge_version.new.db.idle.conn c.judge_version.result c.judge_version.ensures.tests.frame in
    let db : Database = old.now in
    let a : Bool = c.loop-version.fit in
    let b : Bool = c.in_ok-some.some in
    let fit : c.if-fit.fit ≡ (a && b) = elim c.if-fit.branch [ then-fit w ↦ w.fit-is ∙ sym (ap (λ (x : Bool). x && b) w.if-fit.true) | else-fit w ↦ w.fit-is ∙ w.if-fit.false ∙ sym (ap (λ (x : Bool). x && b) w.if-fit.false) ] in
    record {
      rests = rests_on old mid new before.rests step;
      judged = λ clean known.
          (let early = clean_at old mid new step clean in
          let same : mid.now ≡ db = same_db old mid before.rests (c.is_autocommit-idle.ensures.settled idle) early (it.frame.was_open clean) in
          let next = it.tells clean (subst (λ (d : Database). HasEightTables d.schema) (sym same) known) in
          next_version db c.args.evidence.now c.loop-version.version-index _ _ c.loop-version-test.true c.version-item.is _ next.0 _ a b c.if-fit.fit (before.judged early known) mid.now same next.2 next.1 fit);
    }

pub returns-clause-tests : goal.returns-clause-tests
returns-clause-tests g c =
    let idle : IsTrue c.is_autocommit-idle.result = search rules in
    let a = c.args.db.now.idle.conn in
    let b = c.loop-version.db.idle.conn in
    let end = c.count_against.new.db.idle.conn in
    let db = (state g.S.Store a).now in
    let evidence = c.args.evidence.now in
    let rowids = c.loop-version.rowids.items in
    let fit = c.loop-version.fit in
    test_tells g.S.Store a end {P = λ n d. JudgesVersions (map version_at evidence) d rowids fit × HasAgainstRows d n}
    (last_read g.S.Store a end (c.is_autocommit-idle.ensures.settled idle) b c.loop-version.invariant.rests {R = λ d. JudgesVersions (map version_at evidence) d rowids fit} c.in_ok-count.count
    (λ clean known. subst (λ (l : List RawEvidence). JudgesVersions (map version_at l) db rowids fit) (take_all c.loop-version.version-index evidence (omega (arith, c.loop-version-test.false))) (c.loop-version.invariant.judged clean known)) c.in_ok-count.ensures.tests) _
    (λ d p. record { judged = p.0; counted = p.1 })
