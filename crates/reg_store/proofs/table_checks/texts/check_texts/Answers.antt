use Rattle.std.proofs.Common.{IsTrue, rules}
use Rattle.reg_store.proofs.CheckLemmas.{tests_then, test_of, test_judged, test_fails, some_known}
use Rattle.reg_store.proofs.TextChecks.{readable_if_spelled, texts_passed, texts_allowed}
use Rattle.reg_store.proofs.table_checks.texts.check_texts.Goals as goal

pub returns-in_err-count-clause-tests : goal.returns-in_err-count-clause-tests
returns-in_err-count-clause-tests g c = test_fails g.S.Store c.args.db.now.idle.conn c.count_texts.new.db.idle.conn c.from_residual.result _ c.in_err-count.ensures.tests c.from_residual.ensures.1

pub returns-in_err-judge_all-clause-tests : goal.returns-in_err-judge_all-clause-tests
returns-in_err-judge_all-clause-tests g c =
    let idle : IsTrue c.is_autocommit-idle.result = search rules in
    let a = c.args.db.now.idle.conn in
    let b = c.count_texts.new.db.idle.conn in
    let end = c.judge_all.new.db.idle.conn in
    let read = test_of g.S.Store b end _ (λ schema first. first) readable_if_spelled c.in_err-judge_all.ensures.tests in
    test_fails g.S.Store a end c.from_residual-in_err-judge_all.result _ (tests_then g.S.Store a b end (c.is_autocommit-idle.ensures.settled idle) _ c.in_ok-count.ensures.tests read) c.from_residual-in_err-judge_all.ensures.1

pub returns-clause-tests : goal.returns-clause-tests
returns-clause-tests g c =
    let idle : IsTrue c.is_autocommit-idle.result = search rules in
    let a = c.args.db.now.idle.conn in
    let b = c.count_texts.new.db.idle.conn in
    let end = c.judge_all.new.db.idle.conn in
    let count = c.in_ok-count.count in
    let fit = c.in_ok-judge_all.field-0 in
    let read = test_of g.S.Store b end _ (λ schema first. first) readable_if_spelled c.in_ok-judge_all.ensures.tests in
    test_judged g.S.Store a end (tests_then g.S.Store a b end (c.is_autocommit-idle.ensures.settled idle) _ c.in_ok-count.ensures.tests read) c.require.result fit c.require.ensures.ok c.require.ensures.err some_known
    (λ db p yes. texts_passed db count p.0 fit (p.1 p.0) yes)
    (λ db p no s. texts_allowed db count p.0 fit (p.1 p.0) s no)
