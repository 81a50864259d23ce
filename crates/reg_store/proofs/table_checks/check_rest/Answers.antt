use Rattle.std.proofs.Common.{IsTrue, rules}
use Rattle.reg_store.proofs.CheckLemmas.{tests_then, test_fails, test_tells}
use Rattle.reg_store.proofs.table_checks.check_rest.Goals as goal

pub returns-in_err-count-clause-tests : goal.returns-in_err-count-clause-tests
returns-in_err-count-clause-tests g c = test_fails g.S.Store c.args.db.now.idle.conn c.check_versions.new.db.idle.conn c.from_residual.result _ c.in_err-count.ensures.tests c.from_residual.ensures.1

pub returns-in_err-check_texts-clause-tests : goal.returns-in_err-check_texts-clause-tests
returns-in_err-check_texts-clause-tests g c =
    let idle : IsTrue c.is_autocommit-idle.result = search rules in
    let a = c.args.db.now.idle.conn in
    let t = tests_then g.S.Store a c.check_versions.new.db.idle.conn c.check_texts.new.db.idle.conn (c.is_autocommit-idle.ensures.settled idle) _ c.in_ok-count.ensures.tests c.in_err-check_texts.ensures.tests in
    test_fails g.S.Store a c.check_texts.new.db.idle.conn c.from_residual-in_err-check_texts.result _ t c.from_residual-in_err-check_texts.ensures.1

pub returns-in_err-check_levels-clause-tests : goal.returns-in_err-check_levels-clause-tests
returns-in_err-check_levels-clause-tests g c =
    let idle : IsTrue c.is_autocommit-idle.result = search rules in
    let a = c.args.db.now.idle.conn in
    let settled = c.is_autocommit-idle.ensures.settled idle in
    let one = tests_then g.S.Store a c.check_versions.new.db.idle.conn c.check_texts.new.db.idle.conn settled _ c.in_ok-count.ensures.tests c.in_ok-check_texts.ensures.tests in
    let t = tests_then g.S.Store a c.check_texts.new.db.idle.conn c.check_levels.new.db.idle.conn settled _ one c.in_err-check_levels.ensures.tests in
    test_fails g.S.Store a c.check_levels.new.db.idle.conn c.from_residual-in_err-check_levels.result _ t c.from_residual-in_err-check_levels.ensures.1

pub returns-in_err-check_kept-clause-tests : goal.returns-in_err-check_kept-clause-tests
returns-in_err-check_kept-clause-tests g c =
    let idle : IsTrue c.is_autocommit-idle.result = search rules in
    let a = c.args.db.now.idle.conn in
    let settled = c.is_autocommit-idle.ensures.settled idle in
    let one = tests_then g.S.Store a c.check_versions.new.db.idle.conn c.check_texts.new.db.idle.conn settled _ c.in_ok-count.ensures.tests c.in_ok-check_texts.ensures.tests in
    let two = tests_then g.S.Store a c.check_texts.new.db.idle.conn c.check_levels.new.db.idle.conn settled _ one c.in_ok-check_levels.ensures.tests in
    let t = tests_then g.S.Store a c.check_levels.new.db.idle.conn c.check_kept.new.db.idle.conn settled _ two c.in_err-check_kept.ensures.tests in
    test_fails g.S.Store a c.check_kept.new.db.idle.conn c.from_residual-in_err-check_kept.result _ t c.from_residual-in_err-check_kept.ensures.1

pub returns-clause-tests : goal.returns-clause-tests
returns-clause-tests g c =
    let idle : IsTrue c.is_autocommit-idle.result = search rules in
    let a = c.args.db.now.idle.conn in
    let settled = c.is_autocommit-idle.ensures.settled idle in
    let one = tests_then g.S.Store a c.check_versions.new.db.idle.conn c.check_texts.new.db.idle.conn settled _ c.in_ok-count.ensures.tests c.in_ok-check_texts.ensures.tests in
    let two = tests_then g.S.Store a c.check_texts.new.db.idle.conn c.check_levels.new.db.idle.conn settled _ one c.in_ok-check_levels.ensures.tests in
    let three = tests_then g.S.Store a c.check_levels.new.db.idle.conn c.check_kept.new.db.idle.conn settled _ two c.in_ok-check_kept.ensures.tests in
    test_tells g.S.Store a c.check_kept.new.db.idle.conn three c.in_ok-count.count (λ db p. (record { versions = p.0.0.0.0; texts = p.0.0.1; levels = p.0.1; kept = p.1 }, p.0.0.0.1))
