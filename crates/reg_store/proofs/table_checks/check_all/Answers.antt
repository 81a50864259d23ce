use Rattle.std.proofs.Common.{IsTrue, rules}
use Rattle.reg_tables.proofs.Tables.{eight_has_five}
use Rattle.reg_store.proofs.Bases.{some_unopened}
use Rattle.reg_store.proofs.CheckLemmas.{tests_then, test_of, test_says, test_fails}
use Rattle.reg_store.proofs.table_checks.check_all.Goals as goal

pub returns-in_err-check_rest-clause-tests : goal.returns-in_err-check_rest-clause-tests
returns-in_err-check_rest-clause-tests g c =
    test_fails g.S.Store c.args.db.now.idle.conn c.check_rest.new.db.idle.conn c.from_residual.result _
    (test_of g.S.Store c.args.db.now.idle.conn c.check_rest.new.db.idle.conn _ eight_has_five (λ db s. some_unopened s) c.in_err-check_rest.ensures.tests) c.from_residual.ensures.1

pub returns-clause-tests : goal.returns-clause-tests
returns-clause-tests g c =
    let idle : IsTrue c.is_autocommit-idle.result = search rules in
    let a = c.args.db.now.idle.conn in
    let rest = test_of g.S.Store a c.check_rest.new.db.idle.conn _ eight_has_five (λ db s. some_unopened s) c.in_ok-check_rest.ensures.tests in
    let t = tests_then g.S.Store a c.check_rest.new.db.idle.conn c.check_added.new.db.idle.conn (c.is_autocommit-idle.ensures.settled idle) c.check_added.result rest c.check_added.ensures.tests in
    test_says g.S.Store a c.check_added.new.db.idle.conn c.check_added.result t (λ x db p. (p.0.0, p.1))
