use Rattle.std.proofs.Common.{IsTrue, rules}
use Rattle.reg_store.proofs.CheckLemmas.{tests_then, test_fails, test_says}
use Rattle.reg_store.proofs.table_checks.added.check_added.Goals as goal

pub returns-in_err-check_modes-clause-tests : goal.returns-in_err-check_modes-clause-tests
returns-in_err-check_modes-clause-tests g c = test_fails g.S.Store c.args.db.now.idle.conn c.check_modes.new.db.idle.conn c.from_residual.result _ c.in_err-check_modes.ensures.tests c.from_residual.ensures.1

pub returns-clause-tests : goal.returns-clause-tests
returns-clause-tests g c =
    let idle : IsTrue c.is_autocommit-idle.result = search rules in
    let a = c.args.db.now.idle.conn in
    let t = tests_then g.S.Store a c.check_modes.new.db.idle.conn c.check_evidence.new.db.idle.conn (c.is_autocommit-idle.ensures.settled idle) c.check_evidence.result c.in_ok-check_modes.ensures.tests c.check_evidence.ensures.tests in
    test_says g.S.Store a c.check_evidence.new.db.idle.conn c.check_evidence.result t (λ x db p. record { modes = p.0; evidence = p.1 })
