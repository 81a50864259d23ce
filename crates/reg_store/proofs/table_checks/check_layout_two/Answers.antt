use Rattle.std.proofs.Common.{IsTrue, arith, rules, subst, sym}
use Rattle.sqlite.specs.Held.{state}
use Rattle.sqlite.specs.State.{HasCleanDisk}
use Rattle.reg_tables.specs.Layout.{IsOpenable}
use Rattle.reg_tables.proofs.Transactions.{if_err}
use Rattle.reg_store.specs.declared.layout.Layout.TheVariants.{Two}
use Rattle.reg_store.specs.Failures.{HasDiskCause}
use Rattle.reg_store.proofs.Failing.{if_err_each, passed}
use Rattle.reg_store.proofs.MetaLemmas.{not_other}
use Rattle.reg_tables.proofs.Tables.{openable_has_eight, eight_has_five}
use Rattle.reg_store.proofs.CheckLemmas.{tests_then, test_of, test_says}
use Rattle.reg_store.proofs.table_checks.check_layout_two.Goals as goal

pub returns-clause-tests : goal.returns-clause-tests
returns-clause-tests g c =
    let idle : IsTrue c.is_autocommit-idle.result = search rules in
    let meta = test_of g.S.Store c.args.db.now.idle.conn c.check_meta.new.db.idle.conn _ eight_has_five (λ db s. s) c.in_ok-check_meta.ensures.tests in
    let t = tests_then g.S.Store c.args.db.now.idle.conn c.check_meta.new.db.idle.conn c.check_all.new.db.idle.conn (c.is_autocommit-idle.ensures.settled idle) c.check_all.result meta c.check_all.ensures.tests in
    test_says g.S.Store c.args.db.now.idle.conn c.check_all.new.db.idle.conn c.check_all.result t (λ x db p. record { base = record { meta = p.0; rest = p.1.0 }; added = p.1.1 })

pub returns-clause-disk_cause : goal.returns-clause-disk_cause
returns-clause-disk_cause g c clean =
    let known : IsOpenable (state g.S.Store c.args.db.now.idle.conn).now.schema = search rules in
    if_err c.check_all.result (λ e told. told (λ _. openable_has_eight (state g.S.Store c.args.db.now.idle.conn).now.schema known)) ((returns-clause-tests g c).disk_cause clean)

pub returns-in_err-require-clause-disk_cause : goal.returns-in_err-require-clause-disk_cause
returns-in_err-require-clause-disk_cause g c clean =
    let old = state g.S.Store c.args.db.now.idle.conn in
    let new = state g.S.Store c.check_meta.new.db.idle.conn in
    passed (HasDiskCause old new) c.from_residual-in_err-require.result c.in_err-require.field-0.0 c.from_residual-in_err-require.ensures.1 (subst (HasDiskCause old new) (sym c.in_err-require.ensures.err.0) tt)

pub returns-clause-other : goal.returns-clause-other
returns-clause-other g c clean =
    let mid : HasCleanDisk (state g.S.Store c.check_meta.new.db.idle.conn) = omega (arith, c.check_all.ensures.tests.frame.survives.clean) in
    if_err_each c.check_all.result (λ e number is_open out.
    absurd (not_other Two (state g.S.Store c.args.db.now.idle.conn).now number (c.in_ok-check_meta.ensures.tests.tells mid out.holds.first) out))

pub returns-in_err-require-clause-other : goal.returns-in_err-require-clause-other
returns-in_err-require-clause-other g c clean =
    if_err_each c.from_residual-in_err-require.result (λ e number is_open out. absurd (not_other Two (state g.S.Store c.args.db.now.idle.conn).now number (c.in_ok-check_meta.ensures.tests.tells clean out.holds.first) out))
