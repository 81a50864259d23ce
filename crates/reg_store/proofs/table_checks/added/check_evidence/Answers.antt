use Rattle.std.proofs.Common.{◌↔◌, IsTrue, List, map, subst, rules}
use Rattle.std.proofs.lemmas.Bool.{both_ways}
use Rattle.reg_tables.specs.declared.evidence.RawEvidence.{RawEvidence}
use Rattle.sqlite.specs.Effect.{Database}
use Rattle.reg_store.specs.Inside.TableChecks.{version_at, JudgesIds}
use Rattle.reg_store.proofs.LayoutTwoChecks.{all_tables_known}
use Rattle.reg_store.proofs.CheckLemmas.{tests_then, test_fails, test_out_of_memory, test_judged}
use Rattle.reg_store.proofs.VersionWalk.{AllPass, all_passed, none_refused}
use Rattle.reg_store.proofs.table_checks.added.check_evidence.Goals as goal

pub returns-in_err-evidence-clause-tests : goal.returns-in_err-evidence-clause-tests
returns-in_err-evidence-clause-tests g c = test_fails g.S.Store c.args.db.now.idle.conn c.read_evidence.new.db.idle.conn c.from_residual.result _ c.in_err-evidence.ensures.tests c.from_residual.ensures.1

pub returns-in_err-ids-clause-tests : goal.returns-in_err-ids-clause-tests
returns-in_err-ids-clause-tests g c =
    let idle : IsTrue c.is_autocommit-idle.result = search rules in
    let a = c.args.db.now.idle.conn in
    let b = c.read_evidence.new.db.idle.conn in
    let end = c.read_ids.new.db.idle.conn in
    test_fails g.S.Store a end c.from_residual-in_err-ids.result _ (tests_then g.S.Store a b end (c.is_autocommit-idle.ensures.settled idle) _ c.in_ok-evidence.ensures.tests c.in_err-ids.ensures.tests) c.from_residual-in_err-ids.ensures.1

pub returns-in_err-pass_evidence-clause-tests : goal.returns-in_err-pass_evidence-clause-tests
returns-in_err-pass_evidence-clause-tests g c =
    let idle : IsTrue c.is_autocommit-idle.result = search rules in
    let a = c.args.db.now.idle.conn in
    let b = c.read_evidence.new.db.idle.conn in
    let end = c.read_ids.new.db.idle.conn in
    test_out_of_memory g.S.Store a end (tests_then g.S.Store a b end (c.is_autocommit-idle.ensures.settled idle) _ c.in_ok-evidence.ensures.tests c.in_ok-ids.ensures.tests) c.from_residual-in_err-pass_evidence.result c.from_residual-in_err-pass_evidence.ensures.1

pub returns-clause-tests : goal.returns-clause-tests
returns-clause-tests g c =
    let idle : IsTrue c.is_autocommit-idle.result = search rules in
    let a = c.args.db.now.idle.conn in
    let mid = c.read_evidence.new.db.idle.conn in
    let end = c.read_ids.new.db.idle.conn in
    let evidence = c.in_ok-evidence.evidence.items in
    let ids = c.in_ok-ids.ids in
    let b = c.in_ok-pass_evidence.field-0 in
    let few = c.in_ok-pass_evidence.ensures.few in
    let verdict = subst (λ (l : List RawEvidence). IsTrue b ↔ AllPass l ids.rowids.items ids.fit ids.count) c.deref-2.ensures.value c.in_ok-pass_evidence.ensures.passes in
    let told = λ (db : Database) (it : JudgesIds (map version_at c.deref.result.now) db ids.rowids.items ids.fit ids.count). subst (λ (l : List RawEvidence). JudgesIds (map version_at l) db ids.rowids.items ids.fit ids.count) c.deref.ensures.value it in
    test_judged g.S.Store a end (tests_then g.S.Store a mid end (c.is_autocommit-idle.ensures.settled idle) _ c.in_ok-evidence.ensures.tests c.in_ok-ids.ensures.tests) c.require.result b c.require.ensures.ok c.require.ensures.err all_tables_known
    (λ db p sure. all_passed db evidence p.0 ids.rowids.items ids.fit ids.count (told db p.1) few (verdict.0 sure))
    (λ db p refused s. both_ways _ refused (verdict.1 (none_refused db evidence p.0 ids.rowids.items ids.fit ids.count (told db p.1) few s)))
