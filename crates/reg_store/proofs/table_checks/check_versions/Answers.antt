use Rattle.std.proofs.Common.{◌∙◌, List, map, Err, sym, subst}
use Rattle.std.specs.List.{AllByRecursion}
use Rattle.sqlite.specs.Held.{state}
use Rattle.reg_tables.specs.declared.versions.RawVersion.{RawVersion}
use Rattle.reg_tables.specs.Layout.{HasFiveTables}
use Rattle.reg_tables.specs.Listings.{ListsVersions}
use Rattle.reg_store.specs.Opening.{HasVersionRows}
use Rattle.reg_store.specs.Inside.Reads.{SpellsBase}
use Rattle.reg_store.specs.Inside.TableChecks.{AreDistinct, SpellsSome, version_fits}
use Rattle.reg_store.specs.Failures.{HasNoLayoutNumber}
use Rattle.reg_store.proofs.Failing.{numberless, passed}
use Rattle.reg_store.proofs.CheckLemmas.{test_unread, test_read, test_lines, test_fails, test_tells, some_can_be_read, some_known, versions_pass, versions_counted}
use Rattle.reg_store.proofs.table_checks.check_versions.Goals as goal

pub returns-in_err-lines-clause-tests : goal.returns-in_err-lines-clause-tests
returns-in_err-lines-clause-tests g c =
    test_unread g.S.Store c.args.db.now.idle.conn c.raw_versions.new.db.conn c.from_residual.result c.in_err-lines.field-0.0 (some_can_be_read (state g.S.Store c.args.db.now.idle.conn)) c.args.db.now.unlimited c.in_err-lines.ensures.frame c.in_err-lines.ensures.fault c.in_err-lines.ensures.fault_or_unreadable c.from_residual.ensures.1

pub returns-in_err-lines-clause-plain : goal.returns-in_err-lines-clause-plain
returns-in_err-lines-clause-plain g c = passed HasNoLayoutNumber c.from_residual.result _ c.from_residual.ensures.1 (numberless c.in_err-lines.field-0.0)

pub returns-in_err-require-clause-tests : goal.returns-in_err-require-clause-tests
returns-in_err-require-clause-tests g c =
    let a = c.args.db.now.idle.conn in
    let b = c.raw_versions.new.db.conn in
    let judged = test_lines {Declared = HasFiveTables} {Spelled = SpellsSome SpellsBase} {Lists = ListsVersions} {rowid_of = λ (line : RawVersion). line.rowid} {fits = version_fits} g.S.Store a b c.in_ok-lines.lines c.in_ok-lines.ensures.frame c.in_ok-lines.ensures.listed _ c.deref.ensures.value c.in_ok-pass.field-0 c.in_ok-pass.ensures
    (Err c.in_err-require.field-0.0) tt c.in_err-require.ensures.err some_known (λ db s lists. versions_pass db s.stored s.spells _ lists) in
    test_fails g.S.Store a b c.from_residual-in_err-require.result _ judged c.from_residual-in_err-require.ensures.1

pub returns-clause-tests : goal.returns-clause-tests
returns-clause-tests g c =
    let a = c.args.db.now.idle.conn in
    let b = c.raw_versions.new.db.conn in
    let lines = c.in_ok-lines.lines.items in
    let Passes : List RawVersion → Type 0 = λ l. AreDistinct (map (λ (line : RawVersion). line.rowid) l) × AllByRecursion version_fits l in
    test_tells g.S.Store a b {P = λ l d. ListsVersions d l.items} (test_read g.S.Store a b c.in_ok-lines.lines c.in_ok-lines.ensures.frame c.in_ok-lines.ensures.listed) c.len.result
    (λ db lists.
    let both = subst Passes c.deref.ensures.value (c.in_ok-pass.ensures.0 c.in_ok-require.ensures.ok) in
    (record { lines = lines; lists = lists; apart = both.0; fit = both.1 }, subst (HasVersionRows db) (sym c.in_ok-lines.lines.ok.0 ∙ sym c.len.ensures) (versions_counted db lines lists)))
