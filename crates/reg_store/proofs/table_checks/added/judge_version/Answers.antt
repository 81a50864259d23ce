use Rattle.std.proofs.Common.{◌≡◌, ◌↔◌, ℕ, ◌++◌, List, refl, subst, ap, ◌∙◌, rules}
use Rattle.std.specs.Prelude.{IsTrue, string_bytes}
use Rattle.sqlite.specs.Held.{state}
use Rattle.reg_tables.specs.declared.evidence.RawAgainst.{RawAgainst}
use Rattle.reg_tables.specs.Listings.{ListsAgainstOf}
use Rattle.reg_tables.specs.Layout.{HasEightTables}
use Rattle.reg_store.specs.Spells.{SpellsUnopened}
use Rattle.reg_store.specs.Failures.{HasNoLayoutNumber}
use Rattle.reg_store.specs.Inside.TableChecks.{SpellsSome, ArePositionsContiguous, rowids_in}
use Rattle.reg_store.proofs.Failing.{numberless, passed}
use Rattle.reg_store.proofs.LayoutTwoChecks.{some_can_read_all}
use Rattle.reg_store.proofs.CheckLemmas.{test_unread, test_read, test_tells}
use Rattle.reg_store.proofs.table_checks.added.judge_version.Goals as goal

pub returns-in_err-lines-clause-tests : goal.returns-in_err-lines-clause-tests
returns-in_err-lines-clause-tests g c =
    test_unread g.S.Store c.args.db.now.idle.conn c.against_of.new.db.conn c.from_residual.result c.in_err-lines.field-0.0 (some_can_read_all (state g.S.Store c.args.db.now.idle.conn)) c.args.db.now.unlimited c.in_err-lines.ensures.frame c.in_err-lines.ensures.fault c.in_err-lines.ensures.fault_or_unreadable c.from_residual.ensures.1

pub returns-clause-tests : goal.returns-clause-tests
returns-clause-tests g c =
    let lines = c.in_ok-lines.lines.items in
    let fit = c.in_ok-are_positions_contiguous.field-0 in
    let text : c.as_str.result.now ≡ string_bytes c.args.evidence_row.now.subject = search rules in
    let a = c.args.db.now.idle.conn in
    let b = c.against_of.new.db.conn in
    test_tells g.S.Store a b {P = λ l d. ListsAgainstOf (c.as_str.result.now, c.args.evidence_row.now.version) d l.items} (test_read {Declared = HasEightTables} {Spelled = SpellsSome SpellsUnopened} g.S.Store a b c.in_ok-lines.lines c.in_ok-lines.ensures.frame c.in_ok-lines.ensures.listed) fit
    (λ db lists. (
      rowids_in lines,
      c.in_ok-add_rowids.ensures ∙ ap (λ (l : List RawAgainst). c.args.rowids.now.items ++ rowids_in l) c.deref.ensures.value,
      record { lines = lines; lists = subst (λ (s : List ℕ). ListsAgainstOf (s, c.args.evidence_row.now.version) db lines) text lists; have = refl; judged = subst (λ (l : List RawAgainst). IsTrue fit ↔ ArePositionsContiguous l) c.deref-2.ensures.value c.in_ok-are_positions_contiguous.ensures },
    ))

pub returns-in_err-lines-clause-plain : goal.returns-in_err-lines-clause-plain
returns-in_err-lines-clause-plain g c = passed HasNoLayoutNumber c.from_residual.result _ c.from_residual.ensures.1 (numberless c.in_err-lines.field-0.0)
