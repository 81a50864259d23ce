use Rattle.std.proofs.Common.{◌↔◌, List, subst}
use Rattle.std.specs.Prelude.{IsTrue}
use Rattle.std.specs.List.{AllByRecursion}
use Rattle.reg_tables.specs.declared.raw_texts.RawText.{RawText}
use Rattle.reg_tables.specs.Layout.{HasFiveTables}
use Rattle.reg_tables.specs.Listings.{ListsTextsBetween}
use Rattle.reg_tables.specs.Reads.{HoldsReadable}
use Rattle.reg_store.specs.Inside.TableChecks.{text_fits}
use Rattle.reg_store.proofs.CheckLemmas.{test_unread, test_read, test_tells}
use Rattle.reg_store.proofs.table_checks.texts.judge_some.Goals as goal

pub returns-in_err-lines-clause-tests : goal.returns-in_err-lines-clause-tests
returns-in_err-lines-clause-tests g c =
    test_unread g.S.Store c.args.db.now.idle.conn c.texts_between.new.db.conn c.from_residual.result c.in_err-lines.field-0.0 (λ can. can) c.args.db.now.unlimited c.in_err-lines.ensures.frame c.in_err-lines.ensures.fault c.in_err-lines.ensures.fault_or_unreadable c.from_residual.ensures.1

pub returns-clause-tests : goal.returns-clause-tests
returns-clause-tests g c =
    let lines = c.in_ok-lines.lines in
    let fit = c.in_ok-are_identities.field-0 in
    test_tells g.S.Store c.args.db.now.idle.conn c.texts_between.new.db.conn {P = λ l d. ListsTextsBetween c.args.first c.args.last d l.items}
    (test_read {Declared = HasFiveTables} {Spelled = HoldsReadable} g.S.Store c.args.db.now.idle.conn c.texts_between.new.db.conn lines c.in_ok-lines.ensures.frame c.in_ok-lines.ensures.listed) fit
    (λ db lists. record { lines = lines.items; lists = lists; judged = subst (λ (l : List RawText). IsTrue fit ↔ AllByRecursion text_fits l) c.deref.ensures.value c.in_ok-are_identities.ensures })
