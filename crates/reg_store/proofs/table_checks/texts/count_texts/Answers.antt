use Rattle.std.proofs.Common.{◌≡◌, ◌≤◌, ℕ, List, length, Err, sym, subst, ◌∙◌, arith}
use Rattle.std.proofs.lemmas.Bool.{both_ways}
use Rattle.std.proofs.lemmas.List.{map-id}
use Rattle.std.proofs.lemmas.List.Sorted.{IsNonDecreasingBy-from_sort}
use Rattle.sqlite.specs.Held.{state}
use Rattle.reg_core.specs.Registry.{max_number}
use Rattle.reg_rows.specs.Spelling.{AreConsecutive}
use Rattle.reg_tables.specs.Listings.{ListsTextIds}
use Rattle.reg_store.proofs.Numbering.{Rises, rises}
use Rattle.reg_store.proofs.CheckLemmas.{test_unread, test_read, test_judged, test_fails, test_tells, some_can_be_read, some_known}
use Rattle.reg_store.proofs.TextIds.{ids_fit, ids_sorted}
use Rattle.reg_store.proofs.table_checks.texts.count_texts.Goals as goal

pub returns-in_err-ids-clause-tests : goal.returns-in_err-ids-clause-tests
returns-in_err-ids-clause-tests g c =
    test_unread g.S.Store c.args.db.now.idle.conn c.text_ids.new.db.conn c.from_residual.result c.in_err-ids.field-0.0 (some_can_be_read (state g.S.Store c.args.db.now.idle.conn)) c.args.db.now.unlimited c.in_err-ids.ensures.frame c.in_err-ids.ensures.fault c.in_err-ids.ensures.fault_or_unreadable c.from_residual.ensures.1

pub returns-in_err-require-clause-tests : goal.returns-in_err-require-clause-tests
returns-in_err-require-clause-tests g c =
    let a = c.args.db.now.idle.conn in
    let b = c.text_ids.new.db.conn in
    let sorted = c.sort_unstable.new.self.items in
    let judged = test_judged g.S.Store a b {P = λ l d. ListsTextIds d l.items} (test_read g.S.Store a b c.in_ok-ids.ids c.in_ok-ids.ensures.frame c.in_ok-ids.ensures.listed) {Q = λ _ _. Unit {0}}
    (Err c.in_err-require.field-0.0) c.are_consecutive_ids.result tt c.in_err-require.ensures.err some_known (λ db lists yes. tt)
    (λ db lists no s.
    let rising : Rises sorted = subst Rises (map-id sorted) (rises (λ (n : ℕ). n) sorted (IsNonDecreasingBy-from_sort (λ (n : ℕ). n) sorted c.sort_unstable.ensures.sorted)) in
    let fit = ids_fit db s.stored s.spells sorted (ids_sorted db c.in_ok-ids.ids.items sorted c.sort_unstable.ensures.permutation lists) rising in
    both_ways _ no (c.are_consecutive_ids.ensures.1 (subst (λ (l : List ℕ). AreConsecutive 1 l × (length l ≤ max_number)) (sym c.deref.ensures.value) fit))) in
    test_fails g.S.Store a b c.from_residual-in_err-require.result _ judged c.from_residual-in_err-require.ensures.1

pub returns-clause-tests : goal.returns-clause-tests
returns-clause-tests g c =
    let a = c.args.db.now.idle.conn in
    let b = c.text_ids.new.db.conn in
    let sorted = c.sort_unstable.new.self.items in
    let fit = subst (λ (l : List ℕ). AreConsecutive 1 l × (length l ≤ max_number)) c.deref.ensures.value (c.are_consecutive_ids.ensures.0 c.in_ok-require.ensures.ok) in
    let few = fit.1 in
    let is : length sorted ≡ c.len.result = sym c.sort_unstable.new.self.ok.0 ∙ sym c.len.ensures in
    test_tells g.S.Store a b {P = λ l d. ListsTextIds d l.items} (test_read g.S.Store a b c.in_ok-ids.ids c.in_ok-ids.ensures.frame c.in_ok-ids.ensures.listed) c.len.result
    (λ db lists. record { ids = sorted; lists = ids_sorted db c.in_ok-ids.ids.items sorted c.sort_unstable.ensures.permutation lists; numbered = fit.0; is = is; few = omega (arith, few, is) })
