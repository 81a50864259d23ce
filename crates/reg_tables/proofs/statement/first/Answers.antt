use Rattle.std.proofs.Common.{◌≡◌, ◌∙◌, inl, inr, List, [], ◌∷◌, All, Some, slice_get, sym, ap, subst, arith}
use Rattle.reg_tables.proofs.Kit.{option_map, Row}
use Rattle.reg_tables.proofs.Transactions.{if_err_is, stays_read, stays_unread}
use Rattle.reg_tables.proofs.statement.first.Goals as goal

first_of_all : (P : Row → Type 0) (rows : List Row) (row : Row) → Some row ≡ slice_get rows 0 → All P rows → P row
first_of_all P [] row is all = absurd (cc)
first_of_all P (x ∷ rows) row is all = let same : x ≡ row = cc in subst P same (all 0 x (omega arith))

pub returns-in-None-clause-read : goal.returns-in-None-clause-read
returns-in-None-clause-read g c clean =
    let shown = c.in_ok-rows.ensures.shown clean in
    (shown.0, c.in_ok-rows.rows.items, shown.1, ap (option_map g.L.FromRow.cells_read) (sym (c.in-None.ensures.value ∙ ap (λ (l : List Row). slice_get l 0) c.deref.ensures.value)))

pub returns-clause-read : goal.returns-clause-read
returns-clause-read g c clean =
    let shown = c.in_ok-rows.ensures.shown clean in
    let row = c.in-Some.ensures.value ∙ ap (λ (l : List Row). slice_get l 0) c.deref.ensures.value in
    (shown.0, c.in_ok-rows.rows.items, shown.1, ap (option_map g.L.FromRow.cells_read) (sym row) ∙ ap Some c.in_ok-read-in-Some.ensures.ok)

pub returns-in_err-rows-clause-failed : goal.returns-in_err-rows-clause-failed
returns-in_err-rows-clause-failed g c clean =
    let failed = c.in_err-rows.ensures.failed clean in
    if_err_is c.from_residual.result _ c.in_err-rows.field-0.0 c.from_residual.ensures.1 (failed.0, inl (failed.1, failed.2))

pub returns-in_err-read-in-Some-clause-failed : goal.returns-in_err-read-in-Some-clause-failed
returns-in_err-read-in-Some-clause-failed g c clean =
    let shown = c.in_ok-rows.ensures.shown clean in
    let row = c.in-Some.ensures.value ∙ ap (λ (l : List Row). slice_get l 0) c.deref.ensures.value in
    if_err_is c.from_residual-in_err-read-in-Some.result _ c.in_err-read-in-Some.field-0.0 c.from_residual-in_err-read-in-Some.ensures.1
    (shown.0, inr (c.in_ok-rows.rows.items, shown.1, (λ all. c.in_err-read-in-Some.ensures.err (first_of_all g.L.FromRow.is_readable c.in_ok-rows.rows.items c.in-Some.row.now row all)), c.in_err-read-in-Some.ensures.reading_error))

pub returns-in_err-rows-clause-frame : goal.returns-in_err-rows-clause-frame
returns-in_err-rows-clause-frame g c = stays_unread g.S.Store c.args.db.now.conn c.ask.new.db.conn c.from_residual.result c.in_err-rows.field-0.0 c.in_err-rows.ensures.frame c.from_residual.ensures.1

pub returns-in_err-read-in-Some-clause-frame : goal.returns-in_err-read-in-Some-clause-frame
returns-in_err-read-in-Some-clause-frame g c = stays_read g.S.Store c.args.db.now.conn c.ask.new.db.conn c.from_residual-in_err-read-in-Some.result c.in_ok-rows.ensures.frame
