use Rattle.std.proofs.Common.{◌≡◌, ◌==◌, ◌∙◌, List, [], ◌∷◌, true, false, true≢false, map, length, refl, sym, ap}
use Rattle.std.specs.Prelude.{Option, None, Some, option_copied}
use Rattle.std.specs.Borrow.{Bor}
use Rattle.std.specs.List.{last_or}
use Rattle.std.specs.Option.{ok_or, option_eq}
use Rattle.std.specs.Result.{result_map_both}
use Rattle.reg_core.specs.declared.code.Code.{Code}
use Rattle.reg_core.specs.declared.code.Code.TheVariants.{SubjectSoftDeleted}
use Rattle.reg_core.specs.declared.number.VersionChoice.{VersionChoice}
use Rattle.reg_core.specs.declared.number.VersionChoice.TheVariants.{Latest, Numbered}
use Rattle.reg_core.specs.contracts.number.VersionChoicePartialEq.TheImpl.{eq-value}
use Rattle.reg_core.specs.DeletionCommands.{row_to_soft_delete}
use Rattle.reg_core.specs.Registry.{Row}
use Rattle.reg_core.specs.Rows.{live_rows}
use Rattle.reg_core.proofs.decision.deleting.row_to_soft_delete.Goals as goal

latest_is : (choice : Option VersionChoice) → true ≡ option_eq eq-value.it choice (Some Latest) → choice ≡ Some Latest
latest_is None e = absurd (true≢false e)
latest_is (Some Latest) e = refl
latest_is (Some (Numbered number)) e = absurd (true≢false e)

-- the view of the found version, or the error
seen_or : (found : Option (Bor Row)) (code : Code) → result_map_both (λ (row : Bor Row). row.now) (λ code. code) (ok_or found code) ≡ ok_or (option_copied found) code
seen_or None code = refl
seen_or (Some row) code = refl

latest_marked : (rows : List (Bor Row)) (live : List Row) → live ≡ live_rows (map (λ (row : Bor Row). row.now) rows) → false ≡ (length rows == 0)
    → ok_or (last_or None live) SubjectSoftDeleted ≡ row_to_soft_delete (Some Latest) (map (λ (row : Bor Row). row.now) rows)
latest_marked [] live is some = absurd (true≢false (sym some))
latest_marked (row ∷ rows) live is some = ap (λ l. ok_or (last_or None l) SubjectSoftDeleted) is

pub returns-then-not-is_empty : goal.returns-then-not-is_empty
returns-then-not-is_empty c shown =
    rw (latest_is c.args.choice c.if-eq.ensures)
    (ap (result_map_both (λ (row : Bor Row). row.now) (λ code. code)) c.ok_or.ensures.value
    ∙ seen_or c.chosen_row.result SubjectSoftDeleted
    ∙ ap (λ o. ok_or o SubjectSoftDeleted) c.chosen_row.ensures
    ∙ latest_marked c.args.rows.now _ shown (sym c.if-not-is_empty.true ∙ c.is_empty.ensures))
