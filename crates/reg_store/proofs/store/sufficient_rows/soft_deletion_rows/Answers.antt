use Rattle.std.proofs.Common.{◌≡◌, ◌∙◌, [], false, Some, sym, ap}
use Rattle.reg_core.specs.declared.number.VersionChoice.TheVariants.{Latest}
use Rattle.reg_core.specs.Compatibility.{latest}
use Rattle.reg_core.specs.DeletionCommands.{row_to_delete}
use Rattle.reg_core.specs.Rows.{live_rows, rows_of}
use Rattle.reg_core.proofs.DeletionSteps.{all_shown}
use Rattle.reg_core.proofs.FewRows.{marks_live, marks_none}
use Rattle.reg_store.proofs.ChosenLemmas.{no_rows, some_rows}
use Rattle.reg_store.proofs.ReadLemmas.{fail, tell, go_on, match_each}
use Rattle.reg_store.proofs.store.sufficient_rows.soft_deletion_rows.Goals as goal

pub returns-in_err-live : goal.returns-in_err-live
returns-in_err-live g c = fail c.in_err-live.ensures c.from_residual.ensures.1

pub returns-then-is_empty : goal.returns-then-is_empty
returns-then-is_empty g c =
    let none = no_rows c.in_ok-live.live (sym c.is_empty.ensures ∙ c.if-is_empty.true) in
    go_on c.in_ok-live.ensures c.last_rows-then-is_empty.ensures.may (λ was over live.
    let all = rows_of was.registry c.args.subject.now in
    let dead : latest (live_rows all) ≡ [] = sym live ∙ none in
    match_each c.last_rows-then-is_empty.result (λ rows is. ap (row_to_delete false (Some Latest)) (is ∙ ap latest (all_shown all)) ∙ marks_none all dead) (λ e h. h))

pub returns : goal.returns
returns g c =
    tell c.in_ok-live.ensures (λ was over live.
    marks_live c.in_ok-live.live.items (rows_of was.registry c.args.subject.now) live (some_rows c.in_ok-live.live (sym c.is_empty.ensures ∙ c.if-is_empty.false)))
