use Rattle.std.proofs.Common.{rules, ◌≡◌, ◌≢◌, ◌∙◌, Bool, true, false, List, None, Some, refl, sym}
use Rattle.std.specs.Prelude.{Option}
use Rattle.std.proofs.lemmas.Bool.{both_ways}
use Rattle.reg_core.specs.declared.number.VersionChoice.{VersionChoice}
use Rattle.reg_core.specs.declared.number.VersionChoice.TheVariants.{Latest, Numbered}
use Rattle.reg_core.specs.DeletionCommands.{row_to_delete}
use Rattle.reg_core.specs.ReadCommands.{found_row}
use Rattle.reg_core.specs.Registry.{Row}
use Rattle.reg_core.specs.Rows.{rows_of, visible_rows}
use Rattle.reg_core.proofs.FewRows.{removes_shown, marks_shown}
use Rattle.reg_store.proofs.ReadLemmas.{may_retell}
use Rattle.reg_store.proofs.store.sufficient_rows.deletion_rows.Goals as goal
use Rattle.reg_store.proofs.store.sufficient_rows.deletion_rows.Goals.{in_default-via-in-Some-Latest+else-not-permanent, in_default-via-in-Some+in_default, in_default-via-in_default}

-- versions that suffice to choose one suffice to delete it, unless the last live one is soft-deleted
deletes : (permanent : Bool) (choice : Option VersionChoice) (seen all : List Row) → (permanent ≡ false → choice ≢ Some Latest) → found_row choice (visible_rows true seen) ≡ found_row choice (visible_rows true all)
    → row_to_delete permanent choice seen ≡ row_to_delete permanent choice all
deletes true choice seen all other told = removes_shown choice seen all told
deletes false None seen all other told = refl
deletes false (Some Latest) seen all other told = absurd (other refl refl)
deletes false (Some (Numbered number)) seen all other told = marks_shown number seen all told

pub returns-in_default : goal.returns-in_default
returns-in_default g c =
    let other : c.args.permanent ≡ false → c.args.choice ≢ Some Latest =
    elim c.in_default.branch [
      | in_default-via-in-Some-Latest+else-not-permanent w ↦ λ soft latest. both_ways c.args.permanent soft w.if-not-permanent.false
      | in_default-via-in-Some+in_default w ↦ λ soft latest. search rules
      | in_default-via-in_default w ↦ λ soft latest. (let none : None ≡ Some Latest = sym w.in_default.is ∙ latest in cc)
    ] in
    may_retell c.chosen_rows.ensures (λ was rows told. deletes c.args.permanent c.args.choice rows.items (rows_of was.registry c.args.subject.now) other told)
