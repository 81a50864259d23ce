use Rattle.std.proofs.Common.{inl, refl}
use Rattle.reg_tables.specs.Changes.{no_contents}
use Rattle.reg_tables.specs.Layout.{layout_one, layout_one_unindexed}
use Rattle.reg_tables.proofs.Steps.{turns_failed, turns_from, turns_then}
use Rattle.reg_tables.proofs.WriteFaults.{write_fault_later}
use Rattle.reg_tables.proofs.creation.make_tables.Goals as goal

pub returns-in_err-make_schema_tables : goal.returns-in_err-make_schema_tables
returns-in_err-make_schema_tables g c = turns_failed c.in_err-make_schema_tables.ensures c.from_residual.ensures.1

pub returns-in_err-make_other_tables : goal.returns-in_err-make_other_tables
returns-in_err-make_other_tables g c =
    turns_failed (turns_then write_fault_later c.in_ok-make_schema_tables.ensures (turns_from (λ _. no_contents) (λ _ db holds. holds) c.in_err-make_other_tables.ensures)) c.from_residual-in_err-make_other_tables.ensures.1

pub returns : goal.returns
returns g c =
    let tables = turns_then write_fault_later c.in_ok-make_schema_tables.ensures (turns_from (λ _. no_contents) (λ _ db holds. holds) c.in_ok-make_other_tables.ensures) in
    turns_then write_fault_later tables (turns_from (λ _. (layout_one_unindexed, layout_one, no_contents)) (λ _ db holds. (inl (refl, refl), holds)) c.index_versions.ensures)
