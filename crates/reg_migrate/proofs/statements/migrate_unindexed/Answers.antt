use Rattle.std.proofs.Common.{inl, refl}
use Rattle.reg_tables.specs.Layout.{layout_one, layout_one_unindexed}
use Rattle.reg_tables.proofs.Steps.{turns_failed, turns_from, turns_or, turns_then}
use Rattle.reg_tables.proofs.WriteFaults.{insert_fault_later}
use Rattle.reg_migrate.proofs.statements.migrate_unindexed.Goals as goal

pub returns-in_err-index_versions : goal.returns-in_err-index_versions
returns-in_err-index_versions g c =
    let indexed = turns_from (λ contents. (layout_one_unindexed, layout_one, contents)) (λ contents db holds. (inl (refl, refl), holds)) c.in_err-index_versions.ensures in
    turns_failed (turns_or (λ e fault. inl (inl fault)) indexed) c.from_residual.ensures.1

pub returns : goal.returns
returns g c =
    let indexed = turns_from (λ contents. (layout_one_unindexed, layout_one, contents)) (λ contents db holds. (inl (refl, refl), holds)) c.in_ok-index_versions.ensures in
    turns_then insert_fault_later (turns_or (λ e fault. inl (inl fault)) indexed) c.extend.ensures
