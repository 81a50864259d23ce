use Rattle.std.proofs.Common.{lit≤, refl, arith}
use Rattle.sqlite.specs.Listing.{understood}
use Rattle.sqlite_tied.specs.Compute.{everything}
use Rattle.reg_tables.specs.Layout.{layout_two, layout_two_indexed_last}
use Rattle.reg_tables.proofs.LayoutTables.{modes_keyed}
use Rattle.reg_tables.proofs.ForeignKeys.{beside_refers}
use Rattle.reg_tables.proofs.WellDeclared.{at_layout_two, two_no_action}
use Rattle.reg_tables.proofs.modes.ModesDeletableTable.drop_sql.Goals as goal

pub returns-clause-keyed : goal.returns-clause-keyed
returns-clause-keyed c = modes_keyed

pub returns-clause-drops : goal.returns-clause-drops
unfolding understood everything
returns-clause-drops c = at_layout_two _ (record { no_action = two_no_action 11 layout_two.indexes 11 (λ e. omega (arith, e)); refers = beside_refers 11 layout_two.indexes 11 (λ e. omega (arith, e)) (λ e. omega (arith, e)) (λ e. omega (arith, e)) (λ e. omega (arith, e)); is = record { is = refl; plain = (refl, refl) }; whole = λ key. (lit≤ tt, refl); typed = λ key. refl })
    (record { no_action = two_no_action 10 layout_two_indexed_last.indexes 10 (λ e. omega (arith, e)); refers = beside_refers 10 layout_two_indexed_last.indexes 10 (λ e. omega (arith, e)) (λ e. omega (arith, e)) (λ e. omega (arith, e)) (λ e. omega (arith, e)); is = record { is = refl; plain = (refl, refl) }; whole = λ key. (lit≤ tt, refl); typed = λ key. refl })
