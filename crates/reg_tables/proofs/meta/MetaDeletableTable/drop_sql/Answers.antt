use Rattle.std.proofs.Common.{lit≤, refl, arith}
use Rattle.sqlite.specs.Listing.{understood}
use Rattle.sqlite_tied.specs.Compute.{everything}
use Rattle.reg_tables.proofs.LayoutTables.{meta_keyed, one_refers, one_no_action, in_both}
use Rattle.reg_tables.proofs.ForeignKeys.{beside_refers}
use Rattle.reg_tables.proofs.WellDeclared.{two_no_action}
use Rattle.reg_tables.proofs.meta.MetaDeletableTable.drop_sql.Goals as goal

pub returns-clause-keyed : goal.returns-clause-keyed
returns-clause-keyed c = meta_keyed

pub returns-clause-drops : goal.returns-clause-drops
unfolding understood everything
returns-clause-drops c = in_both _ (record { no_action = one_no_action 8; refers = one_refers; is = record { is = refl; plain = (refl, refl) }; whole = λ key. (lit≤ tt, refl); typed = λ key. refl }) (λ first indexes high s. record {
  no_action = two_no_action first indexes 8 (λ e. omega (arith, e));
  refers = beside_refers first indexes 8 (λ e. omega (arith, e)) (λ e. omega (arith, e)) (λ e. omega (arith, e, high)) (λ e. omega (arith, e, high));
  is = record { is = refl; plain = (refl, refl) };
  whole = λ key. (lit≤ tt, refl);
  typed = λ key. refl;
})
