use Rattle.std.proofs.Common.{lit≤, refl}
use Rattle.sqlite.specs.Listing.{understood}
use Rattle.sqlite_tied.specs.Compute.{everything}
use Rattle.reg_tables.proofs.Statements.{two_terms}
use Rattle.reg_tables.proofs.KeyedTables.{cast-Null}
use Rattle.reg_tables.proofs.LayoutTables.{levels_keyed}
use Rattle.reg_tables.proofs.Tables.{begins_in_two}
use Rattle.reg_tables.proofs.levels.LevelsInsertableTable.put_sql.Goals as goal

pub returns-clause-keyed : goal.returns-clause-keyed
returns-clause-keyed c = levels_keyed

pub returns-clause-puts : goal.returns-clause-puts
unfolding understood everything
returns-clause-puts c = begins_in_two _ (λ tables indexes. record {
  terms = two_terms;
  width = 3;
  is = record { is = refl; plain = (refl, refl) };
  whole = λ key value. (lit≤ tt, refl);
  typed = λ key value. refl;
  row = λ trees key value. rw cast-Null refl;
  entry = λ id key value. (refl, refl);
  stands = λ id key value. record { typed = refl; present = refl; checked = refl };
})
