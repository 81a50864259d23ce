use Rattle.std.proofs.Common.{lit≤, refl, pos}
use Rattle.sqlite.specs.Listing.{understood}
use Rattle.sqlite_tied.specs.Compute.{everything}
use Rattle.reg_tables.proofs.Statements.{three_terms}
use Rattle.reg_tables.proofs.KeyedTables.{cast-Null, cast-Int}
use Rattle.reg_tables.proofs.LayoutTables.{evidence_keyed}
use Rattle.reg_tables.proofs.WellDeclared.{in_layout_two}
use Rattle.reg_tables.proofs.evidence.EvidenceInsertableTable.put_sql.Goals as goal

pub returns-clause-keyed : goal.returns-clause-keyed
returns-clause-keyed c = evidence_keyed

pub returns-clause-puts : goal.returns-clause-puts
unfolding understood everything
returns-clause-puts c = in_layout_two _ (λ first indexes high s. record {
  terms = three_terms;
  width = 4;
  is = record { is = refl; plain = (refl, refl) };
  whole = λ key value. (lit≤ tt, refl);
  typed = λ key value. refl;
  row = λ trees key value. rw (cast-Null, cast-Int (pos key.1)) refl;
  entry = λ id key value. (refl, refl);
  stands = λ id key value. record { typed = refl; present = refl; checked = refl };
})
