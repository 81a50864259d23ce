use Rattle.std.proofs.Common.{lit≤, refl, pos}
use Rattle.sqlite.specs.Listing.{understood}
use Rattle.sqlite_tied.specs.Compute.{everything}
use Rattle.reg_tables.proofs.Statements.{four_terms}
use Rattle.reg_tables.proofs.KeyedTables.{cast-Null, cast-Int, cast-flag}
use Rattle.reg_tables.proofs.FailedVersions.{flag_passes}
use Rattle.reg_tables.proofs.LayoutTables.{versions_keyed}
use Rattle.reg_tables.proofs.Tables.{begins_in_two}
use Rattle.reg_tables.proofs.versions.VersionsInsertableTable.put_sql.Goals as goal

pub returns-clause-keyed : goal.returns-clause-keyed
returns-clause-keyed c = versions_keyed

pub returns-clause-puts : goal.returns-clause-puts
unfolding understood everything
returns-clause-puts c = begins_in_two _ (λ tables indexes. record {
  terms = four_terms;
  width = 5;
  is = record { is = refl; plain = (refl, refl) };
  whole = λ key value. (lit≤ tt, refl);
  typed = λ key value. refl;
  row = λ trees key value. rw (cast-Null, cast-Int (pos key.1), cast-Int (pos value.id), cast-flag value.deleted) refl;
  entry = λ id key value. (refl, refl);
  stands = λ id key value. record { typed = refl; present = refl; checked = flag_passes value.deleted };
})
