use Rattle.std.proofs.Common.{[], ◌∷◌, lit≤, codes, refl}
use Rattle.reg_tables.proofs.Kit.{col}
use Rattle.sqlite.specs.Listing.{understood}
use Rattle.sqlite_tied.specs.Compute.{everything}
use Rattle.reg_tables.proofs.Tables.{at_both}
use Rattle.reg_tables.proofs.evidence.AgainstKeyedTable.find_sql.Goals as goal

pub returns-clause-finds : goal.returns-clause-finds
unfolding understood everything
returns-clause-finds c = at_both _ (λ indexes. record {
  shown = col 1 4 ∷ [];
  names = codes "id" ∷ [];
  is = record { command = record { is = refl; plain = (refl, refl) }; unlisted = refl };
  takes = λ key. record { whole = (lit≤ tt, refl); typed = refl };
  whole = λ row key. refl;
}) (λ indexes. record {
  shown = col 1 4 ∷ [];
  names = codes "id" ∷ [];
  is = record { command = record { is = refl; plain = (refl, refl) }; unlisted = refl };
  takes = λ key. record { whole = (lit≤ tt, refl); typed = refl };
  whole = λ row key. refl;
})

pub returns-clause-read : goal.returns-clause-read
returns-clause-read c found value is = cc

pub returns-clause-readable : goal.returns-clause-readable
returns-clause-readable c contents readable key value is = record { id = value; is = refl; low = (readable.against key value is).3 }
