use Rattle.std.proofs.Common.{[], ◌∷◌, lit≤, codes, refl}
use Rattle.reg_tables.proofs.Kit.{col}
use Rattle.sqlite.specs.Listing.{understood}
use Rattle.sqlite_tied.specs.Compute.{everything}
use Rattle.reg_tables.proofs.Statements.{with_any_tables}
use Rattle.reg_tables.proofs.LayoutTables.{reply_is_read}
use Rattle.reg_tables.proofs.kept.KeptKeyedTable.find_sql.Goals as goal

pub returns-clause-finds : goal.returns-clause-finds
unfolding understood everything
returns-clause-finds c = with_any_tables _ (λ tables indexes. record {
  shown = col 1 2 ∷ col 1 3 ∷ col 1 4 ∷ [];
  names = codes "command" ∷ codes "status" ∷ codes "body" ∷ [];
  is = record { command = record { is = refl; plain = (refl, refl) }; unlisted = refl };
  takes = λ key. record { whole = (lit≤ tt, refl); typed = refl };
  whole = λ row key. refl;
})

pub returns-clause-read : goal.returns-clause-read
returns-clause-read c = reply_is_read

pub returns-clause-readable : goal.returns-clause-readable
returns-clause-readable c contents readable key value is = (value, refl, (readable.kept key value is).1)
