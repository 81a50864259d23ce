use Rattle.std.proofs.Common.{[], ◌∷◌, lit≤, codes, refl}
use Rattle.reg_tables.proofs.Kit.{col}
use Rattle.sqlite.specs.Listing.{understood}
use Rattle.sqlite_tied.specs.Compute.{everything}
use Rattle.reg_tables.proofs.Statements.{with_any_tables}
use Rattle.reg_tables.proofs.LayoutTables.{text_is_read}
use Rattle.reg_tables.proofs.texts.TextsKeyedTable.find_sql.Goals as goal

pub returns-clause-finds : goal.returns-clause-finds
unfolding understood everything
returns-clause-finds c = with_any_tables _ (λ tables indexes. record {
  shown = col 1 2 ∷ [];
  names = codes "text" ∷ [];
  is = record { command = record { is = refl; plain = (refl, refl) }; unlisted = refl };
  takes = λ key. record { whole = (lit≤ tt, refl); typed = refl };
  whole = λ row key. refl;
})

pub returns-clause-read : goal.returns-clause-read
returns-clause-read c = text_is_read

pub returns-clause-readable : goal.returns-clause-readable
returns-clause-readable c contents readable key value is = (value, refl, (readable.texts key value is).1)
