use Rattle.std.proofs.Common.{refl}
use Rattle.reg_tables.proofs.Kit.{string_bytes}
use Rattle.reg_tables.proofs.KeyedFinds.{mapped_if}
use Rattle.reg_tables.proofs.Transactions.{if_ok, if_err}
use Rattle.reg_tables.proofs.evidence.evidence_level_of.Goals as goal

pub returns : goal.returns
returns g c = record {
  frame = c.find.ensures.frame;
  found = λ clean. if_ok c.find.result (λ found is schema known contents holds. mapped_if string_bytes found _ (is schema known (c.args.subject.now, c.args.number) (rw (c.params-to_sql.ensures, c.params-to_sql-2.ensures) refl) contents holds)) (c.find.ensures.found clean);
  fault = λ clean. if_err c.find.result (λ e fault. fault (c.args.subject.now, c.args.number) (rw (c.params-to_sql.ensures, c.params-to_sql-2.ensures) refl)) (c.find.ensures.fault clean);
}
