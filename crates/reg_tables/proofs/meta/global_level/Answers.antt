use Rattle.std.proofs.Common.{refl, codes}
use Rattle.reg_tables.proofs.Transactions.{if_ok, if_err}
use Rattle.reg_tables.proofs.meta.global_level.Goals as goal

pub returns : goal.returns
returns g c = record {
  frame = c.find.ensures.frame;
  found = λ clean. if_ok c.find.result (λ found is schema first. is schema first (codes "global") (rw c.params-to_sql.ensures refl)) (c.find.ensures.found clean);
  fault = λ clean. if_err c.find.result (λ e fault can. fault (codes "global") (rw c.params-to_sql.ensures refl) can) (c.find.ensures.fault clean);
}
