use Rattle.std.proofs.Common.{refl}
use Rattle.reg_tables.proofs.Transactions.{if_ok, if_err}
use Rattle.reg_tables.proofs.modes.own_mode.Goals as goal

pub returns : goal.returns
returns g c = record {
  frame = c.find.ensures.frame;
  found = λ clean. if_ok c.find.result (λ found is schema known. is schema known c.args.subject.now (rw c.params-to_sql.ensures refl)) (c.find.ensures.found clean);
  fault = λ clean. if_err c.find.result (λ e fault. fault c.args.subject.now (rw c.params-to_sql.ensures refl)) (c.find.ensures.fault clean);
}
