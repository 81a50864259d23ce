use Rattle.std.proofs.Common.{refl}
use Rattle.reg_tables.proofs.Transactions.{on_ok, if_err}
use Rattle.reg_tables.proofs.modes.drop_mode.Goals as goal

pub returns : goal.returns
returns g c = record {
  frame = c.delete.ensures.frame;
  changed = λ clean. on_ok c.delete.result (λ dropped schema written. dropped schema written c.args.subject.now (rw c.params-to_sql.ensures refl)) (c.delete.ensures.dropped clean);
  fault = λ clean. if_err c.delete.result (λ e fault schema written. fault schema written c.args.subject.now (rw c.params-to_sql.ensures refl)) (c.delete.ensures.fault clean);
}
