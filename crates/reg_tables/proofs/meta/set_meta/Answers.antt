use Rattle.std.proofs.Common.{inr, refl}
use Rattle.reg_tables.proofs.Transactions.{on_ok, if_err}
use Rattle.reg_tables.proofs.meta.set_meta.Goals as goal

pub returns : goal.returns
returns g c = record {
  frame = c.set.ensures.frame;
  changed = λ clean. on_ok c.set.result (λ set schema written. set schema (inr written) c.args.name.now c.args.value.now (rw c.params-to_sql.ensures refl) (rw (c.params-to_sql-2.ensures, c.params-to_sql-3.ensures) refl)) (c.set.ensures.set clean);
  fault = λ clean. if_err c.set.result
      (λ e fault schema written contents holds. fault schema (inr written) c.args.name.now c.args.value.now (rw c.params-to_sql.ensures refl) (rw (c.params-to_sql-2.ensures, c.params-to_sql-3.ensures) refl) contents holds refl)
      (c.set.ensures.fault clean);
}
