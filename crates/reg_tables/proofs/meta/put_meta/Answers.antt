use Rattle.std.proofs.Common.{inl, refl}
use Rattle.reg_tables.specs.Layout.{layout_one}
use Rattle.reg_tables.proofs.Transactions.{on_both, if_err}
use Rattle.reg_tables.proofs.meta.put_meta.Goals as goal

pub returns : goal.returns
returns g c = record {
  frame = c.put.ensures.frame;
  made = λ clean. on_both c.put.result
      (λ put room about from. (
        put layout_one (inl refl) c.args.name.now c.args.value.now (rw (c.params-to_sql.ensures, c.params-to_sql-2.ensures) refl) about.0 from.0 from.1,
        room layout_one (inl refl) c.args.name.now c.args.value.now (rw (c.params-to_sql.ensures, c.params-to_sql-2.ensures) refl) about.0 from.0 from.1 about.1 from.2,
      ))
      (c.put.ensures.put clean) (c.put.ensures.room clean);
  fault = λ clean. if_err c.put.result (λ e fits about from. fits layout_one (inl refl) c.args.name.now c.args.value.now (rw (c.params-to_sql.ensures, c.params-to_sql-2.ensures) refl) about.0 from.0 from.1 refl about.1 from.2 from.3) (c.put.ensures.fits clean);
}
