use Rattle.std.proofs.Common.{inl, refl}
use Rattle.reg_tables.proofs.Steps.{turns_failed, turns_or, turns_then}
use Rattle.reg_tables.proofs.Transactions.{on_ok, if_err}
use Rattle.reg_tables.proofs.WriteFaults.{insert_fault_later}
use Rattle.reg_migrate.proofs.statements.extend.Goals as goal

pub returns-in_err-add_tables : goal.returns-in_err-add_tables
returns-in_err-add_tables g c = turns_failed (turns_or (λ e fault. inl (inl fault)) c.in_err-add_tables.ensures) c.from_residual.ensures.1

pub returns : goal.returns
returns g c = turns_then insert_fault_later (turns_or (λ e fault. inl (inl fault)) c.in_ok-add_tables.ensures) (record {
  frame = c.mark_layout_two.ensures.frame;
  made = λ clean. on_ok c.mark_layout_two.result (λ numbered contents holds. numbered _ (inl refl) contents holds) (c.mark_layout_two.ensures.changed clean);
  fault = λ clean. if_err c.mark_layout_two.result (λ e failed contents holds. failed _ (inl refl) contents holds) (c.mark_layout_two.ensures.fault clean);
})
