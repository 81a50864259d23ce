use Rattle.reg_tables.proofs.Steps.{alters_failed, alters_then}
use Rattle.reg_tables.proofs.WriteFaults.{insert_fault_later}
use Rattle.reg_tables.proofs.meta.mark_layout_two.Goals as goal

pub returns-in_err-set_meta : goal.returns-in_err-set_meta
returns-in_err-set_meta g c = alters_failed c.in_err-set_meta.ensures c.from_residual.ensures.1

pub returns : goal.returns
returns g c = alters_then insert_fault_later c.in_ok-set_meta.ensures c.set_global_mode.ensures
