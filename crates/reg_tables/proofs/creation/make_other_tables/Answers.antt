use Rattle.reg_tables.proofs.CreationFaults.{levels_can_be, kept_can_be, meta_can_be}
use Rattle.reg_tables.proofs.Statements.{makes_levels, makes_kept, makes_meta}
use Rattle.reg_tables.proofs.Steps.{turns_failed, makes_table, turns_then}
use Rattle.reg_tables.proofs.WriteFaults.{write_fault_later}
use Rattle.reg_tables.proofs.creation.make_other_tables.Goals as goal

pub returns-in_err-run : goal.returns-in_err-run
returns-in_err-run g c = turns_failed (makes_table makes_levels levels_can_be c.in_err-run.ensures.frame c.in_err-run.ensures.runs c.in_err-run.ensures.failed) c.from_residual.ensures.1

pub returns-in_err-run-2 : goal.returns-in_err-run-2
returns-in_err-run-2 g c =
    let one = makes_table makes_levels levels_can_be c.in_ok-run.ensures.frame c.in_ok-run.ensures.runs c.in_ok-run.ensures.failed in
    turns_failed (turns_then write_fault_later one (makes_table makes_kept kept_can_be c.in_err-run-2.ensures.frame c.in_err-run-2.ensures.runs c.in_err-run-2.ensures.failed)) c.from_residual-in_err-run-2.ensures.1

pub returns : goal.returns
returns g c =
    let one = makes_table makes_levels levels_can_be c.in_ok-run.ensures.frame c.in_ok-run.ensures.runs c.in_ok-run.ensures.failed in
    let two = makes_table makes_kept kept_can_be c.in_ok-run-2.ensures.frame c.in_ok-run-2.ensures.runs c.in_ok-run-2.ensures.failed in
    turns_then write_fault_later (turns_then write_fault_later one two) (makes_table makes_meta meta_can_be c.run-3.ensures.frame c.run-3.ensures.runs c.run-3.ensures.failed)
