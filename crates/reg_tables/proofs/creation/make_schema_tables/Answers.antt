use Rattle.reg_tables.specs.Changes.{no_contents}
use Rattle.reg_tables.proofs.CreationFaults.{texts_can_be, versions_can_be}
use Rattle.reg_tables.proofs.Statements.{makes_texts, makes_versions}
use Rattle.reg_tables.proofs.Steps.{turns_failed, makes_first, turns_from, makes_table, turns_then}
use Rattle.reg_tables.proofs.WriteFaults.{write_fault_later}
use Rattle.reg_tables.proofs.creation.make_schema_tables.Goals as goal

pub returns-in_err-run : goal.returns-in_err-run
returns-in_err-run g c = turns_failed (makes_first makes_texts texts_can_be c.in_err-run.ensures.frame c.in_err-run.ensures.runs c.in_err-run.ensures.failed) c.from_residual.ensures.1

pub returns : goal.returns
returns g c =
    let texts = makes_first makes_texts texts_can_be c.in_ok-run.ensures.frame c.in_ok-run.ensures.runs c.in_ok-run.ensures.failed in
    let versions = makes_table makes_versions versions_can_be c.run-2.ensures.frame c.run-2.ensures.runs c.run-2.ensures.failed in
    turns_then write_fault_later texts (turns_from (λ _. no_contents) (λ _ db holds. holds) versions)
