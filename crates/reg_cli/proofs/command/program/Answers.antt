use Rattle.reg_cli.proofs.command.program.Goals as goal

pub returns : goal.returns
returns c =
    let one = c.in_ok-program.ensures _ _ c.in_ok-root_command.ensures c.run_command.ensures in
    let two = c.in_ok-program-2.ensures _ _ one c.serve_command.ensures in
    let three = c.in_ok-program-3.ensures _ _ two c.check_command.ensures in
    let four = c.in_ok-program-4.ensures _ _ three c.text_command.ensures in
    let five = c.in_ok-program-5.ensures _ _ four c.list_command.ensures in
    let six = c.in_ok-program-6.ensures _ _ five c.migrate_command.ensures in
    c.with_subcommand-7.ensures _ _ six c.audit_command.ensures
