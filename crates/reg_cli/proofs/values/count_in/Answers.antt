use Rattle.reg_cli.proofs.Parses.{number_read}
use Rattle.reg_cli.proofs.values.count_in.Goals as goal

pub returns-in-Ok : goal.returns-in-Ok
returns-in-Ok c =
    let read = number_read 32 c.args.text.now c.parse.result c.parse.ensures.value.0 in
    rw c.in-Ok.is at read

pub returns-in-Err : goal.returns-in-Err
returns-in-Err c =
    let read = number_read 32 c.args.text.now c.parse.result c.parse.ensures.value.0 in
    rw c.in-Err.is at read
