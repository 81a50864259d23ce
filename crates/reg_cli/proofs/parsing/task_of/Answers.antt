use Rattle.std.proofs.Common.{◌≡◌, ◌∙◌, ap, sym, subst, map, string_bytes, Some, None, List, MatchResult, Option}
use Rattle.std.specs.Prelude.{option_and_then}
use Rattle.clap.specs.Words.{Row, Text, app_of, found_of, rows_of, subcommand_rows_of}
use Rattle.reg_cli.specs.Line.{task_in}
use Rattle.reg_cli.specs.Tasks.{TaskView, IsUsage, task_view}
use Rattle.reg_cli.proofs.Taking.{pair_from, refused, taken}
use Rattle.reg_cli.proofs.parsing.task_of.Goals as goal

pub returns-in-Some : goal.returns-in-Some
returns-in-Some c =
    let is = taken (app_of c.in_ok-program.field-0) c.in_ok-program.ensures.shape (map string_bytes c.args.arguments.now) c.in-Ok.ensures.kinds c.in-Ok.matches c.in-Ok.ensures.matches in
    let entered : subcommand_rows_of c.in-Ok.matches ≡ Some (c.in-Some.name.now, rows_of (found_of c.in-Some.inner.now)) =
    pair_from _ _ _ _ _ c.in-Some.ensures.name c.in-Some.ensures.rows in
    let all = is ∙ ap (option_and_then (λ (found : Text × List Row). task_in found.0 found.1)) entered in
    subst (λ (o : Option TaskView). MatchResult c.task_in.result (λ task. o ≡ Some (task_view task)) (λ fault. IsUsage fault → o ≡ None)) (sym all) c.task_in.ensures

pub returns : goal.returns
returns c usage =
    refused (app_of c.in_ok-program.field-0) c.in_ok-program.ensures.shape (map string_bytes c.args.arguments.now) c.in-Err.error c.in-Err.ensures.kinds (c.line_fault_of.ensures usage)
