use Rattle.std.proofs.Common.{◌≤◌, ◌<◌, ap, sym, length, arith, IsTrue}
use Rattle.reg_tables.proofs.CheckLemmas.{root_tells}
use Rattle.reg_tables.proofs.declared.checks.are_version_checks.Goals as goal

pub returns-in-len1 : goal.returns-in-len1
returns-in-len1 c =
    let low : 1 ≤ length c.checks.inside.roots = omega (arith, ap length c.as_slice.ensures) in
    let high : length c.checks.inside.roots < 2 = omega (arith, ap length c.as_slice.ensures) in
    root_tells c.checks.inside.nodes c.checks.inside.roots _ (IsTrue c.is_check.result) c.args.checks.now (sym c.checks.view_is) low high (rw (c.as_slice-in-len1.ensures, c.as_slice.ensures) at c.is_check.ensures)
