use Rattle.std.proofs.Common.{ℕ, List, ◌++◌, codes, subst}
use Rattle.reg_jobs.specs.Migration.{PrintsLine}
use Rattle.reg_jobs.proofs.migration.print_kept.Goals as goal

pub returns : goal.returns
returns g c =
    subst (λ (digits : List ℕ). PrintsLine (codes "layout 2: " ++ (digits ++ codes " versions kept\n")) (g.W.Write.contents c.args.writer.now) (g.W.Write.contents c.print_parts.new.writer) c.print_parts.result)
    c.format-number.ensures.text c.print_parts.ensures
