use Rattle.std.proofs.Common.{◌++◌, subst}
use Rattle.reg_jobs.specs.Errors.{Puts}
use Rattle.reg_jobs.specs.Names.{shown_name}
use Rattle.reg_jobs.specs.Outcomes.{text_of_parts}
use Rattle.reg_jobs.proofs.LineLemmas.{Puts-append}
use Rattle.reg_jobs.proofs.line.put_line.Goals as goal

pub returns : goal.returns
returns g c =
    let contents = g.E.Write.contents in
    let line = c.args.line in
    Puts-append contents c.args.errors.now c.put.new.self c.put_parts.new.errors line.front.now (shown_name line.name.now ++ text_of_parts line.rest)
    (subst (Puts contents c.args.errors.now c.put.new.self) c.as_bytes.ensures.value c.put.ensures)
    (Puts-append contents c.put.new.self c.put_name.new.errors c.put_parts.new.errors (shown_name line.name.now) (text_of_parts line.rest) c.put_name.ensures.puts c.put_parts.ensures)
