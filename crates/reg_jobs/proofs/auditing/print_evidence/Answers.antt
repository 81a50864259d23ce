use Rattle.std.proofs.Common.{subst, ◌∙◌}
use Rattle.reg_output.specs.Prefixes.{AppendsPrefix}
use Rattle.reg_jobs.proofs.auditing.print_evidence.Goals as goal

pub returns-else-write_whole : goal.returns-else-write_whole
returns-else-write_whole g c =
    let old = g.W.Write.contents c.args.writer.now in
    let new = g.W.Write.contents c.write_whole.new.writer in
    subst (AppendsPrefix old new) (c.as_bytes.ensures.value ∙ c.evidence_line.ensures) c.write_whole.ensures.front
