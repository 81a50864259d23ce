use Rattle.std.proofs.Common.{subst, ◌∙◌}
use Rattle.reg_output.specs.Prefixes.{AppendsPrefix}
use Rattle.reg_http.proofs.writing.send.Goals as goal

pub returns-clause-front : goal.returns-clause-front
returns-clause-front g c =
    let old = g.W.Write.contents c.args.writer.now in
    let new = g.W.Write.contents c.write_whole.new.writer in
    subst (AppendsPrefix old new) (c.as_bytes.ensures.value ∙ c.in-Ok.ensures) c.write_whole.ensures.front
