use Rattle.std.proofs.Common.{◌≡◌, ◌++◌, subst, not, ap, ◌∙◌, arith, if◌then◌else◌, string_bytes}
use Rattle.std.specs.Prelude.{encode_utf8}
use Rattle.reg_output.specs.Prefixes.{AppendsPrefix}
use Rattle.avro_nodes.specs.Nodes.{nodes_view}
use Rattle.reg_jobs.specs.Files.{identity_line}
use Rattle.reg_jobs.proofs.files.print_text.Goals as goal

pub returns : goal.returns
returns g c =
    let old = g.W.Write.contents c.args.writer.now in
    let new = g.W.Write.contents c.write_whole.new.writer in
    let bytes = c.as_bytes.result.now in
    let on = c.is_err.ensures.negation ∙ ap not c.if-is_err.false in
    let text = string_bytes c.in-Ok-text.text in
    let line : bytes ≡ identity_line (nodes_view c.in-Ok.schema) =
    c.as_bytes.ensures.value
    ∙ (c.push.ensures.bytes
    ∙ (ap (λ b. if b then text ++ encode_utf8 10 else text) on
    ∙ (λ i. c.in-Ok-text.ensures.text i ++ c.push.ensures.ascii (omega arith) i))) in
    (nodes_view c.in-Ok.schema, c.in-Ok.ensures, subst (AppendsPrefix old new) line c.write_whole.ensures.front)
