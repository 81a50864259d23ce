use Rattle.std.proofs.Common.{sym, ◌∙◌, arith}
use Rattle.avro_schema.proofs.BorrowedReads.{no_value, no_plain}
use Rattle.avro_schema.proofs.schema.nodes_of.Goals as goal

pub returns-in_default : goal.returns-in_default
returns-in_default c =
    let none = sym c.in_ok-respelling.ensures ∙ sym c.in_default.ensures in
    no_value c.args.text.now (omega arith) (no_plain c.args.text.now none)
