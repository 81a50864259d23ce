use Rattle.std.proofs.Common.{[], drop}
use Rattle.std.proofs.lemmas.Result.{on_ok_weaker}
use Rattle.avro_nodes.specs.Inside.Objects.{record_end}
use Rattle.avro_nodes.proofs.identity.types.end_record.Goals as goal

pub returns : goal.returns
returns c =
    let end = c.write_rest.new.out in
    let ps = record_end c.args.enclosing.now c.args.name.now in
    on_ok_weaker c.write_rest.result (λ rest. c.in_ok-write_text.ensures (drop 1 ps) end (c.in_ok-write_namespace.ensures (drop 2 ps) end (c.in_ok-write_text-2.ensures [] end rest))) c.write_rest.ensures
