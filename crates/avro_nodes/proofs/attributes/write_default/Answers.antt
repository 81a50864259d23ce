use Rattle.std.proofs.Common.{option_map, ap}
use Rattle.std.specs.Prelude.{codes}
use Rattle.std.proofs.lemmas.Result.{on_ok_weaker}
use Rattle.serde_json.specs.View.{view, members_view}
use Rattle.avro_nodes.proofs.Written.{attribute_written}
use Rattle.avro_nodes.proofs.attributes.write_default.Goals as goal

pub returns : goal.returns
returns c =
    on_ok_weaker c.write_value.result (λ w.
    attribute_written (codes "default") (option_map view c.args.value.now) (view c.in-Some.value) (members_view c.args.others.now) (members_view c.write_name.new.others) c.args.out.now c.write_name.new.out c.write_value.new.out (ap (option_map view) c.in-Some.is) c.in_ok-write_name.ensures w)
    c.write_value.ensures
