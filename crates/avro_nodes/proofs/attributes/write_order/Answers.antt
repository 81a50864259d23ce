use Rattle.std.proofs.Common.{Some, ap}
use Rattle.std.specs.Prelude.{codes}
use Rattle.std.proofs.lemmas.Result.{on_ok_weaker}
use Rattle.serde_json.specs.Data.{string}
use Rattle.serde_json.specs.View.{members_view}
use Rattle.avro_nodes.specs.Inside.Objects.{order_value}
use Rattle.avro_nodes.proofs.Written.{attribute_is}
use Rattle.avro_nodes.proofs.attributes.write_order.Goals as goal

pub returns-in-Descending : goal.returns-in-Descending
returns-in-Descending c =
    on_ok_weaker c.write_text.result (λ w. attribute_is (codes "order") (order_value c.args.order) (Some (string (codes "descending"))) (members_view c.args.others.now) (members_view c.write_text.new.others) c.args.out.now c.write_text.new.out (ap order_value c.in-Descending.is) w) c.write_text.ensures

pub returns-in-Ignore : goal.returns-in-Ignore
returns-in-Ignore c =
    on_ok_weaker c.write_text-in-Ignore.result
    (λ w. attribute_is (codes "order") (order_value c.args.order) (Some (string (codes "ignore"))) (members_view c.args.others.now) (members_view c.write_text-in-Ignore.new.others) c.args.out.now c.write_text-in-Ignore.new.out (ap order_value c.in-Ignore.is) w) c.write_text-in-Ignore.ensures
