use Rattle.std.proofs.lemmas.Result.{on_ok_weaker}
use Rattle.serde_json.specs.View.{members_view}
use Rattle.avro_nodes.proofs.Written.{text_written}
use Rattle.avro_nodes.proofs.attributes.write_text.Goals as goal

pub returns : goal.returns
returns c = on_ok_weaker c.string.result (λ e. text_written c.args.key.now c.args.text.now (members_view c.args.others.now) (members_view c.write_name.new.others) c.args.out.now c.write_name.new.out c.string.new.self c.in_ok-write_name.ensures e) c.string.ensures
