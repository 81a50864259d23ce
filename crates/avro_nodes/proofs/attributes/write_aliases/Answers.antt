use Rattle.std.proofs.Common.{length, sym, ◌∙◌, true≢false}
use Rattle.std.proofs.lemmas.Bool.{eq-eqb}
use Rattle.std.specs.Prelude.{codes}
use Rattle.std.proofs.lemmas.Result.{on_ok_weaker}
use Rattle.serde_json.specs.View.{members_view}
use Rattle.serde_json.specs.Data.{array}
use Rattle.avro_nodes.specs.Nodes.{texts_view}
use Rattle.avro_nodes.specs.Identity.{texts as json_texts}
use Rattle.avro_nodes.specs.Inside.Objects.{texts_value}
use Rattle.avro_nodes.proofs.Written.{attribute_written, texts_value_is}
use Rattle.avro_nodes.proofs.attributes.write_aliases.Goals as goal

pub returns : goal.returns
returns c =
    let texts = texts_view c.args.aliases.now in
    on_ok_weaker c.write_texts.result (λ w.
    attribute_written (codes "aliases") (texts_value texts) (array (json_texts texts)) (members_view c.args.others.now) (members_view c.write_name.new.others) c.args.out.now c.write_name.new.out c.write_texts.new.out (texts_value_is c.args.aliases.now (λ e. true≢false (sym (eq-eqb (length c.args.aliases.now) 0 e) ∙ sym c.is_empty.ensures ∙ c.if-is_empty.false))) c.in_ok-write_name.ensures w)
    c.write_texts.ensures
