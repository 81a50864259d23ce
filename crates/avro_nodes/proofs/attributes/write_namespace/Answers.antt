use Rattle.std.proofs.Common.{[], Some, length, sym, ◌∙◌, true≢false}
use Rattle.std.proofs.lemmas.Bool.{eq-eqb}
use Rattle.std.specs.Prelude.{codes}
use Rattle.std.proofs.lemmas.Result.{on_ok_weaker}
use Rattle.serde_json.specs.Data.{string}
use Rattle.serde_json.specs.View.{members_view}
use Rattle.avro_nodes.specs.Inside.Objects.{namespace_value}
use Rattle.avro_nodes.proofs.Written.{attribute_is, namespace_value_is}
use Rattle.avro_nodes.proofs.attributes.write_namespace.Goals as goal

pub returns : goal.returns
returns c =
    let is = namespace_value_is c.args.enclosing.now c.args.name.now (λ e. true≢false (sym (eq-eqb (length c.args.enclosing.now) 0 e) ∙ sym c.is_empty.ensures ∙ c.if-is_empty.false)) (sym c.has_dot.ensures ∙ c.if-has_dot.false) in
    on_ok_weaker c.write_text.result (λ w. attribute_is (codes "namespace") (namespace_value c.args.enclosing.now c.args.name.now) (Some (string [])) (members_view c.args.others.now) (members_view c.write_text.new.others) c.args.out.now c.write_text.new.out is w) c.write_text.ensures
