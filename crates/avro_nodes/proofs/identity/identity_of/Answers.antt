use Rattle.std.proofs.Common.{List, ◌∙◌, subst}
use Rattle.json.specs.Token.{Token}
use Rattle.serde_json.specs.Written.{WritesValue}
use Rattle.avro_nodes.specs.Nodes.{nodes_view}
use Rattle.avro_nodes.specs.Identity.{identity_value}
use Rattle.avro_nodes.proofs.Plainness.{identity_has_no_float}
use Rattle.avro_nodes.proofs.Printed.{print_is_compact}
use Rattle.avro_nodes.proofs.identity.identity_of.Goals as goal

pub returns : goal.returns
returns c =
    let value = identity_value (nodes_view c.args.nodes.now) in
    let written = subst (λ (ts : List Token). WritesValue value ts c.write_type.new.out) c.in_ok-out.ensures c.in_ok-write_type.ensures.value.0 in
    record { text = λ bare. c.into_string.ensures.text ∙ print_is_compact value c.write_type.new.out written c.into_string.ensures.reads_back (identity_has_no_float (nodes_view c.args.nodes.now) bare) }
