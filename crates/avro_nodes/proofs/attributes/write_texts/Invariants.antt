use Rattle.std.proofs.Common.{List, drop}
use Rattle.json.specs.Token.{Token}
use Rattle.serde_json.specs.Written.{WritesItems}
use Rattle.avro_nodes.specs.Nodes.{texts_view}
use Rattle.avro_nodes.specs.Identity.{texts}
use Rattle.avro_nodes.proofs.attributes.write_texts.Given as goal

-- tokens that end the array from here end it from its start
abbrev pub invariant-loop-text : goal.invariant-loop-text
invariant-loop-text l = (end : List Token) → WritesItems (texts (texts_view (drop l.text-index l.list))) l.out end → WritesItems (texts (texts_view l.list)) l.initial.out end
