use Rattle.std.proofs.Common.{List}
use Rattle.json.specs.Token.{Token}
use Rattle.serde_json.specs.View.{members_view}
use Rattle.avro_nodes.specs.Inside.Objects.{EndsObject}
use Rattle.avro_nodes.proofs.value.write_rest.Given as goal

-- tokens that end the object from here end it from its start
abbrev pub invariant-loop-name : goal.invariant-loop-name
invariant-loop-name l = (end : List Token) → EndsObject (members_view l.name-iterator) l.out end → EndsObject (members_view l.initial.name-iterator) l.initial.out end
