use Rattle.std.proofs.Common.{◌≡◌, List}
use Rattle.json.specs.Token.{Token}
use Rattle.serde_json.specs.Data.{Members}
use Rattle.serde_json.specs.View.{members_view}
use Rattle.avro_nodes.specs.Inside.Objects.{EndsObject, rest_after, members_before_then}
use Rattle.avro_nodes.proofs.attributes.write_others_before.Given as goal

-- the remaining members have the same rest after the name, and tokens that end the object from here end it from its start
abbrev pub invariant-loop-name : goal.invariant-loop-name
invariant-loop-name l =
    let key = l.key in
    record {
      here : l.others ≡ l.name-iterator;
      left : rest_after key (members_view l.others) ≡ rest_after key (members_view l.initial.others);
      ends : (ms : Members) (end : List Token) → EndsObject (members_before_then key (members_view l.others) ms) l.out end → EndsObject (members_before_then key (members_view l.initial.others) ms) l.initial.out end;
    }
