use Rattle.std.proofs.Common.{List, drop}
use Rattle.json.specs.Token.{Token}
use Rattle.serde_json.specs.View.{items_view, members_view}
use Rattle.serde_json.specs.Written.{WritesItems}
use Rattle.avro_nodes.specs.Inside.Objects.{EndsObject}
use Rattle.avro_nodes.proofs.value.+write.Given as goal

-- tokens that end the array or the object from here end it from its start
abbrev pub invariant-write_array-loop-item : goal.invariant-write_array-loop-item
invariant-write_array-loop-item l = (end : List Token) → WritesItems (items_view (drop l.item-index l.item-items)) l.out end → WritesItems (items_view l.item-items) l.initial.out end

abbrev pub invariant-write_object-loop-name : goal.invariant-write_object-loop-name
invariant-write_object-loop-name l = (end : List Token) → EndsObject (members_view l.name-iterator) l.out end → EndsObject (members_view l.members.entries) l.initial.out end
