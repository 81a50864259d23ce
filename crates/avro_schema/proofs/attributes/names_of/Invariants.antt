use Rattle.std.proofs.Common.{◌≡◌, length, option_map}
use Rattle.std.specs.Vec.Iter.{into_iter_items, into_iter_len}
use Rattle.avro_schema.specs.Inside.Borrowed.{items_data}
use Rattle.avro_nodes.specs.Nodes.{texts_view}
use Rattle.avro_schema.specs.Inside.Declarations.{listed_name}
use Rattle.avro_schema.specs.Attributes.{texts_in}
use Rattle.avro_schema.proofs.AttributeLemmas.{after_these}
use Rattle.avro_schema.proofs.attributes.names_of.Given as goal

abbrev pub invariant-loop-item : goal.invariant-loop-item
invariant-loop-item l =
    (texts_in (listed_name (option_map (λ s. s.now) l.fn.alias_namespace)) (items_data (into_iter_items l.initial.item-iterator))
    ≡ after_these (texts_view l.names.items) (texts_in (listed_name (option_map (λ s. s.now) l.fn.alias_namespace)) (items_data (into_iter_items l.item-iterator))))
    × (into_iter_len l.item-iterator ≡ length (into_iter_items l.item-iterator))
