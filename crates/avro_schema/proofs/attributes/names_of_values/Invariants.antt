use Rattle.std.proofs.Common.{◌≡◌, length, option_map}
use Rattle.std.specs.Vec.Iter.{into_iter_items, into_iter_len}
use Rattle.serde_json.specs.View.{items_view}
use Rattle.avro_nodes.specs.Nodes.{texts_view}
use Rattle.avro_schema.specs.Inside.Declarations.{listed_name}
use Rattle.avro_schema.specs.Attributes.{texts_in}
use Rattle.avro_schema.proofs.AttributeLemmas.{after_these}
use Rattle.avro_schema.proofs.attributes.names_of_values.Given as goal

abbrev pub invariant-loop-value : goal.invariant-loop-value
invariant-loop-value l =
    (texts_in (listed_name (option_map (λ s. s.now) l.fn.alias_namespace)) (items_view (into_iter_items l.initial.value-iterator))
    ≡ after_these (texts_view l.names.items) (texts_in (listed_name (option_map (λ s. s.now) l.fn.alias_namespace)) (items_view (into_iter_items l.value-iterator))))
    × (into_iter_len l.value-iterator ≡ length (into_iter_items l.value-iterator))
