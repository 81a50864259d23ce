use Rattle.std.proofs.Common.{◌≡◌, ◌+◌, ◌*◌, drop, map}
use Rattle.std.specs.Prelude.{slice_get}
use Rattle.std.specs.List.{list_all}
use Rattle.serde_json.specs.View.{items_view, members_view}
use Rattle.avro_nodes.specs.Nodes.{field_view, nodes_view}
use Rattle.avro_schema.specs.Inside.Fitting.{items_fit, members_fit, fields_fit, fits}
use Rattle.avro_schema.specs.Inside.FieldTables.{fits_if_any, named_fit}
use Rattle.avro_schema.proofs.defaults.+fit.Given as goal

abbrev pub decreases-fits : goal.decreases-fits
decreases-fits l = 8 * l.depth

abbrev pub decreases-node_fits : goal.decreases-node_fits
decreases-node_fits l = 8 * l.depth + 7

abbrev pub decreases-items_fit : goal.decreases-items_fit
decreases-items_fit l = 8 * l.depth + 2

abbrev pub decreases-members_fit : goal.decreases-members_fit
decreases-members_fit l = 8 * l.depth + 2

abbrev pub decreases-fields_fit : goal.decreases-fields_fit
decreases-fields_fit l = 8 * l.depth + 4

abbrev pub decreases-field_fits : goal.decreases-field_fits
decreases-field_fits l = 8 * l.depth + 2

abbrev pub decreases-table_fits : goal.decreases-table_fits
decreases-table_fits l = 8 * l.depth + 6

abbrev pub decreases-required_fit : goal.decreases-required_fit
decreases-required_fit l = 8 * l.depth + 4

abbrev pub decreases-named_fit : goal.decreases-named_fit
decreases-named_fit l = 8 * l.depth + 5

abbrev pub decreases-index_fits : goal.decreases-index_fits
decreases-index_fits l = 8 * l.depth + 3

abbrev pub invariant-items_fit-loop-value : goal.invariant-items_fit-loop-value
invariant-items_fit-loop-value l = items_fit (fits l.depth (nodes_view l.nodes)) (items_view (drop l.value-index l.value-items)) l.place ≡ items_fit (fits l.depth (nodes_view l.nodes)) (items_view l.value-items) l.place

abbrev pub invariant-members_fit-loop-key : goal.invariant-members_fit-loop-key
invariant-members_fit-loop-key l = members_fit (fits l.depth (nodes_view l.nodes)) (members_view l._key-iterator) l.place ≡ members_fit (fits l.depth (nodes_view l.nodes)) (members_view l.initial._key-iterator) l.place

abbrev pub invariant-fields_fit-loop-field : goal.invariant-fields_fit-loop-field
invariant-fields_fit-loop-field l =
    fields_fit (fits l.depth (nodes_view l.nodes)) (members_view l.members.entries) (map field_view (drop l.field-index l.field-items))
    ≡ fields_fit (fits l.depth (nodes_view l.nodes)) (members_view l.members.entries) (map field_view l.field-items)

abbrev pub invariant-required_fit-loop-at : goal.invariant-required_fit-loop-at
invariant-required_fit-loop-at l =
    list_all (λ i. fits_if_any (fits l.depth (nodes_view l.nodes)) (members_view l.members.entries) (slice_get (map field_view l.fields.items) i)) (drop l.at-index l.at-items)
    ≡ list_all (λ i. fits_if_any (fits l.depth (nodes_view l.nodes)) (members_view l.members.entries) (slice_get (map field_view l.fields.items) i)) l.at-items

abbrev pub invariant-named_fit-loop-key : goal.invariant-named_fit-loop-key
invariant-named_fit-loop-key l =
    named_fit (fits l.depth (nodes_view l.nodes)) (members_view l.members.entries) (map field_view l.fields.items) l.table (members_view l.key-iterator)
    ≡ named_fit (fits l.depth (nodes_view l.nodes)) (members_view l.members.entries) (map field_view l.fields.items) l.table (members_view l.initial.key-iterator)
