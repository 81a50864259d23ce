use Rattle.std.proofs.Common.{◌≡◌, ◌+◌, ◌*◌, ◌≤◌, List, length, drop, map}
use Rattle.json.specs.Token.{Token}
use Rattle.serde_json.specs.Written.{WritesItems}
use Rattle.avro_nodes.specs.Nodes.{field_view, nodes_view}
use Rattle.avro_nodes.specs.Identity.{identity_at, branch_items, field_items}
use Rattle.avro_nodes.proofs.identity.+spell.Given as goal

abbrev pub decreases-write_type : goal.decreases-write_type
decreases-write_type l = 2 * l.depth

abbrev pub decreases-write_branches : goal.decreases-write_branches
decreases-write_branches l = 2 * l.depth + 1

abbrev pub decreases-write_fields : goal.decreases-write_fields
decreases-write_fields l = 2 * l.depth + 1

-- tokens that end the array from here end it from its start, and the count from here is the count of all
abbrev pub invariant-write_branches-loop-place : goal.invariant-write_branches-loop-place
invariant-write_branches-loop-place l =
    record {
      bound : l.written ≤ length l.nodes;
      ends : (end : List Token) → WritesItems (branch_items (identity_at l.depth (nodes_view l.nodes) l.enclosing) (drop l.place-index l.places) l.written).0 l.out end → WritesItems (branch_items (identity_at l.depth (nodes_view l.nodes) l.enclosing) l.places l.initial.written).0 l.initial.out end;
      count : (branch_items (identity_at l.depth (nodes_view l.nodes) l.enclosing) (drop l.place-index l.places) l.written).1 ≡ (branch_items (identity_at l.depth (nodes_view l.nodes) l.enclosing) l.places l.initial.written).1;
    }

abbrev pub invariant-write_fields-loop-field : goal.invariant-write_fields-loop-field
invariant-write_fields-loop-field l =
    record {
      bound : l.written ≤ length l.nodes;
      ends : (end : List Token) → WritesItems (field_items (identity_at l.depth (nodes_view l.nodes) l.enclosing) (map field_view (drop l.field-index l.fields)) l.written).0 l.out end → WritesItems (field_items (identity_at l.depth (nodes_view l.nodes) l.enclosing) (map field_view l.fields) l.initial.written).0 l.initial.out end;
      count : (field_items (identity_at l.depth (nodes_view l.nodes) l.enclosing) (map field_view (drop l.field-index l.fields)) l.written).1 ≡ (field_items (identity_at l.depth (nodes_view l.nodes) l.enclosing) (map field_view l.fields) l.initial.written).1;
    }
