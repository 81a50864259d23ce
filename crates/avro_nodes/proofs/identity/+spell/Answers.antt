use Rattle.std.proofs.Common.{◌≡◌, Some, None, string_bytes, refl, sym, ap, ◌∙◌, subst, arith}
use Rattle.std.proofs.lemmas.Result.{on_ok_weaker}
use Rattle.serde_json.specs.Written.{WritesItems}
use Rattle.serde_json.specs.Data.{Items}
use Rattle.avro_nodes.specs.declared.node.Node.{Node}
use Rattle.avro_nodes.specs.Names.{namespace_of}
use Rattle.avro_nodes.specs.Nodes.{node_view, nodes_view}
use Rattle.avro_nodes.specs.Identity.{Counted, identity_at}
use Rattle.avro_nodes.proofs.Lists.{branch_on, branch_count, branches_over, field_on, field_count, fields_over}
use Rattle.avro_nodes.proofs.Spelling.{spelt_too_deep, spelt_first, spelt_again, spelt_as}
use Rattle.avro_nodes.proofs.Written.{null_written, string_written, items_ended, array_ended}
use Rattle.avro_nodes.proofs.identity.+spell.Goals as goal

pub write_type-returns-then-depth-eq0-clause-value : goal.write_type-returns-then-depth-eq0-clause-value
write_type-returns-then-depth-eq0-clause-value t c =
    let is = spelt_too_deep c.args.depth (nodes_view c.args.nodes.now) c.args.enclosing.now c.args.place c.args.written.now c.if-depth-eq0.true in
    on_ok_weaker c.null.result (λ e. spelt_as _ _ _ _ _ is (null_written _ _ e, refl)) c.null.ensures

pub write_type-returns-then-at-written-clause-value : goal.write_type-returns-then-at-written-clause-value
write_type-returns-then-at-written-clause-value t c =
    let is = spelt_again c.args.depth (nodes_view c.args.nodes.now) c.args.enclosing.now c.args.place c.args.written.now (omega arith) c.if-at-written.true in
    on_ok_weaker c.string.result (λ e. spelt_as _ _ _ _ _ is (string_written _ _ _ (rw c.name_of.ensures at e), refl)) c.string.ensures

pub write_type-returns-in_default-clause-value : goal.write_type-returns-in_default-clause-value
write_type-returns-in_default-clause-value t c =
    let is = spelt_first c.args.depth (nodes_view c.args.nodes.now) c.args.enclosing.now c.args.place c.args.written.now None (omega arith) c.if-at-written.false (sym c.in_default.ensures.value) in
    on_ok_weaker c.null-in_default.result (λ e. spelt_as _ _ _ _ _ is (null_written _ _ e, refl)) c.null-in_default.ensures

pub write_type-returns-in-Primitive-clause-value : goal.write_type-returns-in-Primitive-clause-value
write_type-returns-in-Primitive-clause-value t c =
    let found = sym c.in-Some.ensures.value ∙ ap (λ (x : Node). Some (node_view x)) c.in-Primitive.is in
    let is = spelt_first c.args.depth (nodes_view c.args.nodes.now) c.args.enclosing.now c.args.place c.args.written.now _ (omega arith) c.if-at-written.false found in
    on_ok_weaker c.write_primitive.result (λ w. spelt_as _ _ _ _ _ is (w, refl)) c.write_primitive.ensures

pub write_type-returns-in-Enum-clause-value : goal.write_type-returns-in-Enum-clause-value
write_type-returns-in-Enum-clause-value t c =
    let found = sym c.in-Some.ensures.value ∙ ap (λ (x : Node). Some (node_view x)) c.in-Enum.is in
    let is = spelt_first c.args.depth (nodes_view c.args.nodes.now) c.args.enclosing.now c.args.place c.args.written.now _ (omega arith) c.if-at-written.false found in
    on_ok_weaker c.write_enum.result (λ w. spelt_as _ _ _ _ _ is (w, refl)) (rw c.deref-in-Enum.ensures.value at c.write_enum.ensures)

pub write_type-returns-in-Fixed-clause-value : goal.write_type-returns-in-Fixed-clause-value
write_type-returns-in-Fixed-clause-value t c =
    let found = sym c.in-Some.ensures.value ∙ ap (λ (x : Node). Some (node_view x)) c.in-Fixed.is in
    let is = spelt_first c.args.depth (nodes_view c.args.nodes.now) c.args.enclosing.now c.args.place c.args.written.now _ (omega arith) c.if-at-written.false found in
    on_ok_weaker c.write_fixed.result (λ w. spelt_as _ _ _ _ _ is (w, refl)) c.write_fixed.ensures

pub write_type-returns-in_ok-write_type-in-Array-clause-value : goal.write_type-returns-in_ok-write_type-in-Array-clause-value
write_type-returns-in_ok-write_type-in-Array-clause-value t c =
    let found = sym c.in-Some.ensures.value ∙ ap (λ (x : Node). Some (node_view x)) c.in-Array.is in
    let is = spelt_first c.args.depth (nodes_view c.args.nodes.now) c.args.enclosing.now c.args.place c.args.written.now _ (omega arith) c.if-at-written.false found in
    let inner = c.in_ok-write_type-in-Array.ensures.value in
    on_ok_weaker c.end_array.result (λ rest. spelt_as _ _ _ _ _ is (c.in_ok-others-in-Array.ensures _ _ c.end_array.new.out inner.0 rest, inner.1)) c.end_array.ensures

pub write_type-returns-in_ok-write_type-in-Map-clause-value : goal.write_type-returns-in_ok-write_type-in-Map-clause-value
write_type-returns-in_ok-write_type-in-Map-clause-value t c =
    let found = sym c.in-Some.ensures.value ∙ ap (λ (x : Node). Some (node_view x)) c.in-Map.is in
    let is = spelt_first c.args.depth (nodes_view c.args.nodes.now) c.args.enclosing.now c.args.place c.args.written.now _ (omega arith) c.if-at-written.false found in
    let inner = c.in_ok-write_type-in-Map.ensures.value in
    on_ok_weaker c.write_rest.result (λ rest. spelt_as _ _ _ _ _ is (c.in_ok-others-in-Map.ensures _ _ c.write_rest.new.out inner.0 rest, inner.1)) c.write_rest.ensures

pub write_type-returns-in-Union-clause-value : goal.write_type-returns-in-Union-clause-value
write_type-returns-in-Union-clause-value t c =
    let found = sym c.in-Some.ensures.value ∙ ap (λ (x : Node). Some (node_view x)) c.in-Union.is in
    let is = spelt_first c.args.depth (nodes_view c.args.nodes.now) c.args.enclosing.now c.args.place c.args.written.now _ (omega arith) c.if-at-written.false found in
    on_ok_weaker c.write_branches.result (λ w. spelt_as _ _ _ _ _ is w) (rw c.deref.ensures.value at c.write_branches.ensures.value)

pub write_type-returns-in_ok-write_fields-in-Rec-clause-value : goal.write_type-returns-in_ok-write_fields-in-Rec-clause-value
write_type-returns-in_ok-write_fields-in-Rec-clause-value t c =
    let found = sym c.in-Some.ensures.value ∙ ap (λ (x : Node). Some (node_view x)) c.in-Rec.is in
    let is = spelt_first c.args.depth (nodes_view c.args.nodes.now) c.args.enclosing.now c.args.place c.args.written.now _ (omega arith) c.if-at-written.false found in
    let inside : c.namespace_of.result.now ≡ namespace_of (string_bytes c.in-Rec.named.name) = c.namespace_of.ensures ∙ ap namespace_of c.as_str-name.ensures.value in
    let inner = rw (inside, c.deref-in-Rec.ensures.value) at c.in_ok-write_fields-in-Rec.ensures.value in
    let tail = rw c.as_str-name.ensures.value at c.end_record.ensures in
    on_ok_weaker c.end_record.result (λ rest. spelt_as _ _ _ _ _ is (c.in_ok-others-in-Rec.ensures c.args.enclosing.now _ _ c.end_record.new.out inner.0 rest, inner.1)) tail

pub write_branches-loop-place-preserved : goal.write_branches-loop-place-preserved
write_branches-loop-place-preserved t c =
    let l = c.loop-place in
    let one = identity_at c.args.depth (nodes_view c.args.nodes.now) c.args.enclosing.now in
    let spelt = c.in_ok-write_type.ensures.value in
    record {
      bound = c.write_type.ensures.bound;
      ends = λ end rest. l.invariant.ends end (branch_on one c.args.places.now l.place-index l.written c.write_type.new.written c.loop-place-test.true l.out c.write_type.new.out end spelt rest);
      count = branch_count one c.args.places.now l.place-index l.written c.write_type.new.written c.loop-place-test.true spelt.1 ∙ l.invariant.count;
    }

pub write_branches-returns-clause-value : goal.write_branches-returns-clause-value
write_branches-returns-clause-value t c =
    let l = c.loop-place in
    let one = identity_at c.args.depth (nodes_view c.args.nodes.now) c.args.enclosing.now in
    let over = branches_over one c.args.places.now l.place-index l.written c.loop-place-test.false in
    on_ok_weaker c.end_array.result (λ e. (
      array_ended _ _ _ _ c.in_ok-begin_array.ensures (l.invariant.ends _ (subst (λ (s : Counted Items). WritesItems s.0 l.out c.end_array.new.self) (sym over) (items_ended _ _ e))),
      ap (λ (s : Counted Items). s.1) (sym over) ∙ l.invariant.count,
    )) c.end_array.ensures

pub write_fields-loop-field-preserved : goal.write_fields-loop-field-preserved
write_fields-loop-field-preserved t c =
    let l = c.loop-field in
    let one = identity_at c.args.depth (nodes_view c.args.nodes.now) c.args.enclosing.now in
    let spelt = c.in_ok-write_type.ensures.value in
    let value = c.in_ok-others.ensures _ _ c.write_rest.new.out spelt.0 c.in_ok-write_rest.ensures in
    record {
      bound = c.write_type.ensures.bound;
      ends = λ end rest. l.invariant.ends end (field_on one c.args.fields.now l.field-index l.written c.write_type.new.written c.field-item.result c.loop-field-test.true c.field-item.is l.out c.write_rest.new.out end value spelt.1 rest);
      count = field_count one c.args.fields.now l.field-index l.written c.write_type.new.written c.field-item.result c.loop-field-test.true c.field-item.is spelt.1 ∙ l.invariant.count;
    }

pub write_fields-returns-clause-value : goal.write_fields-returns-clause-value
write_fields-returns-clause-value t c =
    let l = c.loop-field in
    let one = identity_at c.args.depth (nodes_view c.args.nodes.now) c.args.enclosing.now in
    let over = fields_over one c.args.fields.now l.field-index l.written c.loop-field-test.false in
    on_ok_weaker c.end_array.result (λ e. (
      array_ended _ _ _ _ c.in_ok-begin_array.ensures (l.invariant.ends _ (subst (λ (s : Counted Items). WritesItems s.0 l.out c.end_array.new.self) (sym over) (items_ended _ _ e))),
      ap (λ (s : Counted Items). s.1) (sym over) ∙ l.invariant.count,
    )) c.end_array.ensures
