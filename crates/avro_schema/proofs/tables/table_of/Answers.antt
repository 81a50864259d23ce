use Rattle.std.proofs.Common.{◌≡◌, ℕ, List, bytes_eq, true, None, Some, not, nat_cmp, sym, ap, ◌∙◌}
use Rattle.std.specs.BTreeMap.{get_by}
use Rattle.std.specs.Cmp.Lexicographic.{slice_cmp}
use Rattle.std.specs.Prelude.{is_some}
use Rattle.std.specs.Map.{update}
use Rattle.std.proofs.lemmas.Map.Text.{btree_map_updates_str}
use Rattle.avro_schema.proofs.Covering.{covers_none, covers_pushed, covers_named, covers_all, field_here, is_absent, shown_some, both_ways}
use Rattle.avro_schema.proofs.tables.table_of.Goals as goal
use Rattle.avro_schema.proofs.tables.table_of.Goals.{then-is_none, else-is_none, then-contains_key+in_ok-push, else-contains_key+in_ok-insert}

pub loop-index-init : goal.loop-index-init
loop-index-init c = rw c.new-required.ensures.items (covers_none _ _)

pub loop-index-preserved : goal.loop-index-preserved
loop-index-preserved c =
    elim c.if-contains_key.branch [
      | then-contains_key+in_ok-push w ↦ rw (w.required-is, w.by_name-is, w.in_ok-push.ensures.items) (covers_pushed _ _ _ _ c.loop-index.invariant)
      | else-contains_key+in_ok-insert w ↦
          let given : is_some c.index-fields-index.result.value ≡ true = elim c.if-is_none.branch [
            | then-is_none u ↦ absurd (both_ways _ (u.value-is ∙ u.if-is_none.true) w.if-contains_key.false)
            | else-is_none u ↦ c.is_none.ensures ∙ ap not u.if-is_none.false
          ] in
          let absent : get_by (λ k. slice_cmp nat_cmp c.as_str-name.result.now k.now) c.loop-index.by_name ≡ None = elim c.if-is_none.branch [
            | then-is_none u ↦ absurd (both_ways _ (u.value-is ∙ u.if-is_none.true) w.if-contains_key.false)
            | else-is_none u ↦ is_absent _ (sym u.contains_key.ensures ∙ sym u.value-is ∙ w.if-contains_key.false)
          ] in
          let updated : (q : List ℕ) → get_by (λ k. slice_cmp nat_cmp q k.now) w.insert.new.self ≡ update bytes_eq (λ s. get_by (λ k. slice_cmp nat_cmp s k.now) c.loop-index.by_name) c.as_str-name.result.now (Some c.loop-index.index) q =
          λ q. btree_map_updates_str c.as_str-name.result.now c.loop-index.by_name w.insert.new.self _ w.in_ok-insert.ensures.updates q in
          rw (w.required-is, w.by_name-is)
          (covers_named _ _ _ _ c.loop-index.invariant _ _ (field_here _ _ _ _ c.loop-index-test.true c.index-fields-index.is) (shown_some c.index-fields-index.result given)
          (rw c.as_str-name.ensures.value at absent) (rw c.as_str-name.ensures.value at updated))
    ]

pub returns : goal.returns
returns c = covers_all _ _ _ _ c.loop-index-test.false c.loop-index.invariant
