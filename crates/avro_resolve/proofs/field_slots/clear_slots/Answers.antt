use Rattle.std.proofs.Common.{◌≡◌, ◌<◌, length, get_or-set_other, get_or-set_same, sym, ◌∙◌, arith}
use Rattle.std.specs.Prelude.{set, slice_get, None, Some}
use Rattle.std.proofs.lemmas.List.{length-map}
use Rattle.avro_resolve.specs.Inside.FieldSlots.{names_in}
use Rattle.avro_resolve.proofs.FieldSlots.{left_less, left_past, none_left}
use Rattle.avro_resolve.proofs.Sourcing.{names_at}
use Rattle.avro_resolve.proofs.field_slots.clear_slots.Goals as goal
use Rattle.avro_resolve.proofs.field_slots.clear_slots.Goals.{in-Some, in_default}

pub loop-k-preserved : goal.loop-k-preserved
loop-k-preserved c =
    let rank_map = c.args.rank_map.now.ranks.items in let fields = c.args.fields.now in let k = c.loop-k.k in let f = c.index-fields-k.result in
    let l : k < length fields = omega arith in
    let ek : slice_get (names_in fields) k ≡ Some f.name = names_at fields k f l c.index-fields-k.is in
    elim c.match-rank.branch [
      | in-Some w ↦ (
          let here = sym c.rank.ensures ∙ w.in-Some.is in let slots = c.loop-k.slots in let rank = w.in-Some.rank in
          let held = c.requires.has_slots f.name rank here in let kept = c.loop-k.auto.slots in
          rw w.slots-is (left_less rank_map (names_in fields) k f.name ek rank here slots (set slots rank None) (λ other ne. get_or-set_other slots rank other None None ne) (get_or-set_same slots rank None None (omega arith)) c.loop-k.invariant))
      | in_default w ↦ rw w.slots-is (left_past rank_map (names_in fields) k f.name ek c.loop-k.slots (sym c.rank.ensures ∙ w.in_default.is) c.loop-k.invariant)
    ]

pub returns : goal.returns
returns c =
    let fields = c.args.fields.now in
    none_left c.args.rank_map.now.ranks.items (names_in fields) c.loop-k.slots c.loop-k.k (let e = length-map fields (λ f. f.name) in omega arith) c.loop-k.invariant
