use Rattle.std.proofs.Common.{◌≡◌, ◌+◌, ◌-◌, ◌<◌, length, get_or-set_other, get_or-set_same, sym, ◌∙◌, arith}
use Rattle.std.specs.Prelude.{set, slice_get, None, Some}
use Rattle.std.proofs.lemmas.List.{length-map, length-set}
use Rattle.avro_resolve.specs.Inside.FieldSlots.{names_in}
use Rattle.avro_resolve.proofs.FieldSlots.{laid_more, laid_past, none_laid}
use Rattle.avro_resolve.proofs.Sourcing.{names_at}
use Rattle.avro_resolve.proofs.field_slots.fill_slots.Goals as goal

pub loop-k-init : goal.loop-k-init
loop-k-init c =
    let fields = c.args.fields.now in
    none_laid c.args.rank_map.now.ranks.items (names_in fields) c.args.slots.now (length fields) (let e = length-map fields (λ f. f.name) in omega arith) c.requires.clear

pub loop-k-preserved-in-Some : goal.loop-k-preserved-in-Some
loop-k-preserved-in-Some c =
    let rank_map = c.args.rank_map.now.ranks.items in let fields = c.args.fields.now in let n = c.loop-k.k in let f = c.index-fields-k.result in
    let l : n - 1 < length fields = omega arith in
    let next : n ≡ (n - 1) + 1 = omega arith in
    let ek : slice_get (names_in fields) (n - 1) ≡ Some f.name = names_at fields (n - 1) f l c.index-fields-k.is in
    let here = sym c.rank.ensures ∙ c.in-Some.is in let slots = c.loop-k.slots in let rank = c.in-Some.rank in
    let held = c.requires.has_slots f.name rank here in let kept = c.loop-k.auto.slots in
    laid_more rank_map (names_in fields) n (n - 1) f.name next ek rank here slots (set slots rank (Some (n - 1))) (length-set slots rank (Some (n - 1))) (λ other ne. get_or-set_other slots rank other (Some (n - 1)) None ne) (get_or-set_same slots rank (Some (n - 1)) None (omega arith)) c.loop-k.invariant

pub loop-k-preserved : goal.loop-k-preserved
loop-k-preserved c =
    let rank_map = c.args.rank_map.now.ranks.items in let fields = c.args.fields.now in let n = c.loop-k.k in let f = c.index-fields-k.result in
    let l : n - 1 < length fields = omega arith in
    let next : n ≡ (n - 1) + 1 = omega arith in
    let ek : slice_get (names_in fields) (n - 1) ≡ Some f.name = names_at fields (n - 1) f l c.index-fields-k.is in
    laid_past rank_map (names_in fields) n (n - 1) f.name next ek c.loop-k.slots (sym c.rank.ensures ∙ c.in_default.is) c.loop-k.invariant
