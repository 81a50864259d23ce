use Rattle.std.proofs.Common.{◌≡◌, ◌∷◌, List, string_bytes, Greater, sym, ap, ◌∙◌, subst}
use Rattle.serde_json.specs.View.{view, members_view}
use Rattle.serde_json.specs.Data.{Members}
use Rattle.serde_json.proofs.Views.{Entry}
use Rattle.avro_nodes.specs.Inside.Objects.{EndsObject, rest_after, members_before_then}
use Rattle.avro_nodes.proofs.Merged.{order, rest_next, before_next}
use Rattle.avro_nodes.proofs.Written.{next_left}
use Rattle.avro_nodes.proofs.attributes.write_others_before.Goals as goal

pub loop-name-preserved : goal.loop-name-preserved
loop-name-preserved c =
    let l = c.loop-name in
    let k = c.args.key.now in
    let name = string_bytes c.in-Some.name.now in
    let value = view c.in-Some.value.now in
    let rest = members_view c.next.new.self in
    let left = c.next-in-loop-name.new.self in
    let step : l.others ≡ (c.in-Some.name.now, c.in-Some.value.now) ∷ c.next.new.self = l.invariant.here ∙ c.in-Some.ensures.steps in
    let same : left ≡ c.next.new.self = next_left _ _ _ left _ _ c.next-in-loop-name.ensures.steps step in
    let above : order k name ≡ Greater = rw c.as_str.ensures.value at (sym c.cmp.ensures ∙ c.in-Greater.is) in
    let written = rw c.as_str-in-Greater.ensures.value at c.in_ok-write_member-in-Greater.ensures in
    record {
      here = same;
      left = ap (λ (es : List Entry). rest_after k (members_view es)) same ∙ sym (rest_next k name value rest above) ∙ ap (λ (es : List Entry). rest_after k (members_view es)) (sym step) ∙ l.invariant.left;
      ends = λ ms end w.
          l.invariant.ends ms end
          (subst (λ (es : List Entry). EndsObject (members_before_then k (members_view es) ms) l.out end) (sym step)
          (subst (λ (xs : Members). EndsObject xs l.out end) (sym (before_next k name value rest ms above))
          (written (members_before_then k rest ms) end (subst (λ (es : List Entry). EndsObject (members_before_then k (members_view es) ms) c.write_member.new.out end) same w))));
    }
