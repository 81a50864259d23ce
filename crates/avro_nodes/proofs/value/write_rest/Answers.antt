use Rattle.std.proofs.Common.{◌≡◌, List, [], sym, subst, arith}
use Rattle.std.proofs.lemmas.List.{nil_from_length}
use Rattle.std.proofs.lemmas.Result.{on_ok_weaker}
use Rattle.serde_json.specs.View.{members_view}
use Rattle.serde_json.proofs.Views.{Entry}
use Rattle.avro_nodes.specs.Inside.Objects.{EndsObject}
use Rattle.avro_nodes.proofs.Written.{members_ended}
use Rattle.avro_nodes.proofs.value.write_rest.Goals as goal

pub loop-name-preserved : goal.loop-name-preserved
loop-name-preserved c = λ end rest.
    let l = c.loop-name in
    let named = rw c.as_str.ensures.value at (c.in_ok-write_member.ensures (members_view c.next.new.self) end rest) in
    l.invariant end (subst (λ (es : List Entry). EndsObject (members_view es) l.out end) (sym c.in-Some.ensures.steps) named)

pub returns : goal.returns
returns c =
    let l = c.loop-name in
    on_ok_weaker c.end_object-2.result (λ e.
    subst (λ (es : List Entry). EndsObject (members_view es) c.args.out.now c.end_object-2.new.self) c.into_iter-name-iterator.ensures.into_iter_gives
    (l.invariant _ (subst (λ (es : List Entry). EndsObject (members_view es) l.out c.end_object-2.new.self) (sym c.in-None.ensures.steps.0) (members_ended _ _ e)))) c.end_object-2.ensures

pub returns-then-len-eq0 : goal.returns-then-len-eq0
returns-then-len-eq0 c =
    let nothing : c.args.others ≡ [] = nil_from_length c.args.others (omega (arith, c.len.ensures.value)) in
    on_ok_weaker c.end_object.result (λ e. subst (λ (es : List Entry). EndsObject (members_view es) c.args.out.now c.end_object.new.self) (sym nothing) (members_ended _ _ e)) c.end_object.ensures
