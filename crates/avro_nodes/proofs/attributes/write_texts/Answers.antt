use Rattle.std.proofs.Common.{◌≡◌, ◌+◌, List, [], ◌∷◌, String, Global, string_bytes, drop, sym, ap, ◌∙◌, subst, arith}
use Rattle.std.proofs.lemmas.List.{drop_more, drop_all}
use Rattle.std.proofs.lemmas.Result.{on_ok_weaker}
use Rattle.serde_json.specs.Written.{WritesItems}
use Rattle.avro_nodes.specs.Nodes.{texts_view}
use Rattle.avro_nodes.specs.Identity.{texts}
use Rattle.avro_nodes.proofs.Written.{items_ended, items_on, array_ended, string_written}
use Rattle.avro_nodes.proofs.attributes.write_texts.Goals as goal

pub loop-text-preserved : goal.loop-text-preserved
loop-text-preserved c = λ end rest.
    let l = c.loop-text in
    let xs = c.args.list.now in
    let x = c.text-item.result in
    let here : drop l.text-index xs ≡ x ∷ drop (l.text-index + 1) xs = drop_more xs l.text-index x (omega arith) ∙ ap (λ (y : String Global). y ∷ drop (l.text-index + 1) xs) (sym c.text-item.is) in
    let written = string_written (string_bytes x) _ _ (rw c.as_str.ensures.value at c.in_ok-string.ensures) in
    l.invariant end (subst (λ (ts : List (String Global)). WritesItems (texts (texts_view ts)) l.out end) (sym here) (items_on _ _ _ _ end written rest))

pub returns : goal.returns
returns c =
    let l = c.loop-text in
    let xs = c.args.list.now in
    let none : drop l.text-index xs ≡ [] = drop_all l.text-index xs (omega arith) in
    on_ok_weaker c.end_array.result (λ e.
    array_ended _ _ _ _ c.in_ok-begin_array.ensures (l.invariant _ (subst (λ (ts : List (String Global)). WritesItems (texts (texts_view ts)) l.out c.end_array.new.self) (sym none) (items_ended _ _ e))))
    c.end_array.ensures
