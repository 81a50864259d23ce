use Rattle.std.proofs.Common.{◌≡◌, List, [], ◌∷◌, length, refl, sym, ap, ◌∙◌, arith}
use Rattle.std.specs.Prelude.{◌==◌, Some, vec_len}
use Rattle.std.proofs.lemmas.Bool.Decides.{nat_tests}
use Rattle.serde_json.specs.declared.value.Value.{Value}
use Rattle.serde_json.specs.View.{view, items_view}
use Rattle.serde_json.proofs.Views.{view-Array}
use Rattle.reg_routes.specs.Bodies.{is_no_item, has_no_references}
use Rattle.reg_routes.proofs.body.is_null_or_empty.Goals as goal

no_value : (values : List Value) → length values == 0 ≡ is_no_item (items_view values)
no_value [] = refl
no_value (value ∷ values) = grind (arith, nat_tests)

pub returns-in-Array : goal.returns-in-Array
returns-in-Array c =
    let items = c.in-Array.items in
    let size : vec_len items ≡ length items.items = items.ok.0 in
    let value : has_no_references (Some (view c.args.value.now)) ≡ is_no_item (items_view items.items) =
    ap (λ v. has_no_references (Some (view v))) c.in-Array.is ∙ ap (λ d. has_no_references (Some d)) (view-Array items) in
    c.is_empty.ensures ∙ (ap (λ n. n == 0) size ∙ (no_value items.items ∙ sym value))
