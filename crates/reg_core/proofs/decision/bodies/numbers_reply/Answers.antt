use Rattle.std.proofs.Common.{◌≡◌, ◌∙◌, map, refl, ap, sym, arith, rules}
use Rattle.std.proofs.lemmas.Result.{IfOk-weaker}
use Rattle.std.proofs.lemmas.Simd.{map-map}
use Rattle.serde_json.specs.Data.{array, number, unsigned}
use Rattle.serde_json.specs.View.{view, items_of, items_view}
use Rattle.serde_json.specs.Written.{compact_text}
use Rattle.serde_json.specs.declared.value.Value.{Array, the_lemmas}
use Rattle.reg_core.specs.Registry.{Row}
use Rattle.reg_core.specs.Replies.{success}
use Rattle.reg_core.proofs.Arrays.{array_shown}
use Rattle.reg_core.proofs.decision.bodies.numbers_reply.Goals as goal

pub returns : goal.returns
returns c =
    let seen : view (Array c.loop-row.values) ≡ array (items_view c.loop-row.values.items) = search (rules, the_lemmas) in
    IfOk-weaker c.value_reply.result _ _
    (λ reply h. array_shown _ (λ row. refl) c.args.rows.now c.loop-row.row-index (map view c.loop-row.values.items) _ reply seen c.loop-row.invariant (omega arith) h ∙ ap (λ ds. success (compact_text (array (items_of ds)))) (sym (map-map (λ n. number (unsigned n)) (λ row. row.now.0.1) c.args.rows.now) ∙ ap (map (λ n. number (unsigned n))) (sym (map-map (λ (row : Row). row.0.1) (λ row. row.now) c.args.rows.now))))
    c.value_reply.ensures
