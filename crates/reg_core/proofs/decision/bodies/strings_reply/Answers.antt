use Rattle.std.proofs.Common.{◌≡◌, ◌∙◌, map, refl, ap, sym, arith, rules}
use Rattle.std.proofs.lemmas.Result.{IfOk-weaker}
use Rattle.std.proofs.lemmas.Simd.{map-map}
use Rattle.serde_json.specs.Data.{array, string}
use Rattle.serde_json.specs.View.{view, items_of, items_view}
use Rattle.serde_json.specs.Written.{compact_text}
use Rattle.serde_json.specs.declared.value.Value.{Array, the_lemmas}
use Rattle.reg_core.specs.Replies.{success}
use Rattle.reg_core.proofs.Arrays.{array_shown}
use Rattle.reg_core.proofs.decision.bodies.strings_reply.Goals as goal

pub returns : goal.returns
returns c =
    let seen : view (Array c.loop-text.values) ≡ array (items_view c.loop-text.values.items) = search (rules, the_lemmas) in
    IfOk-weaker c.value_reply.result _ _
    (λ reply h. array_shown _ (λ text. refl) c.args.texts.now c.loop-text.text-index (map view c.loop-text.values.items) _ reply seen c.loop-text.invariant (omega arith) h ∙ ap (λ ds. success (compact_text (array (items_of ds)))) (sym (map-map string (λ text. text.now) c.args.texts.now)))
    c.value_reply.ensures
