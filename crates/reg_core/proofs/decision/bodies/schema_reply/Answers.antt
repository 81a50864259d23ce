use Rattle.std.proofs.Common.{[], ◌++◌, List, ℕ, codes, ap, ◌∙◌}
use Rattle.json.specs.Print.{escape_byte}
use Rattle.reg_core.specs.Replies.{success}
use Rattle.reg_core.proofs.decision.bodies.schema_reply.Goals as goal

pub returns : goal.returns
unfolding escape_byte
returns c =
    let one = c.in_ok-push_str.ensures.bytes ∙ ap (λ (xs : List ℕ). xs ++ codes "{\"schema\":") c.in_ok-body.ensures.bytes in
    let two = c.in_ok-push_str-2.ensures.bytes ∙ ap (λ (xs : List ℕ). xs ++ c.as_str.result.now) one in
    let text = c.as_str.ensures.value ∙ c.in_ok-schema.ensures in
    let three = c.in_ok-push_str-3.ensures.bytes ∙ ap (λ (xs : List ℕ). xs ++ codes "}") two in
    c.success.ensures ∙ ap success (three ∙ ap (λ (xs : List ℕ). (([] ++ codes "{\"schema\":") ++ xs) ++ codes "}") text)
