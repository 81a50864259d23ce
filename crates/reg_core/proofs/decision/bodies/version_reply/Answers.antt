use Rattle.std.proofs.Common.{◌++◌, List, ℕ, codes, refl, ap, ◌∙◌}
use Rattle.std.specs.Prelude.{decimal}
use Rattle.json.specs.Print.{escape_byte, quoted}
use Rattle.reg_core.specs.Replies.{success}
use Rattle.reg_core.proofs.Quoting.{joined_nine}
use Rattle.reg_core.proofs.decision.bodies.version_reply.Goals as goal

pub returns : goal.returns
unfolding escape_byte
returns c =
    let id = c.format.ensures.text ∙ ap decimal c.id.ensures in
    let version = c.format-2.ensures.text ∙ ap decimal c.version.ensures in
    let schema = c.as_str-2.ensures.value ∙ c.in_ok-schema.ensures in
    let subject = c.as_str-3.ensures.value ∙ c.in_ok-subject.ensures ∙ ap quoted (c.as_str.ensures.text ∙ c.subject.ensures) in
    let one = c.in_ok-push_str.ensures.bytes ∙ ap (λ (xs : List ℕ). xs ++ codes "{\"id\":") c.in_ok-body.ensures.bytes in
    let two = c.in_ok-push_str-2.ensures.bytes ∙ ap (λ (xs : List ℕ). xs ++ c.format.result.now) one in
    let three = c.in_ok-push_str-3.ensures.bytes ∙ ap (λ (xs : List ℕ). xs ++ codes ",\"schema\":") two in
    let four = c.in_ok-push_str-4.ensures.bytes ∙ ap (λ (xs : List ℕ). xs ++ c.as_str-2.result.now) three in
    let five = c.in_ok-push_str-5.ensures.bytes ∙ ap (λ (xs : List ℕ). xs ++ codes ",\"subject\":") four in
    let six = c.in_ok-push_str-6.ensures.bytes ∙ ap (λ (xs : List ℕ). xs ++ c.as_str-3.result.now) five in
    let seven = c.in_ok-push_str-7.ensures.bytes ∙ ap (λ (xs : List ℕ). xs ++ codes ",\"version\":") six in
    let eight = c.in_ok-push_str-8.ensures.bytes ∙ ap (λ (xs : List ℕ). xs ++ c.format-2.result.now) seven in
    let nine = c.in_ok-push_str-9.ensures.bytes ∙ ap (λ (xs : List ℕ). xs ++ codes "}") eight in
    let parts = joined_nine (codes "{\"id\":") c.format.result.now (codes ",\"schema\":") c.as_str-2.result.now (codes ",\"subject\":") c.as_str-3.result.now (codes ",\"version\":") c.format-2.result.now (codes "}") in
    c.success.ensures ∙ ap success (nine ∙ parts ∙ rw (id, schema, subject, version) refl)
