use Rattle.std.proofs.Common.{◌≡◌, ℕ, List, true≢false, sym, subst, ap, ◌∙◌, rules}
use Rattle.std.specs.Prelude.{bytes_eq}
use Rattle.std.proofs.lemmas.Slice.Eq.{bytes_eq-Decides}
use Rattle.avro_nodes.specs.Nodes.{nodes_view}
use Rattle.avro_nodes.specs.Identity.{identity}
use Rattle.avro_schema.specs.Texts.{TextDenotes}
use Rattle.avro_schema.proofs.RoundText.{identity_text_denotes}
use Rattle.reg_rows.specs.Spelling.{IsIdentity}
use Rattle.reg_rows.proofs.texts.is_identity.Goals as goal

-- an identity text denotes the schema that it belongs to
denotes_itself : (text : List ℕ) (it : IsIdentity text) → TextDenotes text it.nodes
denotes_itself text it = subst (λ t. TextDenotes t it.nodes) (sym it.is) (identity_text_denotes it.nodes it.schema)

pub returns-in_ok-text-in-Ok : goal.returns-in_ok-text-in-Ok
returns-in_ok-text-in-Ok c =
    let nodes = nodes_view c.in-Ok.schema in
    let shown : c.as_str.result.now ≡ identity nodes = search rules in
    let tests : c.eq.result ≡ bytes_eq c.as_str.result.now c.args.text.now = search rules in (
      λ same. record { nodes = nodes; schema = (c.args.text.now, c.in-Ok.ensures.ok); is = sym ((bytes_eq-Decides c.as_str.result.now c.args.text.now).0 (sym tests ∙ same)) ∙ shown },
      λ it.
          let one : it.nodes ≡ nodes = c.in-Ok.ensures.unique it.nodes (denotes_itself c.args.text.now it) in
          tests ∙ (bytes_eq-Decides c.as_str.result.now c.args.text.now).1 (shown ∙ ap identity (sym one) ∙ sym it.is),
    )

pub returns-in_default : goal.returns-in_default
returns-in_default c = (λ h. absurd (true≢false (sym h)), λ it. absurd (c.in-Err.ensures.err c.in_default.not-OutOfMemory it.nodes (denotes_itself c.args.text.now it)))
