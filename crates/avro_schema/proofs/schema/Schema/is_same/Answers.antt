use Rattle.std.proofs.Common.{string_bytes, sym, ◌∙◌}
use Rattle.std.proofs.lemmas.Slice.Eq.{bytes_eq-Decides}
use Rattle.avro_schema.proofs.RoundText.{same_kept, kept_same}
use Rattle.avro_schema.proofs.schema.Schema.is_same.Goals as goal

pub returns : goal.returns
returns c =
    let kept = c.self.invariant.0 in
    let other = c.other.invariant.0 in
    let tells = bytes_eq-Decides (string_bytes c.self.inside.text) (string_bytes c.other.inside.text) in
    rw (c.eq.ensures, ← c.self.view_is, ← c.other.view_is)
    (record {
      schemas = (λ yes. same_kept _ _ _ _ kept other (tells.0 yes), λ is. tells.1 (kept_same _ _ _ _ kept other is));
      texts = (λ yes. sym kept.text_is ∙ tells.0 yes ∙ other.text_is, λ is. tells.1 (kept.text_is ∙ is ∙ sym other.text_is));
    })
