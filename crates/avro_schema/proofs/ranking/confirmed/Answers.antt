use Rattle.std.proofs.Common.{sym, ap, ◌∙◌}
use Rattle.std.proofs.lemmas.Slice.Eq.{bytes_eq-Decides}
use Rattle.avro_schema.proofs.Rising.{text, text_at, no_text}
use Rattle.avro_schema.proofs.ranking.confirmed.Goals as goal

pub returns-in-Some-get : goal.returns-in-Some-get
returns-in-Some-get c =
    let found = c.in-Some-get.ensures.lookup.3 in
    text_at c.args.names.now c.args.text.now c.in-Some.rank.now found.0
    (sym (ap text (found.1 no_text)) ∙ (bytes_eq-Decides (text c.in-Some-get.name.now) c.args.text.now).0 (sym c.eq.ensures ∙ c.if-eq.true))
