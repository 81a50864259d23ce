use Rattle.std.proofs.Common.{true≢false, not, string_bytes, sym, ap, ◌∙◌, inl, inr}
use Rattle.avro_resolve.proofs.WalkLemmas.{some_mapped}
use Rattle.avro_resolve.proofs.agreeing.alike.Goals as goal

pub returns-in-Enum-Enum : goal.returns-in-Enum-Enum
returns-in-Enum-Enum c =
    let matches = rw (c.in-Enum-Enum.is-0, c.in-Enum-Enum.is-1) at c.requires in
    rw (c.in-Enum-Enum.is-0, c.in-Enum-Enum.is-1) (
      (λ both. elim both.1 [
        | inl some ↦ absurd (true≢false (sym (sym (some_mapped string_bytes c.in-Enum-Enum.fallback) ∙ some) ∙ c.is_none.ensures ∙ ap not c.if-is_none.true))
        | inr all ↦ all
      ]),
      (λ all. (matches.0 c.if-matched.true, inr all)),
    )
