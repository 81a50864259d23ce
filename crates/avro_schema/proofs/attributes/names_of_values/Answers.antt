use Rattle.std.proofs.Common.{length, string_bytes, sym, ap, ◌∙◌, arith}
use Rattle.std.proofs.lemmas.List.{map_push}
use Rattle.avro_schema.proofs.AttributeLemmas.{no_text, no_name, name_more, names_over, nothing_left}
use Rattle.avro_schema.proofs.ReaderErrors.{fails_from, gives_exit}
use Rattle.avro_schema.proofs.attributes.names_of_values.Goals as goal

pub returns-in_default : goal.returns-in_default
returns-in_default c =
    let at = rw c.in-Some.ensures.steps.0 at c.loop-value.invariant.0 in
    rw (← c.into_iter-value-iterator.ensures.into_iter_gives.0) (at ∙ no_text _ _ _ _ (sym c.in_default.ensures))

pub returns-in_err-listed_name : goal.returns-in_err-listed_name
returns-in_err-listed_name c =
    let at = rw c.in-Some.ensures.steps.0 at c.loop-value.invariant.0 in
    gives_exit _ _ _ _ c.from_residual-in_err-listed_name.ensures.1
    (rw (← c.into_iter-value-iterator.ensures.into_iter_gives.0) (fails_from _ _ _ (λ none. at ∙ no_name _ _ _ _ _ (sym c.in-Some-text_of.ensures) none) c.in_err-listed_name.ensures))

pub loop-value-preserved : goal.loop-value-preserved
loop-value-preserved c =
    let at = rw c.in-Some.ensures.steps.0 at c.loop-value.invariant.0 in
    let longer = c.in-Some.ensures.steps.1 in
    let short = ap length c.in-Some.ensures.steps.0 in
    let was = c.loop-value.invariant.1 in (
      rw (c.in_ok-push.ensures.items, map_push string_bytes c.loop-value.names.items c.in_ok-listed_name.field-0)
          (at ∙ name_more _ _ _ _ _ _ (sym c.in-Some-text_of.ensures) c.in_ok-listed_name.ensures),
      omega arith,
    )

pub returns : goal.returns
returns c =
    let empty = nothing_left _ (sym c.in-None.ensures.steps.0 ∙ c.loop-value.invariant.1) in
    rw (← c.into_iter-value-iterator.ensures.into_iter_gives.0) (rw empty at c.loop-value.invariant.0 ∙ names_over _ _)
