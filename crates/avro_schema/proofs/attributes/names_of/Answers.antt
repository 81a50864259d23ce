use Rattle.std.proofs.Common.{length, string_bytes, sym, ap, ◌∙◌, arith}
use Rattle.std.proofs.lemmas.List.{map_push}
use Rattle.avro_schema.proofs.AttributeLemmas.{no_text, no_name, name_more, names_over, nothing_left}
use Rattle.avro_schema.proofs.ReaderErrors.{fails_from, gives_exit}
use Rattle.avro_schema.proofs.attributes.names_of.Goals as goal

pub returns-in_err-text : goal.returns-in_err-text
returns-in_err-text c =
    let at = rw c.in-Some.ensures.steps.0 at c.loop-item.invariant.0 in
    gives_exit _ _ _ _ c.from_residual-in_err-text.ensures.1
    (rw (← c.into_iter-item-iterator.ensures.into_iter_gives.0) (fails_from _ _ _ (λ none. at ∙ no_text _ _ _ _ none) c.in_err-text.ensures))

pub returns-in_err-listed_name : goal.returns-in_err-listed_name
returns-in_err-listed_name c =
    let at = rw c.in-Some.ensures.steps.0 at c.loop-item.invariant.0 in
    gives_exit _ _ _ _ c.from_residual-in_err-listed_name.ensures.1
    (rw (← c.into_iter-item-iterator.ensures.into_iter_gives.0) (fails_from _ _ _ (λ none. at ∙ no_name _ _ _ _ _ c.in_ok-text.ensures none) c.in_err-listed_name.ensures))

pub loop-item-preserved : goal.loop-item-preserved
loop-item-preserved c =
    let at = rw c.in-Some.ensures.steps.0 at c.loop-item.invariant.0 in
    let longer = c.in-Some.ensures.steps.1 in
    let short = ap length c.in-Some.ensures.steps.0 in
    let was = c.loop-item.invariant.1 in (
      rw (c.in_ok-push.ensures.items, map_push string_bytes c.loop-item.names.items c.in_ok-listed_name.field-0)
          (at ∙ name_more _ _ _ _ _ _ c.in_ok-text.ensures c.in_ok-listed_name.ensures),
      omega arith,
    )

pub returns : goal.returns
returns c =
    let empty = nothing_left _ (sym c.in-None.ensures.steps.0 ∙ c.loop-item.invariant.1) in
    rw (← c.into_iter-item-iterator.ensures.into_iter_gives.0) (rw empty at c.loop-item.invariant.0 ∙ names_over _ _)
