use Rattle.std.proofs.Common.{nat_cmp, is_lt}
use Rattle.std.proofs.lemmas.List.Sorted.{answers_always}
use Rattle.avro_schema.proofs.distinct.numbers_rise.Goals as goal

pub returns : goal.returns
returns c = c.is_sorted_by.ensures.cases (λ x y. is_lt (nat_cmp x y)) (answers_always _ _ _ (λ f a r f' k. k.met))
