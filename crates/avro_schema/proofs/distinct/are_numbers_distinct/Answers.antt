use Rattle.std.proofs.Common.{◌∙◌, nat_cmp, ap}
use Rattle.std.proofs.lemmas.List.{map-id}
use Rattle.std.specs.Cmp.{nat_cmp_total}
use Rattle.std.specs.Prelude.{◌==◌}
use Rattle.avro_schema.specs.Inside.Distinct.{all_distinct}
use Rattle.avro_schema.proofs.DistinctLemmas.{rise_differ, numbers_level}
use Rattle.avro_schema.proofs.distinct.are_numbers_distinct.Goals as goal

pub returns : goal.returns
returns c =
    rise_differ nat_cmp nat_cmp_total (λ a b. a == b) numbers_level (λ x. x) 0 c.args.numbers.items c.sort_unstable.new.self.items c.numbers_rise.result
    c.sort_unstable.ensures.permutation c.sort_unstable.ensures.sorted (rw c.deref.ensures.value at c.numbers_rise.ensures)
    ∙ ap (all_distinct (λ a b. a == b)) (map-id c.args.numbers.items)
