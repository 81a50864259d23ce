use Rattle.std.proofs.Common.{◌∙◌, sym, ap}
use Rattle.std.specs.Prelude.{◌==◌}
use Rattle.avro_schema.specs.Inside.Distinct.{all_distinct}
use Rattle.avro_schema.proofs.DistinctLemmas.{differ_by_hash}
use Rattle.avro_schema.proofs.distinct.are_hashes_distinct.Goals as goal

pub returns : goal.returns
returns g c rises =
    let told = c.are_numbers_distinct.ensures ∙ ap (all_distinct (λ a b. a == b)) c.in_ok-hashes_of.ensures in
    sym (differ_by_hash g.T.HasName.name_bytes c.args.items.now (sym told ∙ rises))
