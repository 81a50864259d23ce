use Rattle.std.proofs.Common.{◌∙◌, ℕ, List, [], nat_cmp, bytes_eq, Bor, ap}
use Rattle.std.specs.Cmp.Lexicographic.{slice_cmp, nat_list_cmp_total}
use Rattle.avro_schema.specs.Inside.Distinct.{all_distinct}
use Rattle.avro_schema.proofs.DistinctLemmas.{rise_differ, texts_level}
use Rattle.avro_schema.proofs.distinct.are_names_distinct.Goals as goal

pub returns : goal.returns
returns g c =
    rise_differ (slice_cmp nat_cmp) nat_list_cmp_total bytes_eq texts_level (λ (t : Bor (List ℕ)). t.now) (record { ref_ptr = (0, 0); now = [] }) c.in_ok-names.names.items c.sort_unstable.new.self.items c.texts_rise.result
    c.sort_unstable.ensures.permutation c.sort_unstable.ensures.sorted (rw c.deref.ensures.value at c.texts_rise.ensures)
    ∙ ap (all_distinct bytes_eq) c.in_ok-names.ensures
