use Rattle.std.proofs.Common.{◌≡◌, ◌∙◌, map, ap, subst, rules, tests}
use Rattle.std.specs.Prelude.{IfOk, vec_items, bytes_eq}
use Rattle.std.specs.List.{dedup}
use Rattle.std.proofs.lemmas.Fn.{dedup_same}
use Rattle.std.proofs.lemmas.Iterator.{YieldsList-from_slice, YieldsList-from_map_by}
use Rattle.std.proofs.lemmas.Iterator.Consumers.{map_from_collect}
use Rattle.reg_core.specs.Registry.{Row}
use Rattle.reg_store.proofs.ListingLemmas.{dedup-map}
use Rattle.reg_store.proofs.store.subject_lines.subjects_of.Goals as goal

pub returns : goal.returns
returns c =
    let road : IfOk c.collect.result (λ w. map (λ subject. subject.now) (vec_items w) ≡ map (λ (row : Row). row.0.0) c.args.rows.now) =
    map_from_collect _ c.collect.ensures.ran (YieldsList-from_map_by _ (λ subject. subject.now) (λ (row : Row). row.0.0) (YieldsList-from_slice c.args.rows.now cc) c.map.ensures.closure (λ x r q k. search (rules, tests))) in
    let all : map (λ subject. subject.now) c.in_ok-subjects.subjects.items ≡ map (λ (row : Row). row.0.0) c.args.rows.now =
    subst (λ r. IfOk r (λ w. map (λ subject. subject.now) (vec_items w) ≡ map (λ (row : Row). row.0.0) c.args.rows.now)) c.in_ok-subjects.was road in
    ap (map (λ subject. subject.now)) (dedup_same _ (λ x y. bytes_eq x.now y.now) _ (λ x y b f' x' y' k. search (rules, tests)) _ _ c.dedup_by.ensures.filtered)
    ∙ dedup-map (λ subject. subject.now) bytes_eq c.in_ok-subjects.subjects.items ∙ ap (dedup bytes_eq) all
