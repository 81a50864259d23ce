use Rattle.std.proofs.Common.{◌≡◌, ◌∙◌, Bool, true, false, List, [], ◌∷◌, map, refl, ap, sym, subst, rules, tests}
use Rattle.std.specs.Prelude.{IfOk, vec_items, bytes_eq, if◌then◌else◌}
use Rattle.std.specs.List.{dedup, dedup_from}
use Rattle.std.proofs.lemmas.Iterator.{YieldsList-from_slice, YieldsList-from_map_by}
use Rattle.std.proofs.lemmas.Iterator.Consumers.{map_from_collect}
use Rattle.std.proofs.lemmas.List.Filters.{dedup_is}
use Rattle.std.proofs.lemmas.Simd.{map-map}
use Rattle.reg_core.specs.Registry.{Row}
use Rattle.reg_core.proofs.decision.reading.subjects_of.Goals as goal

either-map : {X Y : Type 0} (f : X → Y) (b : Bool) (xs ys : List X) (us vs : List Y) → map f xs ≡ us → map f ys ≡ vs → map f (if b then xs else ys) ≡ if b then us else vs
either-map f true xs ys us vs p q = p
either-map f false xs ys us vs p q = q

dedup_from-map : {X Y : Type 0} (f : X → Y) (same : Y → Y → Bool) (k : X) (xs : List X) → map f (dedup_from (λ x y. same (f x) (f y)) k xs) ≡ dedup_from same (f k) (map f xs)
dedup_from-map f same k [] = refl
dedup_from-map f same k (x ∷ xs) = either-map f (same (f x) (f k)) _ _ _ _ (dedup_from-map f same k xs) (ap (λ ys. f k ∷ ys) (dedup_from-map f same x xs))

-- `dedup` compares the views of the items
dedup-map : {X Y : Type 0} (f : X → Y) (same : Y → Y → Bool) (xs : List X) → map f (dedup (λ x y. same (f x) (f y)) xs) ≡ dedup same (map f xs)
dedup-map f same [] = refl
dedup-map f same (x ∷ xs) = dedup_from-map f same x xs

pub returns : goal.returns
returns c =
    let road : IfOk c.collect.result (λ w. map (λ subject. subject.now) (vec_items w) ≡ map (λ row. row.now.0.0) c.args.rows.now) =
    map_from_collect _ c.collect.ensures.ran (YieldsList-from_map_by _ (λ subject. subject.now) (λ row. row.now.0.0) (YieldsList-from_slice c.args.rows.now cc) c.map.ensures.closure (λ x r q k. search (rules, tests))) in
    let all : map (λ subject. subject.now) c.in_ok-subjects.subjects.items ≡ map (λ row. row.now.0.0) c.args.rows.now =
    subst (λ r. IfOk r (λ w. map (λ subject. subject.now) (vec_items w) ≡ map (λ row. row.now.0.0) c.args.rows.now)) c.in_ok-subjects.was road in
    ap (map (λ subject. subject.now)) (dedup_is (λ x y. bytes_eq x.now y.now) _ _ c.dedup.ensures.filtered) ∙ (dedup-map (λ subject. subject.now) bytes_eq c.in_ok-subjects.subjects.items ∙ ap (dedup bytes_eq) (all ∙ sym (map-map (λ (row : Row). row.0.0) (λ row. row.now) c.args.rows.now)))
