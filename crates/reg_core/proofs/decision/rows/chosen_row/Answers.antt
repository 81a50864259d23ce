use Rattle.std.proofs.Common.{◌≡◌, ℕ, ◌-◌, ◌==◌, ◌∙◌, Bool, true, false, List, [], ◌∷◌, map, length, refl, sym, ap, arith, rules, tests}
use Rattle.std.specs.Prelude.{Option, None, Some, option_map, option_copied, find, if◌then◌else◌}
use Rattle.std.specs.List.{last_or, slice_get}
use Rattle.std.proofs.lemmas.Iterator.{YieldsList-from_slice}
use Rattle.std.proofs.lemmas.Iterator.Adapters.{option_map_id}
use Rattle.std.proofs.lemmas.Iterator.Consumers.{YieldsList-from_copied}
use Rattle.std.proofs.lemmas.Iterator.Search.{find_from_yields_List}
use Rattle.reg_core.specs.Registry.{Row}
use Rattle.reg_core.proofs.ChosenRows.{last_or-map}
use Rattle.reg_core.proofs.decision.rows.chosen_row.Goals as goal

last_at : {X : Type 0} (x : X) (xs : List X) → slice_get (x ∷ xs) (length xs) ≡ last_or (Some x) xs
last_at x [] = refl
last_at x (y ∷ ys) = last_at y ys

last_in : {X : Type 0} (xs : List X) (k : ℕ) → k ≡ length xs - 1 → slice_get xs k ≡ last_or None xs
last_in [] k e = refl
last_in (x ∷ xs) k e =
    let all_but_one : k ≡ length xs = omega (arith, e) in
    rw all_but_one (last_at x xs)

-- the view of the last item
last_seen : {X Y : Type 0} (f : X → Y) (xs : List X) → option_map f (slice_get xs (length xs - 1)) ≡ last_or None (map f xs)
last_seen f xs = ap (option_map f) (last_in xs (length xs - 1) refl) ∙ sym (last_or-map f None xs)

chosen-map : {X Y : Type 0} (f : X → Y) (b : Bool) (x : X) (o : Option X) → (if b then Some (f x) else option_map f o) ≡ option_map f (if b then Some x else o)
chosen-map f true x o = refl
chosen-map f false x o = refl

-- the view of the first item that passes
found_seen : {X Y : Type 0} (f : X → Y) (p : Y → Bool) (xs : List X) → option_map f (find (λ x. p (f x)) xs) ≡ find p (map f xs)
found_seen f p [] = refl
found_seen f p (x ∷ xs) = sym (chosen-map f (p (f x)) x (find (λ x. p (f x)) xs)) ∙ ap (λ o. if p (f x) then Some (f x) else o) (found_seen f p xs)

pub returns-in-Latest : goal.returns-in-Latest
returns-in-Latest c =
    rw (c.in-Latest.is, c.copied.ensures, c.last.ensures.value) (last_seen (λ row. row.now) c.args.rows.now)

pub returns-in-Numbered : goal.returns-in-Numbered
returns-in-Numbered c =
    let found : option_map (λ x. x) c.find.result ≡ find (λ row. row.now.0.1 == c.in-Numbered.number) c.args.rows.now =
    find_from_yields_List _ _ _ c.find.result c.find.ensures.ran (YieldsList-from_copied (YieldsList-from_slice c.args.rows.now cc)) (λ x b q k. search (rules, tests)) in
    rw (c.in-Numbered.is) (ap option_copied (sym (option_map_id c.find.result) ∙ found) ∙ found_seen (λ row. row.now) (λ (row : Row). row.0.1 == c.in-Numbered.number) c.args.rows.now)
