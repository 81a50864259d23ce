use Rattle.std.proofs.Common.{◌≡◌, ℕ, ◌==◌, ◌∙◌, Bool, true, false, List, [], ◌∷◌, map, length, refl, sym, ap, rules, tests, arith}
use Rattle.std.specs.Prelude.{suc, ◌||◌, None, Some, filter, nat_lt, if◌then◌else◌}
use Rattle.std.specs.List.{list_any}
use Rattle.std.proofs.lemmas.Bool.{lt-ltb}
use Rattle.std.proofs.lemmas.Iterator.{YieldsList-from_slice}
use Rattle.std.proofs.lemmas.Iterator.Search.{any_from_yields_List}
use Rattle.reg_core.specs.Registry.{Row}
use Rattle.reg_core.specs.Inside.Registering.{id_among}
use Rattle.reg_core.proofs.decision.registering.id_among.Goals as goal

ltb_more : (n : ℕ) → nat_lt 0 (suc n) ≡ true
ltb_more n = lt-ltb 0 (suc n) (omega arith)

-- some item passes exactly if the filter keeps one
kept : {X : Type 0} (p : X → Bool) (xs : List X) → nat_lt 0 (length (filter p xs)) ≡ list_any p xs
kept p [] = refl
kept p (x ∷ xs) = by (p x) (kept p xs)
  where
    by : (b : Bool) → nat_lt 0 (length (filter p xs)) ≡ list_any p xs → nat_lt 0 (length (if b then x ∷ filter p xs else filter p xs)) ≡ (b || list_any p xs)
    by true e = ltb_more (length (filter p xs))
    by false e = e

any_map : {X Y : Type 0} (f : X → Y) (p : Y → Bool) (xs : List X) → list_any (λ x. p (f x)) xs ≡ list_any p (map f xs)
any_map f p [] = refl
any_map f p (x ∷ xs) = ap (λ (b : Bool). p (f x) || b) (any_map f p xs)

-- the result is the id if the test passes
told : (id : ℕ) (rows : List Row) (b : Bool) → b ≡ list_any (λ (row : Row). row.1.id == id) rows → (if b then Some id else None) ≡ id_among (Some id) rows
told id rows b e = ap (λ (x : Bool). if x then Some id else None) (e ∙ sym (kept (λ (row : Row). row.1.id == id) rows))

pub returns-then-any : goal.returns-then-any
returns-then-any c =
    let found : c.any.result ≡ list_any (λ row. row.now.1.id == c.in_ok-id.id) c.args.rows.now =
    any_from_yields_List _ _ _ c.any.result c.any.ensures.ran (YieldsList-from_slice c.args.rows.now cc) (λ x b q k. search (rules, tests)) in
    let passes = sym c.if-any.true ∙ (found ∙ any_map (λ row. row.now) (λ (row : Row). row.1.id == c.in_ok-id.id) c.args.rows.now) in
    rw c.in_ok-id.was (told c.in_ok-id.id (map (λ row. row.now) c.args.rows.now) true passes)

pub returns-else-any : goal.returns-else-any
returns-else-any c =
    let found : c.any.result ≡ list_any (λ row. row.now.1.id == c.in_ok-id.id) c.args.rows.now =
    any_from_yields_List _ _ _ c.any.result c.any.ensures.ran (YieldsList-from_slice c.args.rows.now cc) (λ x b q k. search (rules, tests)) in
    let fails = sym c.if-any.false ∙ (found ∙ any_map (λ row. row.now) (λ (row : Row). row.1.id == c.in_ok-id.id) c.args.rows.now) in
    rw c.in_ok-id.was (told c.in_ok-id.id (map (λ row. row.now) c.args.rows.now) false fails)
