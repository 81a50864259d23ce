use Rattle.std.proofs.Common.{◌≡◌, ◌≢◌, ◌∙◌, ◌+◌, ◌++◌, ◌<◌, ◌==◌, ℕ, Bool, true, false, List, [], ◌∷◌, map, length, take, refl, ap, sym, append-nil, arith, eq-eqb, ne_eqb}
use Rattle.std.specs.Prelude.{Option, Some, None, option_copied, if◌then◌else◌}
use Rattle.std.specs.List.{last_or}
use Rattle.std.proofs.lemmas.List.{map_more}
use Rattle.std.proofs.lemmas.List.Elements.{filter-append}
use Rattle.reg_core.specs.Registry.{Row}
use Rattle.reg_core.specs.Rows.{rows_with}
use Rattle.reg_core.proofs.decision.reading.last_with_id.Goals as goal
use Rattle.reg_core.proofs.decision.reading.last_with_id.Goals.{then-id, else-id}

last_pushed : {X : Type 0} (o : Option X) (xs : List X) (y : X) → last_or o (xs ++ (y ∷ [])) ≡ Some y
last_pushed o [] y = refl
last_pushed o (x ∷ xs) y = last_pushed (Some x) xs y

last_either : {X : Type 0} (b : Bool) (xs : List X) (y : X) → last_or None (xs ++ (if b then y ∷ [] else [])) ≡ if b then Some y else last_or None xs
last_either true xs y = last_pushed None xs y
last_either false xs y = ap (last_or None) (append-nil xs)

-- the last row that has the id, after one row more
last_turn : (id : ℕ) (rows : List Row) (row : Row) → last_or None (rows_with id (rows ++ (row ∷ []))) ≡ if row.1.id == id then Some row else last_or None (rows_with id rows)
last_turn id rows row =
    ap (last_or None) (filter-append (λ (r : Row). r.1.id == id) rows (row ∷ [])) ∙ last_either (row.1.id == id) (rows_with id rows) row

last_hit : (id : ℕ) (rows : List Row) (row : Row) → row.1.id ≡ id → last_or None (rows_with id (rows ++ (row ∷ []))) ≡ Some row
last_hit id rows row e = last_turn id rows row ∙ ap (λ b. if b then Some row else last_or None (rows_with id rows)) (eq-eqb row.1.id id e)

last_miss : (id : ℕ) (rows : List Row) (row : Row) → row.1.id ≢ id → last_or None (rows_with id (rows ++ (row ∷ []))) ≡ last_or None (rows_with id rows)
last_miss id rows row ne = last_turn id rows row ∙ ap (λ b. if b then Some row else last_or None (rows_with id rows)) (ne_eqb row.1.id id ne)

pub loop-row-preserved : goal.loop-row-preserved
loop-row-preserved c =
    let lt : c.loop-row.row-index < length c.args.rows.now = omega arith in
    let more : map (λ row. row.now) (take (c.loop-row.row-index + 1) c.args.rows.now) ≡ map (λ row. row.now) (take c.loop-row.row-index c.args.rows.now) ++ (c.row-item.result.now ∷ []) =
    map_more (λ row. row.now) c.args.rows.now c.loop-row.row-index c.row-item.result lt ∙ ap (λ row. map (λ row. row.now) (take c.loop-row.row-index c.args.rows.now) ++ (row.now ∷ [])) (sym c.row-item.is) in
    elim c.if-id.branch [
      | then-id w ↦ ap option_copied w.last-is ∙ (sym (last_hit c.in_ok-id.id _ c.row-item.result.now (sym c.id.ensures ∙ w.if-id.true)) ∙ ap (λ rows. last_or None (rows_with c.in_ok-id.id rows)) (sym more))
      | else-id w ↦ ap option_copied w.last-is ∙ (c.loop-row.invariant ∙ (sym (last_miss c.in_ok-id.id _ c.row-item.result.now (λ e. w.if-id.false (c.id.ensures ∙ e))) ∙ ap (λ rows. last_or None (rows_with c.in_ok-id.id rows)) (sym more)))
    ]
