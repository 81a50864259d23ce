use Rattle.std.proofs.Common.{rules, tests, ◌≡◌, map, subst}
use Rattle.std.specs.Prelude.{IfOk, vec_items}
use Rattle.std.proofs.lemmas.Iterator.{YieldsList-from_slice}
use Rattle.std.proofs.lemmas.Iterator.Consumers.{YieldsList-from_filter, map_from_collect}
use Rattle.reg_core.specs.Rows.{visible_rows}
use Rattle.reg_core.proofs.decision.rows.visible_rows.Goals as goal

pub returns : goal.returns
returns c =
    let road : IfOk c.collect.result (λ w. map (λ row. row.now) (vec_items w) ≡ visible_rows c.args.shows_deleted c.args.rows.now) =
    map_from_collect _ c.collect.ensures.ran (YieldsList-from_filter _ _ (YieldsList-from_slice c.args.rows.now cc) c.filter.ensures.closure (λ x b q k. search (rules, tests))) in
    subst (λ r. IfOk r (λ w. map (λ row. row.now) (vec_items w) ≡ visible_rows c.args.shows_deleted c.args.rows.now)) c.in_ok-visible.was road
