use Rattle.std.proofs.Common.{◌≡◌, ◌<◌, ℕ, List, Bool, true, false, None, Some, sym, ap, subst, map, length, ◌∙◌, get_or}
use Rattle.std.specs.List.{list_all}
use Rattle.std.specs.Prelude.{◌&&◌, option_map}
use Rattle.std.specs.Borrow.{Bor}
use Rattle.std.proofs.lemmas.Bool.Decides.{same_from_decides}
use Rattle.std.proofs.lemmas.List.{take_all}
use Rattle.std.proofs.lemmas.List.Folds.{list_all_at, list_all_more}
use Rattle.avro_nodes.specs.Nodes.{NodeView, nodes_view}
use Rattle.schema_cache.specs.declared.cache_lookup.CacheLookup.{CacheLookup}
use Rattle.schema_cache.specs.Answers.{found_schema}
use Rattle.reg_core.specs.declared.decision.View.{View}
use Rattle.reg_core.specs.declared.level.Level.{Level}
use Rattle.reg_core.specs.Compatibility.{named_versions}
use Rattle.reg_core.specs.Registry.{Row}
use Rattle.reg_core.specs.Inside.Comparisons.{is_admitted_in_view, is_compatible_in_view}
use Rattle.reg_core.specs.Verdicts.{is_compatible}
use Rattle.reg_core.proofs.VerdictLemmas.{compatible_decides}
use Rattle.reg_core.proofs.VersionVerdicts.{admitted_named, verdict_found}
use Rattle.reg_core.proofs.decision.comparing.is_admitted_in_view.Goals as goal

-- the level doesn't admit the new schema if one of the versions isn't compatible with it
refused : (view : View) (level : Level) (rows versions : List (Bor Row)) (new : List NodeView) → versions ≡ named_versions level rows → (index : ℕ) (row : Bor Row) → index < length versions → row ≡ get_or versions index row
    → is_compatible_in_view view level new row.now ≡ false → false ≡ is_admitted_in_view view level (map (λ (r : Bor Row). r.now) rows) new
refused view level rows versions new named index row within is here =
    let P = λ (r : Bor Row). is_compatible_in_view view level new r.now in
    sym (admitted_named (λ (r : Bor Row). r.now) view level rows new
    ∙ ap (list_all P) (sym named)
    ∙ list_all_at P versions index row within (subst (λ (r : Bor Row). P r ≡ false) is here))

pub returns-in_default : goal.returns-in_default
returns-in_default c =
    let shown = λ (found : CacheLookup). nodes_view (found_schema found) in
    let none = sym c.in_ok-earlier.ensures ∙ ap (option_map shown) c.in_default.is in
    refused c.args.view.now c.args.level c.args.rows.now c.named_versions-versions.result.now (nodes_view c.args.new.now) c.named_versions-versions.ensures c.loop-row.row-index c.row-item.result c.loop-row-test.true c.row-item.is
    (verdict_found c.args.view.now c.args.level (nodes_view c.args.new.now) c.row-item.result.now None none)

pub returns-then-not-branch : goal.returns-then-not-branch
returns-then-not-branch c =
    let shown = λ (found : CacheLookup). nodes_view (found_schema found) in
    let earlier = shown c.in-Some.earlier in
    let new = nodes_view c.args.new.now in
    let has = sym c.in_ok-earlier.ensures ∙ ap (option_map shown) c.in-Some.is in
    let verdict = same_from_decides _ (is_compatible c.args.level earlier new) (rw c.schema.ensures at c.in_ok-is_compatible.ensures) (compatible_decides c.args.level earlier new) in
    refused c.args.view.now c.args.level c.args.rows.now c.named_versions-versions.result.now new c.named_versions-versions.ensures c.loop-row.row-index c.row-item.result c.loop-row-test.true c.row-item.is
    (verdict_found c.args.view.now c.args.level new c.row-item.result.now (Some earlier) has ∙ sym verdict ∙ c.if-not-branch.true)

pub loop-row-preserved : goal.loop-row-preserved
loop-row-preserved c =
    let shown = λ (found : CacheLookup). nodes_view (found_schema found) in
    let earlier = shown c.in-Some.earlier in
    let new = nodes_view c.args.new.now in
    let P = λ (row : Bor Row). is_compatible_in_view c.args.view.now c.args.level new row.now in
    let xs = c.named_versions-versions.result.now in
    let has = sym c.in_ok-earlier.ensures ∙ ap (option_map shown) c.in-Some.is in
    let verdict = same_from_decides _ (is_compatible c.args.level earlier new) (rw c.schema.ensures at c.in_ok-is_compatible.ensures) (compatible_decides c.args.level earlier new) in
    let here : P c.row-item.result ≡ true = verdict_found c.args.view.now c.args.level new c.row-item.result.now (Some earlier) has ∙ sym verdict ∙ c.if-not-branch.false in
    let at : P (get_or xs c.loop-row.row-index c.row-item.result) ≡ true = subst (λ (r : Bor Row). P r ≡ true) c.row-item.is here in
    list_all_more P xs c.loop-row.row-index c.row-item.result c.loop-row-test.true
    ∙ ap (λ (b : Bool). b && P (get_or xs c.loop-row.row-index c.row-item.result)) c.loop-row.invariant
    ∙ at

pub returns : goal.returns
returns c =
    let P = λ (row : Bor Row). is_compatible_in_view c.args.view.now c.args.level (nodes_view c.args.new.now) row.now in
    let xs = c.named_versions-versions.result.now in
    sym (admitted_named (λ (row : Bor Row). row.now) c.args.view.now c.args.level c.args.rows.now (nodes_view c.args.new.now)
    ∙ ap (list_all P) (sym c.named_versions-versions.ensures)
    ∙ ap (list_all P) (sym (take_all c.loop-row.row-index xs c.loop-row-test.false))
    ∙ c.loop-row.invariant)
