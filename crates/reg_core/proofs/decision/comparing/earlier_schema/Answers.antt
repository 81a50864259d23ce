use Rattle.std.proofs.Common.{◌≡◌, ℕ, List, Option, Some, sym, ◌∙◌, ap, subst}
use Rattle.std.specs.Prelude.{IfOk, option_and_then, option_map, string_bytes}
use Rattle.avro_nodes.specs.Nodes.{nodes_view}
use Rattle.avro_schema.specs.DenotedNodes.{denoted_nodes}
use Rattle.schema_cache.specs.declared.cache_lookup.CacheLookup.{CacheLookup}
use Rattle.schema_cache.specs.Answers.{found_schema}
use Rattle.reg_core.specs.Views.{view_text}
use Rattle.reg_core.proofs.decision.comparing.earlier_schema.Goals as goal

pub returns-in-Some : goal.returns-in-Some
returns-in-Some c =
    let shown = λ (found : CacheLookup). nodes_view (found_schema found) in
    let text = c.as_str.result.now in
    let there : view_text c.args.view.now c.args.row.now.1.id ≡ Some text =
    ap (view_text c.args.view.now) (sym c.id.ensures) ∙ (ap (option_map string_bytes) (sym c.in-Some.ensures.value) ∙ ap Some (sym c.as_str.ensures.value)) in
    subst (λ (held : Option (List ℕ)). IfOk c.if_denoted.result (λ found. option_map shown found ≡ option_and_then denoted_nodes held)) (sym there)
    (c.if_denoted.ensures shown (denoted_nodes text) c.read_earlier.ensures)
