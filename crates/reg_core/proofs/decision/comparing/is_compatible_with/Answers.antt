use Rattle.std.proofs.Common.{◌≡◌, List, Some, subst, sym, ap, ◌∙◌}
use Rattle.std.specs.Prelude.{◌↔◌, IsTrue, option_map}
use Rattle.std.proofs.lemmas.Option.{same_Some}
use Rattle.std.proofs.lemmas.Result.{IfOk-weaker}
use Rattle.avro_nodes.specs.Nodes.{NodeView, nodes_view}
use Rattle.avro_schema.specs.DenotedNodes.{denoted_nodes}
use Rattle.schema_cache.specs.declared.cache_lookup.CacheLookup.{CacheLookup}
use Rattle.schema_cache.specs.Answers.{found_schema}
use Rattle.reg_core.specs.Compatibility.{Compatible}
use Rattle.reg_core.proofs.decision.comparing.is_compatible_with.Goals as goal

pub returns-in-Some-clause-schema : goal.returns-in-Some-clause-schema
returns-in-Some-clause-schema c =
    let shown = λ (found : CacheLookup). nodes_view (found_schema found) in
    let new = nodes_view c.args.new.now in
    let read : denoted_nodes c.args.text.now ≡ Some (shown c.in-Some.found) =
    sym (c.in_ok-found.ensures shown (denoted_nodes c.args.text.now) c.read_earlier-read.ensures) ∙ ap (option_map shown) c.in-Some.is in
    IfOk-weaker c.is_compatible.result _ _
    (λ yes h earlier denotes. subst (λ (e : List NodeView). IsTrue yes ↔ Compatible c.args.level e new) (same_Some _ _ (sym read ∙ denotes)) h)
    (rw c.schema.ensures at c.is_compatible.ensures)
