use Rattle.std.proofs.Common.{List, subst, sym, ◌∙◌, true≢false, refl}
use Rattle.std.specs.Prelude.{All}
use Rattle.std.proofs.lemmas.List.{take_all}
use Rattle.std.proofs.lemmas.List.Elements.{All-more}
use Rattle.avro_nodes.specs.declared.node.Node.{Node}
use Rattle.avro_nodes.specs.Nodes.{nodes_view}
use Rattle.reg_core.specs.Compatibility.{Compatible}
use Rattle.reg_core.proofs.Versions.{admits_named}
use Rattle.reg_core.proofs.compatibility.admits.Goals as goal

pub returns-then-not-branch : goal.returns-then-not-branch
returns-then-not-branch c =
    let P = λ (s : List Node). Compatible c.args.level (nodes_view s) (nodes_view c.args.new.now) in
    let whole = admits_named c.args.level c.args.earlier.now (nodes_view c.args.new.now) in (
      (λ h. absurd (true≢false (sym h))),
      (λ h.
          let all = subst (All P) (sym c.named_versions-compared.ensures) (whole.1 h) in
          let here = subst P (sym c.schema-item.is) (all c.loop-schema.schema-index c.schema-item.result c.loop-schema-test.true) in
          sym c.if-not-branch.true ∙ c.in_ok-is_compatible.ensures.1 here),
    )

pub loop-schema-preserved : goal.loop-schema-preserved
loop-schema-preserved c =
    let P = λ (s : List Node). Compatible c.args.level (nodes_view s) (nodes_view c.args.new.now) in
    let here = subst P c.schema-item.is (c.in_ok-is_compatible.ensures.0 c.if-not-branch.false) in
    All-more P c.named_versions-compared.result.now c.loop-schema.schema-index c.schema-item.result c.loop-schema-test.true c.loop-schema.invariant here

pub returns : goal.returns
returns c =
    let P = λ (s : List Node). Compatible c.args.level (nodes_view s) (nodes_view c.args.new.now) in
    let whole = admits_named c.args.level c.args.earlier.now (nodes_view c.args.new.now) in
    let named = subst (All P) (take_all c.loop-schema.schema-index c.named_versions-compared.result.now c.loop-schema-test.false) c.loop-schema.invariant in
    ((λ _. whole.0 (subst (All P) c.named_versions-compared.ensures named)), (λ _. refl))
