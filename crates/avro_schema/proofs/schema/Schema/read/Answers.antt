use Rattle.std.proofs.Common.{◌<◌, ◌≤◌, length, sym, ap, ◌∙◌, arith}
use Rattle.std.proofs.lemmas.Result.{err_from_is_err_and}
use Rattle.avro_nodes.specs.Limits.{max_text}
use Rattle.avro_nodes.specs.Identity.{identity}
use Rattle.avro_nodes.specs.Nodes.{nodes_view}
use Rattle.avro_schema.proofs.TextLemmas.{refused, typed_whole, denoted_says, one_schema, none_typed, none_mentioned, none_fitting, none_bounded}
use Rattle.avro_schema.proofs.schema.Schema.read.Goals as goal

pub returns-in_err-nodes : goal.returns-in_err-nodes
returns-in_err-nodes c =
    let p = err_from_is_err_and c.from_residual.result c.from_residual.ensures.1 in
    rw p.1 (record { ok = tt; unique = tt; err = λ other. none_typed _ (refused _ _ (λ is. other (p.2 ∙ is)) c.in_err-nodes.ensures) })

pub returns-then-not-mentions_fit-clause-err : goal.returns-then-not-mentions_fit-clause-err
returns-then-not-mentions_fit-clause-err c =
    λ other. none_mentioned _ _ c.in_ok-nodes.ensures (rw c.deref.ensures.value at (sym c.mentions_fit.ensures ∙ c.if-not-mentions_fit.true))

pub returns-then-not-branch-clause-err : goal.returns-then-not-branch-clause-err
returns-then-not-branch-clause-err c =
    λ other. none_fitting _ _ c.in_ok-nodes.ensures (rw c.deref-2.ensures.value at (sym c.in_ok-defaults_fit.ensures ∙ c.if-not-branch.true))

pub returns-then-len-gt-MAX_TEXT-clause-err : goal.returns-then-len-gt-MAX_TEXT-clause-err
returns-then-len-gt-MAX_TEXT-clause-err c =
    let whole = typed_whole _ _ c.in_ok-nodes.ensures in
    let is = rw c.deref-3.ensures.value at c.in_ok-text.ensures.text in
    let same = ap length (is whole) in
    let long : max_text < length (identity (nodes_view c.in_ok-nodes.nodes.items)) = omega arith in
    λ other. none_bounded _ _ c.in_ok-nodes.ensures long

pub invariant_of-result : goal.invariant_of-result
invariant_of-result c =
    let whole = typed_whole _ _ c.in_ok-nodes.ensures in
    let is = rw c.deref-3.ensures.value at c.in_ok-text.ensures.text in
    let same = ap length (is whole) in
    let short : length (identity (nodes_view c.in_ok-nodes.nodes.items)) ≤ max_text = omega arith in
    let fit = rw c.deref-2.ensures.value at (sym c.in_ok-defaults_fit.ensures ∙ c.if-not-branch.false) in
    (record { schema = (c.args.text.now, denoted_says _ _ c.in_ok-nodes.ensures fit short); text_is = is whole }, rw c.deref-4.ensures.value at c.in_ok-index.ensures)

pub returns : goal.returns
returns c =
    let whole = typed_whole _ _ c.in_ok-nodes.ensures in
    let is = rw c.deref-3.ensures.value at c.in_ok-text.ensures.text in
    let same = ap length (is whole) in
    let short : length (identity (nodes_view c.in_ok-nodes.nodes.items)) ≤ max_text = omega arith in
    let fit = rw c.deref-2.ensures.value at (sym c.in_ok-defaults_fit.ensures ∙ c.if-not-branch.false) in
    let here = denoted_says _ _ c.in_ok-nodes.ensures fit short in
    record { ok = here; unique = λ nodes t. one_schema _ _ _ t here; err = tt }
