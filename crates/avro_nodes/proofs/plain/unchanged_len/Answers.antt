use Rattle.std.proofs.Common.{◌≡◌, ◌≤◌, ◌∙◌, List, ℕ, ap, sym, take, drop, arith}
use Rattle.std.specs.Prelude.{slice_range}
use Rattle.std.proofs.lemmas.Str.{IsCharBoundary-start}
use Rattle.avro_nodes.specs.Plain.{Outside, prepended, joined, pieces, plain}
use Rattle.avro_nodes.proofs.Runs.{prepended_nothing, turn_done, run_cut, taken_more}
use Rattle.avro_nodes.proofs.plain.unchanged_len.Goals as goal

pub loop-at-init : goal.loop-at-init
loop-at-init c = record {
  kept = prepended_nothing (plain c.args.text.now);
  bounds = omega arith;
  cut = IsCharBoundary-start c.args.text.now c.utf8.text;
}

pub range-requires-clause-end_boundary : goal.range-requires-clause-end_boundary
range-requires-clause-end_boundary c =
    let same = c.as_bytes-bytes.ensures.value in
    run_cut c.args.text.now c.run_start-start.result c.run_end-end.result c.utf8.text (rw same at c.run_start-start.ensures.bounds.1) (rw same at c.run_start-start.ensures.found) (rw same at c.run_end-end.ensures)

pub loop-at-preserved : goal.loop-at-preserved
loop-at-preserved c =
    let same = c.as_bytes-bytes.ensures.value in
    let text = c.args.text.now in
    let number : slice_range text c.run_start-start.result c.run_end-end.result ≡ c.range.result.now = sym c.range.ensures.value in
    let done =
    turn_done text (take c.loop-at.at text) (plain text) c.loop-at.at c.run_start-start.result c.run_end-end.result
    c.loop-at.invariant.kept (rw same at c.run_start-start.ensures.pieces) (rw same at c.run_start-start.ensures.found) (rw same at c.run_end-end.ensures)
    (slice_range text c.run_start-start.result c.run_end-end.result) (sym (rw c.range.ensures.value at (c.is_unchanged.ensures c.if-not-is_unchanged.false))) in
    let cut = run_cut text c.run_start-start.result c.run_end-end.result c.utf8.text (rw same at c.run_start-start.ensures.bounds.1) (rw same at c.run_start-start.ensures.found) (rw same at c.run_end-end.ensures) in
    let begins : c.run_start-start.result ≤ c.run_end-end.result = omega (arith, c.run_end-end.ensures) in
    record {
      kept = ap (λ (s : List ℕ). prepended s (joined (pieces Outside (drop c.run_end-end.result text)))) (sym (taken_more text c.loop-at.at c.run_start-start.result c.run_end-end.result c.run_start-start.ensures.bounds.0 begins)) ∙ done;
      bounds = cut.0;
      cut = cut;
    }
