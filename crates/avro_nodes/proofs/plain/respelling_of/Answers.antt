use Rattle.std.proofs.Common.{◌≡◌, ◌∙◌, ℕ, List, length, take, Some, string_bytes, sym, ap, arith}
use Rattle.std.proofs.lemmas.List.{append-nil, take_all}
use Rattle.avro_nodes.specs.Plain.{Outside, prepended, plain}
use Rattle.avro_nodes.proofs.Runs.{front_range, nothing_left, turn_done, turn_fails, run_cut}
use Rattle.avro_nodes.proofs.plain.respelling_of.Goals as goal

pub loop-at-init : goal.loop-at-init
loop-at-init c = record {
  text = rw (c.in_ok-push_str.ensures.bytes, c.in_ok-out.ensures.bytes, c.range.ensures.value, front_range c.args.text.now c.unchanged_len-at.result) c.unchanged_len-at.ensures.kept;
  bounds = c.unchanged_len-at.ensures.bounds;
  cut = c.unchanged_len-at.ensures.cut;
}

pub range-requires-in-loop-at-clause-end_boundary : goal.range-requires-in-loop-at-clause-end_boundary
range-requires-in-loop-at-clause-end_boundary c =
    let same = c.as_bytes-bytes.ensures.value in
    run_cut c.args.text.now c.run_start-start.result c.run_end-end.result c.utf8.text (rw same at c.run_start-start.ensures.bounds.1) (rw same at c.run_start-start.ensures.found) (rw same at c.run_end-end.ensures)

pub returns-then-at-bytes : goal.returns-then-at-bytes
returns-then-at-bytes c =
    let text = c.args.text.now in
    let at = c.unchanged_len-at.result in
    let same : c.as_bytes-bytes.result.now ≡ text = c.as_bytes-bytes.ensures.value in
    let whole : at ≡ length text = rw same at c.if-at-bytes.true in
    let over = nothing_left Outside text at (omega (arith, whole)) in
    ap (λ (s : List ℕ). Some s) (sym (take_all at text (omega (arith, whole))) ∙ sym (append-nil (take at text))) ∙ ap (prepended (take at text)) (sym over) ∙ c.unchanged_len-at.ensures.kept

pub returns-in_default : goal.returns-in_default
returns-in_default c =
    let same = c.as_bytes-bytes.ensures.value in
    turn_fails c.args.text.now (string_bytes c.loop-at.out) (plain c.args.text.now) c.loop-at.at c.run_start-start.result c.run_end-end.result
    c.loop-at.invariant.text (rw same at c.run_start-start.ensures.pieces) (rw same at c.run_start-start.ensures.found) (rw same at c.run_end-end.ensures)
    (rw c.range-in-loop-at.ensures.value at c.in_default.ensures)

pub loop-at-preserved : goal.loop-at-preserved
loop-at-preserved c =
    let same = c.as_bytes-bytes.ensures.value in
    let done =
    turn_done c.args.text.now (string_bytes c.loop-at.out) (plain c.args.text.now) c.loop-at.at c.run_start-start.result c.run_end-end.result
    c.loop-at.invariant.text (rw same at c.run_start-start.ensures.pieces) (rw same at c.run_start-start.ensures.found) (rw same at c.run_end-end.ensures)
    c.in-Some.number.now (rw c.range-in-loop-at.ensures.value at c.in-Some.ensures) in
    let cut = run_cut c.args.text.now c.run_start-start.result c.run_end-end.result c.utf8.text (rw same at c.run_start-start.ensures.bounds.1) (rw same at c.run_start-start.ensures.found) (rw same at c.run_end-end.ensures) in
    record {
      text = rw (c.in_ok-push_str-3.ensures.bytes, c.in_ok-push_str-2.ensures.bytes, c.range-in-loop-at-2.ensures.value) done;
      bounds = cut.0;
      cut = cut;
    }

pub returns : goal.returns
returns c =
    let same = c.as_bytes-bytes.ensures.value in
    let over = nothing_left Outside c.args.text.now c.loop-at.at (rw same at c.loop-at-test.false) in
    ap (λ (s : List ℕ). Some s) (sym (append-nil (string_bytes c.loop-at.out))) ∙ ap (prepended (string_bytes c.loop-at.out)) (sym over) ∙ c.loop-at.invariant.text
