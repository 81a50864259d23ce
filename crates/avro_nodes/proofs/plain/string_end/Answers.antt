use Rattle.std.proofs.Common.{◌+◌, ◌∙◌, ap, sym, refl, get_or, arith}
use Rattle.std.specs.Prelude.{slice_range}
use Rattle.avro_nodes.specs.Plain.{Inside, Outside, prepended}
use Rattle.avro_nodes.proofs.Runs.{inside_next, joined_more, nothing_left, quote_ends}
use Rattle.avro_nodes.proofs.plain.string_end.Goals as goal

pub returns-then-bytes-at-eq34-clause-pieces : goal.returns-then-bytes-at-eq34-clause-pieces
returns-then-bytes-at-eq34-clause-pieces c =
    let bs = c.args.bytes.now in
    let at = c.loop-at.at in
    c.loop-at.invariant.skipped
    ∙ joined_more Inside Outside bs c.args.from at (at + 1) c.loop-at.invariant.bounds.0 (omega arith)
    (inside_next bs at Inside Outside c.loop-at-test.true refl (quote_ends (get_or bs at 0) c.if-bytes-at-eq34.true))

pub loop-at-preserved : goal.loop-at-preserved
loop-at-preserved c =
    let bs = c.args.bytes.now in
    let after_escape = c.escape_end.result in
    let next = c.next_quote_or_backslash-at-in-loop-at.result in
    record {
      bounds = (omega arith, omega arith);
      found = c.next_quote_or_backslash-at-in-loop-at.ensures.found;
      skipped = c.loop-at.invariant.skipped
          ∙ joined_more Inside Inside bs c.args.from c.loop-at.at after_escape c.loop-at.invariant.bounds.0 (omega arith) c.escape_end.ensures.pieces
          ∙ joined_more Inside Inside bs c.args.from after_escape next (omega arith) (omega arith) c.next_quote_or_backslash-at-in-loop-at.ensures.pieces;
    }

pub returns-clause-pieces : goal.returns-clause-pieces
returns-clause-pieces c =
    let bs = c.args.bytes.now in
    let at = c.loop-at.at in
    c.loop-at.invariant.skipped
    ∙ ap (prepended (slice_range bs c.args.from at)) (nothing_left Inside bs at c.loop-at-test.false ∙ sym (nothing_left Outside bs at c.loop-at-test.false))
