use Rattle.std.proofs.Common.{◌≡◌, ◌+◌, ◌-◌, ◌<◌, ◌∙◌, ap, length, drop, arith}
use Rattle.std.specs.Prelude.{slice_range}
use Rattle.avro_nodes.specs.Plain.{Inside, prepended, joined, pieces}
use Rattle.avro_nodes.proofs.Runs.{length_from, marks_skipped, plain_from}
use Rattle.avro_nodes.proofs.plain.next_quote_or_backslash.Goals as goal

pub returns-in-Some-clause-pieces : goal.returns-in-Some-clause-pieces
returns-in-Some-clause-pieces c =
    let bs = c.args.bytes.now in
    let from = c.args.from in
    let end : from + c.in-Some.skipped < length bs = omega (arith, length_from bs from, c.in-Some.ensures.0.high) in
    marks_skipped bs from c.in-Some.skipped (omega (arith, end)) (λ k below. plain_from bs from k (omega (arith, end, below)) (c.in-Some.ensures.0.before k (omega arith) below))

pub returns-in-None-clause-pieces : goal.returns-in-None-clause-pieces
returns-in-None-clause-pieces c =
    let bs = c.args.bytes.now in
    let from = c.args.from in
    let all : from + (length bs - from) ≡ length bs = omega arith in
    marks_skipped bs from (length bs - from) (omega arith) (λ k below. plain_from bs from k below (c.in-None.ensures k (omega arith) (omega (arith, below, length_from bs from))))
    ∙ ap (λ n. prepended (slice_range bs from n) (joined (pieces Inside (drop n bs)))) all
