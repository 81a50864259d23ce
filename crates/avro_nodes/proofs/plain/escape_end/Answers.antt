use Rattle.std.proofs.Common.{◌≡◌, ◌+◌, ◌∙◌, ap, sym, refl, drop, get_or, arith}
use Rattle.std.specs.Prelude.{slice_range}
use Rattle.avro_nodes.specs.Plain.{Escaped, Inside, prepended, joined, pieces}
use Rattle.avro_nodes.proofs.Runs.{escape_begins, inside_next, joined_more, nothing_left}
use Rattle.avro_nodes.proofs.plain.escape_end.Goals as goal

pub returns-then-at-bytes-clause-pieces : goal.returns-then-at-bytes-clause-pieces
returns-then-at-bytes-clause-pieces c =
    let bs = c.args.bytes.now in
    let at = c.args.at in
    let two : at + 1 + 1 ≡ at + 2 = omega arith in
    let escaped = inside_next bs at Inside Escaped c.requires.0 refl (escape_begins (get_or bs at 0) c.requires.1) in
    let done = inside_next bs (at + 1) Escaped Inside c.if-at-bytes.true refl refl in
    escaped ∙ joined_more Escaped Inside bs at (at + 1) (at + 1 + 1) (omega arith) (omega arith) done
    ∙ ap (λ n. prepended (slice_range bs at n) (joined (pieces Inside (drop n bs)))) two

pub returns-else-at-bytes-clause-pieces : goal.returns-else-at-bytes-clause-pieces
returns-else-at-bytes-clause-pieces c =
    let bs = c.args.bytes.now in
    let at = c.args.at in
    inside_next bs at Inside Escaped c.requires.0 refl (escape_begins (get_or bs at 0) c.requires.1)
    ∙ ap (prepended (slice_range bs at (at + 1))) (nothing_left Escaped bs (at + 1) c.if-at-bytes.false ∙ sym (nothing_left Inside bs (at + 1) c.if-at-bytes.false))
