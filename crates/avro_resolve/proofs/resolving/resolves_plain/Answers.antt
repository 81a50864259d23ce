use Rattle.std.proofs.Common.{sym, ◌∙◌, arith}
use Rattle.avro_nodes.specs.Nodes.{nodes_view}
use Rattle.avro_resolve.proofs.Denoted.{some_node}
use Rattle.avro_resolve.proofs.Ends.{ends}
use Rattle.avro_resolve.proofs.resolving.resolves_plain.Goals as goal

pub has-requires-clause-i_in : goal.has-requires-clause-i_in
has-requires-clause-i_in c = let some = some_node (nodes_view c.args.writer.now) c.in_ok-table.ensures.writer in omega (arith, c.in_ok-table.ensures.rest.writers)

pub has-requires-clause-j_in : goal.has-requires-clause-j_in
has-requires-clause-j_in c = let some = some_node (nodes_view c.args.reader.now) c.in_ok-table.ensures.reader in omega (arith, c.in_ok-table.ensures.rest.readers)

pub returns : goal.returns
returns c =
    let end = ends (nodes_view c.args.writer.now) (nodes_view c.args.reader.now) c.in_ok-table.table c.in_ok-table.ensures.writer c.in_ok-table.ensures.reader c.in_ok-table.ensures.rest c.in_ok-table.ensures.closed in
    ((λ h. end.0 (sym c.has.ensures ∙ h)), (λ h. c.has.ensures ∙ end.1 h))
