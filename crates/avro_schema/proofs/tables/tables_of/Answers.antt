use Rattle.std.proofs.Common.{[], ◌∷◌, refl, arith, length-append}
use Rattle.avro_schema.proofs.Covering.{no_tables, tables_more, node_here}
use Rattle.avro_schema.proofs.tables.tables_of.Goals as goal

pub returns-then-not-any : goal.returns-then-not-any
returns-then-not-any c = rw c.new.ensures.items (no_tables _)

pub loop-node-init : goal.loop-node-init
loop-node-init c = rw c.in_ok-tables.ensures.items (no_tables _, refl)

pub loop-node-preserved : goal.loop-node-preserved
loop-node-preserved c =
    let so_far = c.loop-node.invariant in
    rw c.in_ok-push.ensures.items (
      tables_more _ _ _ _ so_far.0 (rw so_far.1 (node_here _ _ _ _ c.loop-node-test.true c.node-item.is)) c.in_ok-table_if_any.ensures,
      omega (arith, so_far.1, length-append c.loop-node.tables.items (c.in_ok-table_if_any.field-0 ∷ [])),
    )
