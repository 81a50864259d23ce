use Rattle.std.proofs.Common.{◌≡◌, length}
use Rattle.avro_nodes.specs.Nodes.{nodes_view}
use Rattle.avro_schema.specs.Inside.FieldTables.{AreFieldTables}
use Rattle.avro_schema.proofs.tables.tables_of.Given as goal

abbrev pub invariant-loop-node : goal.invariant-loop-node
invariant-loop-node l = AreFieldTables (nodes_view l.nodes) l.tables.items × (length l.tables.items ≡ l.node-index)
