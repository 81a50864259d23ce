use Rattle.std.proofs.Common.{ℕ, ◌<◌, get_or}
use Rattle.avro_nodes.specs.declared.node.Field.{Field}
use Rattle.avro_nodes.specs.Nodes.{field_view}
use Rattle.avro_resolve.specs.Resolution.{Readable}
use Rattle.avro_resolve.specs.Inside.Remaining.{remains}
use Rattle.avro_resolve.specs.Inside.Rows.{row_fields}
use Rattle.avro_resolve.proofs.readable.all_readable.Given as goal

abbrev pub invariant-loop-index : goal.invariant-loop-index
invariant-loop-index l = (k : ℕ) (d : Field) → k < l.index → Readable (remains l.table) (row_fields l.row) (field_view (get_or l.wanted.fields.now k d))
