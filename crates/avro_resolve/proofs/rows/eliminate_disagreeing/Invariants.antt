use Rattle.std.proofs.Common.{ℕ, ◌<◌, ◌≤◌, IsTrue, length}
use Rattle.avro_nodes.specs.Nodes.{nodes_view}
use Rattle.avro_resolve.specs.Inside.Agreeing.{AreCleared}
use Rattle.avro_resolve.specs.Inside.Remaining.{remains, Agreed, IsRemainder}
use Rattle.avro_resolve.specs.Inside.Schemas.{names_of}
use Rattle.avro_resolve.proofs.rows.eliminate_disagreeing.Given as goal

abbrev pub invariant-loop-i : goal.invariant-loop-i
invariant-loop-i l = record {
  clear_numbers : AreCleared l.slots;
  room : length (names_of l.schemas.reader) ≤ length l.slots;
  rest : IsRemainder (nodes_view l.schemas.writer.schema.now) (nodes_view l.schemas.reader.schema.now) l.table;
  agreed : (a b : ℕ) → a < l.i → b < length l.schemas.reader.schema.now → IsTrue (remains l.table a b) → Agreed (nodes_view l.schemas.writer.schema.now) (nodes_view l.schemas.reader.schema.now) a b;
}

abbrev pub invariant-loop-j : goal.invariant-loop-j
invariant-loop-j l = record {
  rest : IsRemainder (nodes_view l.schemas.writer.schema.now) (nodes_view l.schemas.reader.schema.now) l.table;
  fewer : (a b : ℕ) → IsTrue (remains l.table a b) → IsTrue (remains l.initial.table a b);
  agreed : (b : ℕ) → b < l.j → IsTrue (remains l.table l.i b) → Agreed (nodes_view l.schemas.writer.schema.now) (nodes_view l.schemas.reader.schema.now) l.i b;
}
