use Rattle.std.proofs.Common.{◌+◌, length}
use Rattle.avro_resolve.specs.Inside.Schemas.{columns, rows}
use Rattle.avro_resolve.specs.Inside.Remaining.{AreEliminated, IsAgreedRemainder, AllStillSupported, count_remaining}
use Rattle.avro_resolve.proofs.elimination.largest_closed.Given as goal

abbrev pub invariant-loop-last : goal.invariant-loop-last
invariant-loop-last l = record {
  rest : IsAgreedRemainder (rows l.schemas) (columns l.schemas) l.progress.table;
  out : AreEliminated l.progress.table l.progress.eliminated.items;
  still_supported : AllStillSupported (rows l.schemas) (columns l.schemas) l.progress.table l.progress.eliminated.items;
}

abbrev pub decreases-loop-last : goal.decreases-loop-last
decreases-loop-last l = count_remaining l.progress.table + length l.progress.eliminated.items
