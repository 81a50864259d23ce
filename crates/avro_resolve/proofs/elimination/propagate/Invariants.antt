use Rattle.std.proofs.Common.{ℕ, ◌<◌, get_or}
use Rattle.avro_resolve.specs.Witnesses.{Pair}
use Rattle.avro_resolve.specs.Inside.Referrers.{Joins}
use Rattle.avro_resolve.specs.Inside.Remaining.{IsAgreedRemainder, QueuesEliminated, StillSupported}
use Rattle.avro_resolve.specs.Inside.Lists.{list_at}
use Rattle.avro_resolve.specs.Inside.Schemas.{columns, rows}
use Rattle.avro_resolve.proofs.elimination.propagate.Given as goal

abbrev pub invariant-loop-j : goal.invariant-loop-j
invariant-loop-j l = record {
  rest : IsAgreedRemainder (rows l.schemas) (columns l.schemas) l.progress.table;
  lists : QueuesEliminated l.initial.progress.table l.initial.progress.eliminated.items l.progress.table l.progress.eliminated.items;
  joined : (k : ℕ) (d : Pair) → k < l.j-index → Joins l.dependents.sources.items l.row (StillSupported (rows l.schemas) (columns l.schemas) l.progress.table l.progress.eliminated.items)
      (list_at l.dependents.rows.lists.items l.row) (list_at l.dependents.columns.lists.items (get_or l.run k d).1);
}
