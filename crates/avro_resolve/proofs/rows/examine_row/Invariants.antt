use Rattle.std.proofs.Common.{ℕ, ◌<◌, get_or}
use Rattle.avro_resolve.specs.Inside.Schemas.{columns, rows}
use Rattle.avro_resolve.specs.Inside.Remaining.{NeedsBranch, IsAgreedRemainder, QueuesEliminated, StillSupported}
use Rattle.avro_resolve.proofs.rows.examine_row.Given as goal

abbrev pub invariant-loop-branch : goal.invariant-loop-branch
invariant-loop-branch l = record {
  rest : IsAgreedRemainder (rows l.schemas) (columns l.schemas) l.progress.table;
  lists : QueuesEliminated l.initial.progress.table l.initial.progress.eliminated.items l.progress.table l.progress.eliminated.items;
  goes : (k d b : ℕ) → k < l.branch-index → NeedsBranch l.progress.table l.progress.eliminated.items l.row.place (get_or l.branch-items k d) b;
}

abbrev pub invariant-loop-j : goal.invariant-loop-j
invariant-loop-j l = record {
  rest : IsAgreedRemainder (rows l.schemas) (columns l.schemas) l.progress.table;
  lists : QueuesEliminated l.initial.progress.table l.initial.progress.eliminated.items l.progress.table l.progress.eliminated.items;
  still_supported : (b : ℕ) → b < l.j → StillSupported (rows l.schemas) (columns l.schemas) l.progress.table l.progress.eliminated.items l.row.place b;
}
