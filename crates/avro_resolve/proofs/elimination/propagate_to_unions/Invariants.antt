use Rattle.std.proofs.Common.{◌≡◌, ℕ, ◌<◌, false, get_or}
use Rattle.std.specs.Prelude.{All}
use Rattle.avro_resolve.specs.Witnesses.{Pair}
use Rattle.avro_resolve.specs.Inside.Remaining.{remains, IsAgreedRemainder, QueuesEliminated, StillSupported}
use Rattle.avro_resolve.specs.Inside.Lists.{list_at}
use Rattle.avro_resolve.specs.Inside.Schemas.{columns, rows}
use Rattle.avro_resolve.proofs.elimination.propagate_to_unions.Given as goal

abbrev pub invariant-loop-union : goal.invariant-loop-union
invariant-loop-union l = record {
  rest : IsAgreedRemainder (rows l.schemas) (columns l.schemas) l.progress.table;
  lists : QueuesEliminated l.initial.progress.table l.initial.progress.eliminated.items l.progress.table l.progress.eliminated.items;
  gone : (k d : ℕ) → k < l.union-index → All (λ (p : Pair). remains l.progress.table (get_or l.union-items k d) p.1 ≡ false) l.run;
}

abbrev pub invariant-loop-to : goal.invariant-loop-to
invariant-loop-to l = record {
  rest : IsAgreedRemainder (rows l.schemas) (columns l.schemas) l.progress.table;
  lists : QueuesEliminated l.initial.progress.table l.initial.progress.eliminated.items l.progress.table l.progress.eliminated.items;
  gone : (k : ℕ) (d : Pair) → k < l.to-index → remains l.progress.table l.union (get_or l.run k d).1 ≡ false;
}

abbrev pub invariant-loop-j : goal.invariant-loop-j
invariant-loop-j l = record {
  rest : IsAgreedRemainder (rows l.schemas) (columns l.schemas) l.progress.table;
  lists : QueuesEliminated l.initial.progress.table l.initial.progress.eliminated.items l.progress.table l.progress.eliminated.items;
  along : (k : ℕ) (d : Pair) → k < l.j-index → All (StillSupported (rows l.schemas) (columns l.schemas) l.progress.table l.progress.eliminated.items l.row) (list_at l.dependents.columns.unions.items (get_or l.run k d).1);
}
