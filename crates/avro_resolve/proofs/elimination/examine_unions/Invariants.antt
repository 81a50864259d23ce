use Rattle.std.proofs.Common.{◌≡◌, ℕ, ◌<◌, List, Some, get_or}
use Rattle.std.specs.Prelude.{slice_get}
use Rattle.avro_nodes.specs.Nodes.{union}
use Rattle.avro_resolve.specs.Inside.Schemas.{columns, rows}
use Rattle.avro_resolve.specs.Inside.Remaining.{IsAgreedRemainder, QueuesEliminated, StillSupported}
use Rattle.avro_resolve.proofs.elimination.examine_unions.Given as goal

abbrev pub invariant-loop-j : goal.invariant-loop-j
invariant-loop-j l = record {
  rest : IsAgreedRemainder (rows l.schemas) (columns l.schemas) l.progress.table;
  lists : QueuesEliminated l.initial.progress.table l.initial.progress.eliminated.items l.progress.table l.progress.eliminated.items;
  still_supported : (k d : ℕ) → k < l.j-index → (branches : List ℕ) → slice_get (columns l.schemas) (get_or l.unions k d) ≡ Some (union branches)
      → StillSupported (rows l.schemas) (columns l.schemas) l.progress.table l.progress.eliminated.items l.i (get_or l.unions k d);
}
