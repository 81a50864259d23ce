use Rattle.std.proofs.Common.{◌≡◌, ℕ, ◌-◌, ◌<◌, false}
use Rattle.avro_resolve.specs.Inside.Remaining.{remains, IsAgreedRemainder, QueuesEliminated}
use Rattle.avro_resolve.specs.Inside.Schemas.{columns, rows}
use Rattle.avro_resolve.proofs.rows.eliminate_by_branch.Given as goal

abbrev pub invariant-loop-at : goal.invariant-loop-at
invariant-loop-at l = record {
  rest : IsAgreedRemainder (rows l.schemas) (columns l.schemas) l.progress.table;
  lists : QueuesEliminated l.initial.progress.table l.initial.progress.eliminated.items l.progress.table l.progress.eliminated.items;
  gone : (b : ℕ) → b < l.at → remains l.initial.progress.table l.branch b ≡ false → remains l.progress.table l.union b ≡ false;
  apart : l.at < l.places → remains l.progress.table l.branch l.at ≡ false;
}

abbrev pub decreases-loop-at : goal.decreases-loop-at
decreases-loop-at l = l.places - l.at
