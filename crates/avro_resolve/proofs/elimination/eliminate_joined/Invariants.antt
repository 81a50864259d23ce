use Rattle.std.proofs.Common.{◌≡◌, ℕ, ◌-◌, ◌<◌, ◌≤◌, get_or, length}
use Rattle.avro_resolve.specs.Inside.Schemas.{columns, rows}
use Rattle.avro_resolve.specs.declared.links.Link.{Link}
use Rattle.avro_resolve.specs.Inside.Referrers.{LinkKindsMatch}
use Rattle.avro_resolve.specs.Inside.Remaining.{IsAgreedRemainder, QueuesEliminated, StillSupported}
use Rattle.avro_resolve.proofs.elimination.eliminate_joined.Given as goal

abbrev pub invariant-loop-link : goal.invariant-loop-link
invariant-loop-link l = record {
  rest : IsAgreedRemainder (rows l.schemas) (columns l.schemas) l.progress.table;
  lists : QueuesEliminated l.initial.progress.table l.initial.progress.eliminated.items l.progress.table l.progress.eliminated.items;
  within : l.from ≤ length l.reader_links;
  skipped : (k m : ℕ) (d e : Link) → k < l.from → l.link-index ≤ m → m < length l.writer_links → (get_or l.reader_links k d).label < (get_or l.writer_links m e).label;
  still_supported : (m k : ℕ) (e d : Link) → m < l.link-index → k < length l.reader_links → (get_or l.writer_links m e).label ≡ (get_or l.reader_links k d).label → LinkKindsMatch l.sources l.popped.0 (get_or l.writer_links m e) (get_or l.reader_links k d)
      → StillSupported (rows l.schemas) (columns l.schemas) l.progress.table l.progress.eliminated.items (get_or l.writer_links m e).referrer (get_or l.reader_links k d).referrer;
}

abbrev pub invariant-loop-at : goal.invariant-loop-at
invariant-loop-at l = record {
  on : l.from ≤ l.at;
  within : l.at ≤ length l.reader_links;
  rest : IsAgreedRemainder (rows l.schemas) (columns l.schemas) l.progress.table;
  lists : QueuesEliminated l.initial.progress.table l.initial.progress.eliminated.items l.progress.table l.progress.eliminated.items;
  still_supported : (k : ℕ) (d : Link) → l.from ≤ k → k < l.at → l.link.label ≡ (get_or l.reader_links k d).label → LinkKindsMatch l.sources l.popped.0 l.link (get_or l.reader_links k d)
      → StillSupported (rows l.schemas) (columns l.schemas) l.progress.table l.progress.eliminated.items l.link.referrer (get_or l.reader_links k d).referrer;
}

abbrev pub decreases-loop-at : goal.decreases-loop-at
decreases-loop-at l = length l.reader_links - l.at
