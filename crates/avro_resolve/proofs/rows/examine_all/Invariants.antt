use Rattle.std.proofs.Common.{ℕ, ◌<◌, ◌≤◌, length, take}
use Rattle.std.specs.Prelude.{Vec}
use Rattle.std.specs.List.{AllZip}
use Rattle.std.specs.declared.alloc.Global.{Global}
use Rattle.avro_resolve.specs.Inside.Agreeing.{fields_of}
use Rattle.avro_resolve.specs.Inside.FieldSlots.{IsClear}
use Rattle.avro_resolve.specs.Inside.Remaining.{IsAgreedRemainder, QueuesEliminated, StillSupported}
use Rattle.avro_resolve.specs.Inside.Schemas.{columns, names_of, rows}
use Rattle.avro_resolve.specs.Inside.Sources.{IsSourceEntry}
use Rattle.avro_resolve.proofs.rows.examine_all.Given as goal

abbrev pub invariant-loop-place : goal.invariant-loop-place
invariant-loop-place l = record {
  clear : IsClear l.slots;
  room : length (names_of l.schemas.reader) ≤ length l.slots;
  sources : AllZip (λ a (row : Vec ℕ Global). AllZip (IsSourceEntry (columns l.schemas) (fields_of a)) l.aliased row.items) (take l.place (rows l.schemas)) l.sources.items;
  rest : IsAgreedRemainder (rows l.schemas) (columns l.schemas) l.progress.table;
  lists : QueuesEliminated l.fn.progress.table l.fn.progress.eliminated.items l.progress.table l.progress.eliminated.items;
  still_supported : (a b : ℕ) → a < l.place → b < length l.schemas.reader.schema.now → StillSupported (rows l.schemas) (columns l.schemas) l.progress.table l.progress.eliminated.items a b;
}
