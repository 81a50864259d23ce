use Rattle.std.proofs.Common.{◌≡◌, length, take}
use Rattle.sqlite.specs.State.{HasCleanDisk}
use Rattle.reg_core.specs.Stored.{Stored}
use Rattle.reg_store.specs.Spells.{SpellsWhileOpen}
use Rattle.reg_store.specs.Inside.Reads.{CommitsNothing, shown}
use Rattle.reg_store.specs.Listings.{lines_of, schema_lines}
use Rattle.reg_store.proofs.store.schema_lines.each_schema.Given as goal

abbrev pub invariant-loop-index : goal.invariant-loop-index
invariant-loop-index g l = record {
  rests : CommitsNothing (shown l.initial.db) (shown l.db);
  read : HasCleanDisk (shown l.db) → (was : Stored) → SpellsWhileOpen (shown l.initial.db) was → l.count ≡ length was.registry.schemas → lines_of l.lines ≡ take l.index (schema_lines was.registry.schemas);
}
