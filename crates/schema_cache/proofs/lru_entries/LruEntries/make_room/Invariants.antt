use Rattle.std.proofs.Common.{◌≡◌, length}
use Rattle.schema_cache.specs.Entries.{HasRoom}
use Rattle.schema_cache.proofs.lru_entries.LruEntries.make_room.Given as goal

abbrev pub decreases-loop-self : goal.decreases-loop-self
decreases-loop-self l = length l.self

abbrev pub invariant-loop-self : goal.invariant-loop-self
invariant-loop-self l = HasRoom l.text_len l.initial.self → l.self ≡ l.initial.self
