use Rattle.std.proofs.Common.{ℕ, ◌<◌, get_or, length}
use Rattle.avro_resolve.specs.Inside.FieldSlots.{NoField, names_in}
use Rattle.avro_resolve.proofs.field_slots.find_source.Given as goal

abbrev pub invariant-loop-alias : goal.invariant-loop-alias
invariant-loop-alias l = (k : ℕ) → k < l.alias-index → k < length l.names.aliases.items → NoField l.schemas.rank_map.ranks.items (names_in l.fields.ranks.now) (get_or l.names.aliases.items k 0)
