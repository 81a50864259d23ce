use Rattle.std.proofs.Common.{take}
use Rattle.avro_resolve.specs.Inside.RankMaps.{AreMappedRanks}
use Rattle.avro_resolve.proofs.agreeing.mapped_symbols.Given as goal

abbrev pub invariant-loop-symbol : goal.invariant-loop-symbol
invariant-loop-symbol l = AreMappedRanks l.schemas.rank_map.ranks.items (take l.symbol-index l.symbols) l.found.items
