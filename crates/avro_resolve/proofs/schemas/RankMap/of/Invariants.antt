use Rattle.std.proofs.Common.{◌≤◌, length, take}
use Rattle.avro_nodes.specs.Nodes.{texts_view}
use Rattle.avro_resolve.specs.Inside.RankMaps.{AreMapped}
use Rattle.avro_resolve.proofs.RankMaps.{Passed}
use Rattle.avro_resolve.proofs.schemas.RankMap.of.Given as goal

abbrev pub invariant-loop-rank : goal.invariant-loop-rank
invariant-loop-rank l = record {
  within : l.from ≤ length l.reader;
  passed : Passed (texts_view l.writer) (texts_view l.reader) l.from l.rank;
  mapped : AreMapped (take l.rank (texts_view l.writer)) (texts_view l.reader) l.ranks.items;
}
