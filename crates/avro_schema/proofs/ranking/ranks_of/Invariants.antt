use Rattle.std.proofs.Common.{take}
use Rattle.avro_nodes.specs.Nodes.{texts_view}
use Rattle.avro_schema.specs.Index.{AreRanks}
use Rattle.avro_schema.specs.Inside.NodeTexts.{borrowed}
use Rattle.avro_schema.proofs.ranking.ranks_of.Given as goal

abbrev pub invariant-loop-text : goal.invariant-loop-text
invariant-loop-text l = AreRanks (borrowed l.names) (texts_view (take l.text-index l.texts)) l.ranks.items
