use Rattle.std.proofs.Common.{◌≡◌, take}
use Rattle.avro_nodes.specs.Nodes.{texts_view}
use Rattle.avro_schema.specs.Inside.NodeTexts.{borrowed}
use Rattle.avro_schema.proofs.ranking.owned.Given as goal

abbrev pub invariant-loop-text : goal.invariant-loop-text
invariant-loop-text l = texts_view l.list.items ≡ borrowed (take l.text-index l.texts)
