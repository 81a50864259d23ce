use Rattle.std.proofs.Common.{◌≡◌, ◌++◌, take}
use Rattle.avro_nodes.specs.Nodes.{texts_view}
use Rattle.avro_schema.specs.Inside.NodeTexts.{borrowed}
use Rattle.avro_schema.proofs.indexing.push_texts.Given as goal

abbrev pub invariant-loop-text : goal.invariant-loop-text
invariant-loop-text l = borrowed l.list.items ≡ borrowed l.initial.list.items ++ texts_view (take l.text-index l.texts)
