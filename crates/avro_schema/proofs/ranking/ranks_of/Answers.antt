use Rattle.std.proofs.Common.{string_bytes}
use Rattle.std.specs.Prelude.{Contains}
use Rattle.avro_schema.specs.Inside.NodeTexts.{borrowed}
use Rattle.avro_schema.proofs.IndexLemmas.{mapped_at}
use Rattle.avro_schema.proofs.ranking.ranks_of.Goals as goal

pub rank_of-requires-clause-known : goal.rank_of-requires-clause-known
rank_of-requires-clause-known c =
    rw c.as_str.ensures.value (mapped_at string_bytes (Contains (borrowed c.args.names.now)) c.args.texts.now c.loop-text.text-index c.text-item.result c.loop-text-test.true c.text-item.is c.requires.known)
