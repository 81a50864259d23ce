use Rattle.std.specs.Prelude.{eqb}
use Rattle.std.proofs.lemmas.List.Filters.{dedup_is}
use Rattle.avro_nodes.specs.Nodes.{texts_view}
use Rattle.avro_schema.specs.Inside.NodeTexts.{borrowed}
use Rattle.avro_schema.proofs.RankLemmas.{rising}
use Rattle.avro_schema.proofs.ranking.sorted_ranks_of.Goals as goal

pub returns : goal.returns
returns c =
    let sorted = c.sort_unstable.new.self.items in
    rw (dedup_is eqb sorted c.dedup.new.self.items c.dedup.ensures.filtered)
    (rising (borrowed c.args.names.now) (texts_view c.args.texts.now) c.in_ok-ranks.ranks.items sorted c.in_ok-ranks.ensures c.sort_unstable.ensures.permutation c.sort_unstable.ensures.sorted)
