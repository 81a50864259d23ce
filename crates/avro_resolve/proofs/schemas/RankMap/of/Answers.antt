use Rattle.std.proofs.Common.{◌≡◌, ◌<◌, ℕ, List, Option, Some, length, take, subst, arith}
use Rattle.std.proofs.lemmas.List.{length-map}
use Rattle.std.proofs.lemmas.Option.{slice_get_within}
use Rattle.avro_nodes.specs.Nodes.{texts_view}
use Rattle.avro_resolve.specs.Inside.RankMaps.{mapped_rank}
use Rattle.avro_resolve.proofs.RankMaps.{name_at, passed, met_below, met_more}
use Rattle.avro_resolve.proofs.schemas.RankMap.of.Goals as goal

pub first_from-at-requires-clause-few : goal.first_from-at-requires-clause-few
first_from-at-requires-clause-few c =
    let few = c.requires.reader.few in
    let long : length (texts_view c.args.reader.now) ≡ length c.args.reader.now = length-map _ _ in
    omega arith

pub loop-rank-preserved : goal.loop-rank-preserved
loop-rank-preserved c =
    let w = texts_view c.args.writer.now in let r = texts_view c.args.reader.now in
    let i = c.loop-rank.rank in let from = c.loop-rank.from in let at = c.first_from-at.result.0 in let name = c.as_str.result.now in
    let is = name_at c.args.writer.now i c.index-writer-rank.result name c.loop-rank-test.true c.index-writer-rank.is c.as_str.ensures.value in
    let l : i < length w = slice_get_within w i name is in
    let long : length r ≡ length c.args.reader.now = length-map _ _ in
    let least = λ (k : at < length r). c.first_from-at.ensures.at (omega (arith, k, long)) in
    record {
      within = c.first_from-at.ensures.within;
      passed = passed w r i from at name l is c.loop-rank.invariant.passed c.first_from-at.ensures.below c.requires.writer.rise;
      mapped = rw c.in_ok-push.ensures.items (met_more w r i from at name l is c.loop-rank.invariant.passed c.first_from-at.ensures.below c.requires.reader.rise least c.first_from-at.result.1 c.first_from-at.ensures.mapped c.loop-rank.ranks.items c.loop-rank.invariant.mapped);
    }

pub known_of-requires : goal.known_of-requires
known_of-requires c k rank e =
    let w = texts_view c.args.writer.now in let r = texts_view c.args.reader.now in
    let long : length r ≡ length c.args.reader.now = length-map _ _ in
    let below = met_below (take c.loop-rank.rank w) r c.loop-rank.ranks.items c.loop-rank.invariant.mapped k rank (subst (λ (os : List (Option ℕ)). mapped_rank os k ≡ Some rank) c.deref.ensures.value e) in
    omega (arith, below, long)
