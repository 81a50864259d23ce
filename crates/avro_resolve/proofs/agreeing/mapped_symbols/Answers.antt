use Rattle.std.proofs.Common.{ℕ, List, get_or, sym, subst, ◌∙◌, take_all}
use Rattle.avro_schema.specs.Index.{AreSortedRanks}
use Rattle.avro_resolve.specs.Inside.Agreeing.{symbols_of}
use Rattle.avro_resolve.specs.Inside.RankMaps.{AreMappedRanks}
use Rattle.avro_resolve.specs.Inside.Schemas.{names_of}
use Rattle.avro_resolve.proofs.ListLemmas.{get_or_any}
use Rattle.avro_resolve.proofs.Matching.{symbols_ranked}
use Rattle.avro_resolve.proofs.RankMaps.{met_rising, not_met}
use Rattle.avro_resolve.proofs.agreeing.mapped_symbols.Goals as goal

pub returns-in_default : goal.returns-in_default
returns-in_default c = λ a at.
    let schemas = c.args.schemas.now in let w = names_of schemas.writer in let r = names_of schemas.reader in
    let ranks = c.symbols_of-symbols.result.now in let k = c.loop-symbol.symbol-index in
    let ranked = subst (λ (xs : List ℕ). AreSortedRanks w (symbols_of a) xs) (sym c.symbols_of-symbols.ensures) (symbols_ranked w a c.ranks.result.now (c.ranks.ensures a at)) in
    not_met w r schemas.rank_map.ranks.items c.requires.schemas.rank_map (symbols_of a) ranks ranked (k, get_or ranks k 0, c.loop-symbol-test.true, get_or_any ranks k (get_or ranks k 0) 0 c.loop-symbol-test.true, sym c.rank.ensures ∙ c.in_default.is)

pub returns : goal.returns
returns c = λ a at.
    let schemas = c.args.schemas.now in let w = names_of schemas.writer in let r = names_of schemas.reader in
    let ranks = c.symbols_of-symbols.result.now in let found = c.loop-symbol.found.items in let rank_map = schemas.rank_map.ranks.items in
    let ranked = subst (λ (xs : List ℕ). AreSortedRanks w (symbols_of a) xs) (sym c.symbols_of-symbols.ensures) (symbols_ranked w a c.ranks.result.now (c.ranks.ensures a at)) in
    let all = subst (λ (xs : List ℕ). AreMappedRanks rank_map xs found) (take_all c.loop-symbol.symbol-index ranks c.loop-symbol-test.false) c.loop-symbol.invariant in
    met_rising w r rank_map c.requires.schemas.rank_map (symbols_of a) ranks ranked found all c.requires.schemas.writer.index.names.rise c.requires.schemas.reader.index.names.rise
