use Rattle.std.proofs.Common.{ap, ◌∙◌, sym, arith}
use Rattle.std.proofs.lemmas.Option.{slice_get-get_or}
use Rattle.std.proofs.lemmas.Slice.Zip.{AllZip-long}
use Rattle.std.specs.Prelude.{Some}
use Rattle.avro_schema.specs.Index.{IsRanked}
use Rattle.avro_resolve.specs.Inside.Schemas.{nodes_of, names_of}
use Rattle.avro_resolve.proofs.Matching.{ranked_at}
use Rattle.avro_resolve.proofs.schemas.IndexedSchema.ranks.Goals as goal

pub index-requires : goal.index-requires
index-requires c =
    let indexed = c.args.self.now in
    let long = AllZip-long (IsRanked (names_of indexed)) (nodes_of indexed) indexed.index.now.ranks.items c.requires.indexed.index.ranked in
    let vec = indexed.index.now.ranks.ok.0 in
    omega (arith, long, vec, c.requires.within)

pub returns : goal.returns
returns c = λ a at.
    let indexed = c.args.self.now in
    let long = AllZip-long (IsRanked (names_of indexed)) (nodes_of indexed) indexed.index.now.ranks.items c.requires.indexed.index.ranked in
    ranked_at (nodes_of indexed) indexed.index.now c.requires.indexed.index c.args.place a c.index.result.now at
    (slice_get-get_or indexed.index.now.ranks.items c.args.place c.index.result.now (omega (arith, long, c.requires.within)) ∙ ap (λ v. Some v) (sym c.index.ensures))
