use Rattle.std.proofs.Common.{ℕ, ◌<◌, ◌^◌, List, length, ap, arith}
use Rattle.std.specs.Borrow.{Bor}
use Rattle.std.proofs.lemmas.List.{length-map}
use Rattle.avro_schema.specs.Index.{AreIndexNames}
use Rattle.avro_schema.specs.Inside.NodeTexts.{borrowed}
use Rattle.avro_schema.proofs.indexing.index_of.Goals as goal

pub nodes_ranks-requires-clause-known : goal.nodes_ranks-requires-clause-known
nodes_ranks-requires-clause-known c = rw (c.deref.ensures.value, ← c.in_ok-texts.ensures) c.in_ok-sorted.ensures.all

pub returns : goal.returns
returns c =
    let sorted = c.deref.result.now in
    let few : length (borrowed sorted) < 2 ^ 32 = omega (arith, length-map sorted (λ text. text.now), c.len.ensures, c.if-len-gt-MAX_NAMES.false, ap (λ (texts : List (Bor (List ℕ))). length texts) c.deref.ensures.value) in
    let names : AreIndexNames (borrowed sorted) = record { rise = rw c.deref.ensures.value c.in_ok-sorted.ensures.rise; few = few } in
    record {
      names = rw (c.in_ok-names.ensures, c.deref-3.ensures.value, ← c.deref.ensures.value) names;
      ranked = rw (c.in_ok-names.ensures, c.deref-3.ensures.value, ← c.deref.ensures.value) c.in_ok-ranks.ensures;
    }
