use Rattle.std.proofs.Common.{map}
use Rattle.std.specs.Prelude.{Contains}
use Rattle.avro_nodes.specs.Nodes.{field_view, named_view, texts_view}
use Rattle.avro_schema.specs.Inside.NodeTexts.{borrowed, fields_texts, named_texts}
use Rattle.avro_schema.proofs.IndexLemmas.{all_left, all_right}
use Rattle.avro_schema.proofs.indexing.node_ranks.Goals as goal

pub named_ranks-requires-clause-known : goal.named_ranks-requires-clause-known
named_ranks-requires-clause-known c =
    let P = Contains (borrowed c.args.names.now) in
    all_left P (named_texts (named_view c.in-Enum.named)) (texts_view c.in-Enum.symbols.items) (rw c.in-Enum.is at c.requires.known)

pub sorted_ranks_of-requires-clause-known : goal.sorted_ranks_of-requires-clause-known
sorted_ranks_of-requires-clause-known c =
    let P = Contains (borrowed c.args.names.now) in
    rw c.deref.ensures.value (all_right P (named_texts (named_view c.in-Enum.named)) (texts_view c.in-Enum.symbols.items) (rw c.in-Enum.is at c.requires.known))

pub named_ranks-requires-in-Fixed-clause-known : goal.named_ranks-requires-in-Fixed-clause-known
named_ranks-requires-in-Fixed-clause-known c = rw c.in-Fixed.is at c.requires.known

pub named_ranks-requires-in-Rec-clause-known : goal.named_ranks-requires-in-Rec-clause-known
named_ranks-requires-in-Rec-clause-known c =
    let P = Contains (borrowed c.args.names.now) in
    all_left P (named_texts (named_view c.in-Rec.named)) (fields_texts (map field_view c.in-Rec.fields.items)) (rw c.in-Rec.is at c.requires.known)

pub fields_ranks-requires-clause-known : goal.fields_ranks-requires-clause-known
fields_ranks-requires-clause-known c =
    let P = Contains (borrowed c.args.names.now) in
    rw c.deref-in-Rec.ensures.value (all_right P (named_texts (named_view c.in-Rec.named)) (fields_texts (map field_view c.in-Rec.fields.items)) (rw c.in-Rec.is at c.requires.known))
