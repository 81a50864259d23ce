use Rattle.std.specs.Prelude.{Contains, string_bytes}
use Rattle.std.proofs.lemmas.List.Elements.{All-head, All-tail}
use Rattle.avro_nodes.specs.Nodes.{texts_view}
use Rattle.avro_schema.specs.Inside.NodeTexts.{borrowed}
use Rattle.avro_schema.proofs.indexing.field_ranks.Goals as goal

pub ranks_of-requires-clause-known : goal.ranks_of-requires-clause-known
ranks_of-requires-clause-known c =
    let field = c.args.field.now in
    rw c.deref.ensures.value (All-tail (Contains (borrowed c.args.names.now)) (string_bytes field.name) (texts_view field.aliases.items) c.requires.known)

pub rank_of-name-requires-clause-known : goal.rank_of-name-requires-clause-known
rank_of-name-requires-clause-known c =
    let field = c.args.field.now in
    rw c.as_str.ensures.value (All-head (Contains (borrowed c.args.names.now)) (string_bytes field.name) (texts_view field.aliases.items) c.requires.known)
