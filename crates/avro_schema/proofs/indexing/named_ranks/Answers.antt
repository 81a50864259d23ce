use Rattle.std.proofs.Common.{◌∷◌, ◌∙◌, ap}
use Rattle.std.specs.Prelude.{Contains, string_bytes}
use Rattle.std.proofs.lemmas.List.Elements.{All-head, All-tail}
use Rattle.avro_nodes.specs.Names.{last_part}
use Rattle.avro_nodes.specs.Nodes.{texts_view}
use Rattle.avro_schema.specs.Inside.NodeTexts.{borrowed}
use Rattle.avro_schema.proofs.indexing.named_ranks.Goals as goal

pub sorted_ranks_of-requires-clause-known : goal.sorted_ranks_of-requires-clause-known
sorted_ranks_of-requires-clause-known c =
    let P = Contains (borrowed c.args.names.now) in let full = string_bytes c.args.named.now.name in let aliases = texts_view c.args.named.now.aliases.items in
    rw c.deref.ensures.value (All-tail P full aliases (All-tail P (last_part full) (full ∷ aliases) c.requires.known))

pub rank_of-last-requires-clause-known : goal.rank_of-last-requires-clause-known
rank_of-last-requires-clause-known c =
    let P = Contains (borrowed c.args.names.now) in let full = string_bytes c.args.named.now.name in let aliases = texts_view c.args.named.now.aliases.items in
    rw (c.last_part.ensures ∙ ap last_part c.as_str-name.ensures.value) (All-head P (last_part full) (full ∷ aliases) c.requires.known)

pub rank_of-full-requires-clause-known : goal.rank_of-full-requires-clause-known
rank_of-full-requires-clause-known c =
    let P = Contains (borrowed c.args.names.now) in let full = string_bytes c.args.named.now.name in let aliases = texts_view c.args.named.now.aliases.items in
    rw c.as_str-name.ensures.value (All-head P full aliases (All-tail P (last_part full) (full ∷ aliases) c.requires.known))
