-- The results of a cache.
use Rattle.std.specs.Prelude.{◌≡◌, ℕ, nat_eq, List, Option, Some, None}
use Rattle.std.specs.Map.{lookup, remove_entry}
use Rattle.avro_nodes.specs.Nodes.{nodes_view}
use Rattle.avro_nodes.specs.declared.node.Node.{Node}
use Rattle.avro_schema.specs.DenotedNodes.{denoted_nodes}
use Rattle.schema_cache.specs.declared.cache_lookup.CacheLookup.{CacheLookup}
use Rattle.schema_cache.specs.declared.cache_lookup.CacheLookup.TheVariants as found
use Rattle.schema_cache.specs.Entries.{EntryView}

-- the nodes of the schema, cached or just parsed
abbrev pub found_schema : CacheLookup → List Node
found_schema (found.Cached schema) = schema.now
found_schema (found.Uncached schema) = schema

-- If a schema is given, the text denotes it, and the entry is ignored. Otherwise an entry is given, and it has this text.
abbrev pub IsSchemaOf : List ℕ → Option (List Node) → Option EntryView → Type 0
IsSchemaOf text (Some schema) entry = denoted_nodes text ≡ Some (nodes_view schema)
IsSchemaOf text None (Some entry) = entry.text ≡ text
IsSchemaOf text None None = ⊥

-- The result of taking the id's schema if it is cached with this text: the id's entry has the text, and it is removed; or nothing changes.
abbrev pub IsTaken : ℕ → List ℕ → List (ℕ × EntryView) → List (ℕ × EntryView) → Option (List Node) → Type 0
IsTaken id text old new (Some schema) = (lookup (nat_eq id) old ≡ Some (record { text = text; nodes = schema })) × (new ≡ remove_entry (nat_eq id) old)
IsTaken id text old new None = ¬ IsSchemaOf text None (lookup (nat_eq id) old) × (new ≡ old)
