-- The entries of a cache.
use Rattle.std.specs.Prelude.{ℕ, List, [], Option, Some, None}
use Rattle.schema_cache.specs.Entries.{EntryView}

-- the entries, or none before they are allocated
abbrev pub entries_in : Option (List (ℕ × EntryView)) → List (ℕ × EntryView)
entries_in None = []
entries_in (Some entries) = entries
